use Rattle.bt_check.proofs.RoundsLemmas.{TakesRounds_five}
use Rattle.bt_check.proofs.compress.majority_five.Goals as goal

pub returns : goal.returns
returns c =
    TakesRounds_five c.args.w.now c.args.v _ _ _ _ _ _ _ _ _ _ c.args.t c.majority_step-v.ensures
    c.majority_step-v-2.ensures c.majority_step-v-3.ensures c.majority_step-v-4.ensures c.majority_step.ensures
