use Rattle.bt_check.proofs.RoundsLemmas.{TakesRounds_five}
use Rattle.bt_check.proofs.compress.parity_five.Goals as goal

pub returns : goal.returns
returns c =
    TakesRounds_five c.args.w.now c.args.v _ _ _ _ _ _ _ _ _ _ c.args.t c.parity_step-v.ensures
    c.parity_step-v-2.ensures c.parity_step-v-3.ensures c.parity_step-v-4.ensures c.parity_step.ensures
