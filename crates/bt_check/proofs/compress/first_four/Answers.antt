use Rattle.bt_check.proofs.RoundsLemmas.{TakesFirstRounds_four}
use Rattle.bt_check.proofs.compress.first_four.Goals as goal

pub returns : goal.returns
returns c =
    TakesFirstRounds_four c.args.w.now c.args.v _ _ _ _ c.args.t c.first_step-v.ensures c.first_step-v-2.ensures c.first_step-v-3.ensures
    c.first_step.ensures
