use Rattle.std.proofs.Common.{subst, sym}
use Rattle.bt_shared.specs.Passes.{IsTurnOf}
use Rattle.bt_shared.proofs.Turns.{turn_grows}
use Rattle.bt_shared.proofs.turn.Turn.judge.Goals as goal

pub invariant_of-self : goal.invariant_of-self
invariant_of-self c =
    let w = c.self.inside.worker in
    let m = c.self.inside.seat.me in (
      turn_grows w m c.deref_mut.result.now c.judge.new.picker (subst (IsTurnOf w m) (sym c.deref_mut.ensures.value) c.self.invariant.0)
          c.judge.ensures.setting c.judge.ensures.grows,
      c.self.invariant.1,
    )
