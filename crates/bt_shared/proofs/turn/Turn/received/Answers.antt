use Rattle.std.proofs.Common.{refl, subst, sym}
use Rattle.bt_shared.specs.Passes.{IsTurnOf}
use Rattle.bt_shared.proofs.Turns.{grows_gains, turn_grows}
use Rattle.bt_shared.proofs.turn.Turn.received.Goals as goal

pub invariant_of-self : goal.invariant_of-self
invariant_of-self c =
    let w = c.self.inside.worker in
    let m = c.self.inside.seat.me in
    let found = c.deref_mut.result.now in
    let gains = c.receive.ensures.gains in (
      turn_grows w m found c.receive.new.picker (subst (IsTurnOf w m) (sym c.deref_mut.ensures.value) c.self.invariant.0) gains.setting
          (grows_gains w found c.receive.new.picker _ refl gains),
      c.self.invariant.1,
    )
