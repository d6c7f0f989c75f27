use Rattle.std.proofs.Common.{Bool, ap, ◌∙◌}
use Rattle.bt_history.specs.declared.call.Reply.TheVariants.{Noted}
use Rattle.bt_tables.proofs.FloorSteps.{raise_floor}
use Rattle.bt_tables.proofs.tables.Tables.note_interest.Goals as goal

pub invariant_of-self : goal.invariant_of-self
invariant_of-self c =
    let o = c.self.inside in
    let lw = rw (← c.self.view_is) at c.requires.worker in
    let none = rw (← c.self.view_is) at c.requires.none in
    let is = c.in-Noted-false.is ∙ ap (λ (x : Bool). Noted x) c.in-Noted-false.field-0-test in
    rw c.put.ensures (raise_floor o.floors o.peers o.pieces c.args.worker _ c.self.invariant lw (none is _))
