use Rattle.std.proofs.Common.{◌∙◌, ap, length, sym}
use Rattle.std.specs.Prelude.{nat_lt}
use Rattle.bt_tables.specs.Showing.{Dealings}
use Rattle.bt_picker.proofs.Overdue.{late_with_nothing, spent_with_nothing}
use Rattle.bt_picker.proofs.position.Position.is_spent.Goals as goal

pub returns-else-has_late : goal.returns-else-has_late
returns-else-has_late c =
    let d = c.args.self.now in
    let none = ap (λ (r : Dealings). nat_lt 0 (length r.overdue)) (sym c.peer.ensures) ∙ (sym c.has_late.ensures ∙ c.if-has_late.false) in
    c.if-has_late.false ∙ sym (spent_with_nothing d.setting d.history c.args.worker c.args.piece (λ b.
    late_with_nothing d.history c.args.worker b none))
