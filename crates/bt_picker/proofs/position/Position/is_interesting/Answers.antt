use Rattle.std.proofs.Common.{◌∙◌, ap, length, sym}
use Rattle.std.specs.Prelude.{nat_lt}
use Rattle.bt_tables.specs.Showing.{Dealings}
use Rattle.bt_picker.proofs.Overdue.{late_with_nothing}
use Rattle.bt_picker.proofs.position.Position.is_interesting.Goals as goal

pub is_interesting_prompt-requires-clause-prompt : goal.is_interesting_prompt-requires-clause-prompt
is_interesting_prompt-requires-clause-prompt c b =
    late_with_nothing c.args.self.now.history c.args.worker b (ap (λ (r : Dealings). nat_lt 0 (length r.overdue)) (sym c.peer.ensures)
    ∙ (sym c.has_late.ensures ∙ c.if-has_late.false))
