use Rattle.std.proofs.Common.{◌==◌, ◌&&◌, ◌∙◌, ap, sym}
use Rattle.std.specs.List.{list_any}
use Rattle.bt_tables.proofs.Flagged.{no_length}
use Rattle.bt_tables.proofs.line.Line.is_late.Goals as goal

pub returns-else-has_late : goal.returns-else-has_late
returns-else-has_late c =
    c.if-has_late.false ∙ ap (list_any (λ b. (c.args.piece == b.piece) && (c.args.begin == b.begin)))
    (sym (no_length c.args.self.now.overdue (sym c.has_late.ensures ∙ c.if-has_late.false)))
