use Rattle.std.proofs.Common.{◌∙◌, ap, sym}
use Rattle.bt_tables.specs.Tables.{PieceState}
use Rattle.bt_tables.proofs.Sweeps.{same_level}
use Rattle.bt_tables.proofs.sweep.put_level.Goals as goal

pub returns-else-level : goal.returns-else-level
returns-else-level c = same_level c.args.pieces.now c.args.piece c.args.level c.requires
    (ap (λ (row : PieceState). row.level) (sym c.row.ensures) ∙ sym c.level.ensures ∙ c.if-level.false)
