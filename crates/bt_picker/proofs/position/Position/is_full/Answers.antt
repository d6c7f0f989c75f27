use Rattle.std.proofs.Common.{◌∙◌, ◌==◌, ap, length}
use Rattle.bt_tables.specs.Tables.{PieceState}
use Rattle.bt_tables.specs.Standings.{held_count}
use Rattle.bt_picker.proofs.Telling.{full_row}
use Rattle.bt_picker.proofs.position.Position.is_full.Goals as goal

pub returns : goal.returns
returns c =
    let d = c.args.self.now in
    c.is_full.ensures ∙ (ap (λ (r : PieceState). held_count r.blocks == length r.blocks) c.piece.ensures ∙ full_row d.setting d.history c.args.piece)
