use Rattle.std.proofs.Common.{◌∙◌, ap}
use Rattle.std.specs.Prelude.{nat_lt}
use Rattle.bt_tables.specs.Tables.{PieceState}
use Rattle.bt_tables.specs.Standings.{touched_count}
use Rattle.bt_picker.proofs.Telling.{touched_row}
use Rattle.bt_picker.proofs.position.Position.is_touched.Goals as goal

pub returns : goal.returns
returns c =
    let d = c.args.self.now in
    c.is_touched.ensures ∙ (ap (λ (r : PieceState). nat_lt 0 (touched_count r.blocks)) c.piece.ensures ∙ touched_row d.setting d.history c.args.piece)
