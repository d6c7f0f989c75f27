use Rattle.std.proofs.Common.{◌∙◌, ap}
use Rattle.bt_tables.specs.Tables.{PieceState}
use Rattle.bt_picker.proofs.Entered.{piece_row_is}
use Rattle.bt_picker.proofs.position.Position.availability.Goals as goal

pub returns : goal.returns
returns c =
    let lt = rw (← c.self.view_is) at c.requires in
    rw (← c.self.view_is) (c.availability.ensures ∙ ap (λ (r : PieceState). r.availability) (piece_row_is _ _ c.self.invariant c.args.piece lt))
