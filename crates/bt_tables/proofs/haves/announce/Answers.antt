use Rattle.std.proofs.Common.{◌∙◌, Bool, ap, false, not, true}
use Rattle.std.specs.Prelude.{slice_index_or}
use Rattle.bt_tables.specs.Tables.{PieceState, fresh_piece, less_available, more_available, peer_row, piece_row}
use Rattle.bt_tables.proofs.Added.{counted_once}
use Rattle.bt_tables.proofs.Tabled.{edit_same}
use Rattle.bt_tables.proofs.haves.announce.Goals as goal

pub returns-clause-pieces : goal.returns-clause-pieces
returns-clause-pieces c =
    let rows = c.args.pieces.now in
    let p = c.args.piece in
    let shown = slice_index_or (peer_row c.args.peers.now c.args.worker).shows p false in
    let once : PieceState → PieceState = λ row. more_available true (less_available shown row) in
    let anew : Bool → PieceState → PieceState = λ b row. more_available b (less_available false row) in
    c.announce.ensures
    ∙ edit_same rows p (anew (not c.shows-is_new.result)) once (fresh_piece 0) c.requires.piece
    (ap (λ (b : Bool). anew (not b) (piece_row rows p)) c.shows-is_new.ensures ∙ counted_once (piece_row rows p) shown c.requires.counted)
