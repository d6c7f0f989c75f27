use Rattle.std.proofs.Common.{◌<◌}
use Rattle.bt_meta.specs.Layout.{piece_count}
use Rattle.bt_history.specs.Pieces.{content}
use Rattle.bt_picker.proofs.Contents.{front_below, on_err}
use Rattle.bt_picker.proofs.filed.Filed.write_pieces.Goals as goal

pub returns-in_err-write_piece-clause-err : goal.returns-in_err-write_piece-clause-err
returns-in_err-write_piece-clause-err g c =
    let d = c.args.self.now in
    let pieces = piece_count d.setting.torrent in
    let lt : c.loop-piece.piece < pieces = rw c.piece_count-piece-end.ensures at c.loop-piece-test.true in
    on_err c.from_residual.result _
    (front_below pieces c.loop-piece.piece (content d.setting d.history) _ _ _ lt c.loop-piece.invariant.wrote c.in_err-write_piece.ensures.err)
