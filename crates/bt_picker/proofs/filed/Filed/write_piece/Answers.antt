use Rattle.std.proofs.Common.{◌<◌, ℕ, List}
use Rattle.bt_meta.specs.Layout.{block, block_count}
use Rattle.bt_history.specs.Pieces.{content_of_block}
use Rattle.bt_picker.proofs.Contents.{front_below, on_err}
use Rattle.bt_picker.proofs.filed.Filed.write_piece.Goals as goal

pub returns-in_err-write_all-clause-err : goal.returns-in_err-write_all-clause-err
returns-in_err-write_all-clause-err g c =
    let d = c.args.self.now in
    let p = c.args.piece in
    let texts : ℕ → List ℕ = λ k. content_of_block d.history (block d.setting.torrent p k) in
    let lt : c.loop-index.index < block_count d.setting.torrent p = rw c.block_count-index-end.ensures at c.loop-index-test.true in
    let cut = rw c.held_bytes.ensures at c.in_err-write_all.ensures.err in
    on_err c.from_residual.result _ (front_below (block_count d.setting.torrent p) c.loop-index.index texts _ _ _ lt c.loop-index.invariant.wrote cut)
