use Rattle.std.proofs.Common.{◌≡◌, ◌*◌, ◌≤◌}
use Rattle.bt_history.specs.Counting.{sum_below}
use Rattle.bt_meta.specs.Layout.{block_count}
use Rattle.bt_text.proofs.info.count_blocks.Given as goal

abbrev pub invariant-loop-piece : goal.invariant-loop-piece
invariant-loop-piece l = record {
  counted : l.blocks ≡ sum_below l.piece (block_count l.torrent.layout);
  few : l.blocks ≤ 131073 * l.piece;
}
