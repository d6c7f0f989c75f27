use Rattle.std.proofs.Common.{◌≡◌}
use Rattle.std.specs.Io.KnownBytes.{Appends}
use Rattle.bt_meta.specs.Layout.{block}
use Rattle.bt_history.specs.Pieces.{content_of_block, joined_below}
use Rattle.bt_picker.proofs.filed.Filed.write_piece.Given as goal

abbrev pub invariant-loop-index : goal.invariant-loop-index
invariant-loop-index g l = record {
  wrote : Appends (g.W.Sink.written l.fn.writer) (g.W.Sink.written l.writer)
      (joined_below l.index (λ k. content_of_block l.self.history (block l.self.setting.torrent l.piece k)));
  sound : g.W.Sink.failed l.writer ≡ g.W.Sink.failed l.fn.writer;
}
