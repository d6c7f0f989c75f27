use Rattle.std.proofs.Common.{◌≡◌}
use Rattle.std.specs.Io.KnownBytes.{Appends}
use Rattle.bt_history.specs.Pieces.{content, joined_below}
use Rattle.bt_picker.proofs.filed.Filed.write_pieces.Given as goal

abbrev pub invariant-loop-piece : goal.invariant-loop-piece
invariant-loop-piece g l = record {
  wrote : Appends (g.W.Sink.written l.fn.writer) (g.W.Sink.written l.writer) (joined_below l.piece (content l.self.setting l.self.history));
  sound : g.W.Sink.failed l.writer ≡ g.W.Sink.failed l.fn.writer;
}
