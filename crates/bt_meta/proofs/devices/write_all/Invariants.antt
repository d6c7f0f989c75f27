use Rattle.std.proofs.Common.{◌≡◌, length}
use Rattle.bt_meta.proofs.Written.{Partly}
use Rattle.bt_meta.proofs.devices.write_all.Given as goal

abbrev pub invariant-loop-rest : goal.invariant-loop-rest
invariant-loop-rest g l = record {
  partly : Partly (g.W.Sink.written l.fn.writer) (g.W.Sink.written l.writer) l.bytes l.rest;
  sound : g.W.Sink.failed l.writer ≡ g.W.Sink.failed l.fn.writer;
}

abbrev pub decreases-loop-rest : goal.decreases-loop-rest
decreases-loop-rest g l = length l.rest
