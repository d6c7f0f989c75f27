use Rattle.std.proofs.Common.{take}
use Rattle.std.specs.Io.KnownBytes.{Appends}
use Rattle.bt_cli.specs.Reports.{end_text, numbered}
use Rattle.bt_cli.proofs.report.print_ends.Given as goal

abbrev pub invariant-loop-stream : goal.invariant-loop-stream
invariant-loop-stream g l =
    Appends (g.O.Sink.written l.fn.out) (g.O.Sink.written l.out) (numbered end_text 0 (take l.stream l.ends))
