use Rattle.std.proofs.Common.{take}
use Rattle.std.specs.Io.KnownBytes.{Appends}
use Rattle.bt_text.specs.Listing.{file_lines}
use Rattle.bt_text.proofs.listing.print_listed.Given as goal

abbrev pub invariant-loop-file : goal.invariant-loop-file
invariant-loop-file g l =
    Appends (g.O.Sink.written l.fn.out) (g.O.Sink.written l.out) (file_lines (take l.file-index l.files))
