use Rattle.std.proofs.Common.{take}
use Rattle.std.specs.Io.KnownBytes.{Appends}
use Rattle.hex.specs.Hex.{encode_lower}
use Rattle.bt_text.proofs.journal.print_hexadecimal.Given as goal

abbrev pub invariant-loop-byte : goal.invariant-loop-byte
invariant-loop-byte g l =
    Appends (g.O.Sink.written l.fn.out) (g.O.Sink.written l.out) (encode_lower (take l.byte-index l.bytes))
