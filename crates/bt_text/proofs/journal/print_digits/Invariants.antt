use Rattle.std.proofs.Common.{take}
use Rattle.std.specs.Io.KnownBytes.{Appends}
use Rattle.bt_text.specs.Journals.{level_digits}
use Rattle.bt_text.proofs.journal.print_digits.Given as goal

abbrev pub invariant-loop-level : goal.invariant-loop-level
invariant-loop-level g l =
    Appends (g.O.Sink.written l.fn.out) (g.O.Sink.written l.out) (level_digits (take l.level-index l.levels))
