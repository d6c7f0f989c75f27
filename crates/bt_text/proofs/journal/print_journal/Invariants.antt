use Rattle.std.proofs.Common.{ℕ, List, map, take}
use Rattle.std.specs.Io.KnownBytes.{Appends}
use Rattle.bt_history.specs.Entries.{event_of}
use Rattle.bt_text.specs.Journals.{AreJournalLines}
use Rattle.bt_text.proofs.journal.print_journal.Given as goal

abbrev pub invariant-loop-entry : goal.invariant-loop-entry
invariant-loop-entry g l =
    (text : List ℕ) × AreJournalLines (map event_of (take l.entry-index l.journal)) text
    × Appends (g.O.Sink.written l.fn.out) (g.O.Sink.written l.out) text
