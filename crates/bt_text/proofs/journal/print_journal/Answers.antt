use Rattle.std.proofs.Common.{◌++◌, codes}
use Rattle.std.proofs.KnownBytes.{Appends-trans}
use Rattle.bt_text.proofs.JournalLines.{entries_more}
use Rattle.bt_text.proofs.journal.print_journal.Goals as goal

pub loop-entry-preserved : goal.loop-entry-preserved
loop-entry-preserved g c =
    let so_far = c.loop-entry.invariant in
    let line = c.in_ok-print_entry.ensures.ok in (
      so_far.0 ++ (line.0 ++ codes "\n"),
      entries_more c.args.journal.now c.loop-entry.entry-index c.entry-item.result so_far.0 line.0 c.loop-entry-test.true so_far.1
          (rw c.entry-item.is at line.1),
      Appends-trans _ _ _ so_far.0 (line.0 ++ codes "\n") so_far.2 line.2,
    )
