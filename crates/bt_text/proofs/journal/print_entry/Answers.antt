use Rattle.std.proofs.Common.{rules}
use Rattle.std.proofs.KnownBytes.{Appends-trans}
use Rattle.bt_history.specs.Entries.{event_of}
use Rattle.bt_text.specs.Journals.{IsJournalLine}
use Rattle.bt_text.proofs.Written.{ended}
use Rattle.bt_text.proofs.journal.print_entry.Goals as goal

pub returns-clause-ok : goal.returns-clause-ok
returns-clause-ok g c =
    let call = c.in_ok-print_call.ensures.ok in
    let line = Appends-trans _ _ _ _ _ c.in_ok-print_number.ensures.ok (Appends-trans _ _ _ _ _ c.in_ok-print.ensures.ok
    (Appends-trans _ _ _ _ _ call.2 (Appends-trans _ _ _ _ _ c.in_ok-print-2.ensures.ok c.in_ok-print_said.ensures.ok))) in
    ended (IsJournalLine (event_of c.args.entry.now)) c.print-3.result _ _ _ _ _
    (record { call = call.0; is_call = call.1; line = search rules }) line c.print-3.ensures.ok
