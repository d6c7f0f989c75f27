use Rattle.std.specs.Prelude.{take}
use Rattle.bt_history.specs.Entries.{history_of}
use Rattle.bt_picker.proofs.Audited.{Audited}
use Rattle.bt_picker.proofs.auditing.judge.Given as goal

abbrev pub invariant-loop-place : goal.invariant-loop-place
invariant-loop-place l = Audited l.initial.tables.setting l.tables l.places l.past.entries (history_of (take l.place l.entries))
