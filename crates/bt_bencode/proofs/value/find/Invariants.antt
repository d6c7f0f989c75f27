use Rattle.std.proofs.Common.{◌-◌, length}
use Rattle.bt_bencode.specs.Term.{entry_at}
use Rattle.bt_bencode.specs.Standing.{entries_standing}
use Rattle.bt_bencode.proofs.Left.{EntriesLeft}
use Rattle.bt_bencode.proofs.value.find.Given as goal

abbrev pub invariant-loop-place : goal.invariant-loop-place
invariant-loop-place l = EntriesLeft l.room l.source l.place l.key (entry_at l.key (entries_standing l.room l.source l.at))

abbrev pub decreases-loop-place : goal.decreases-loop-place
decreases-loop-place l = length l.initial.source - l.place
