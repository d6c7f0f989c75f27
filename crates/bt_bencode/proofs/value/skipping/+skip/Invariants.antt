use Rattle.std.proofs.Common.{◌≤◌, ◌<◌, ◌+◌, ◌*◌, ◌-◌, length}
use Rattle.std.specs.Prelude.{option_map}
use Rattle.bt_bencode.specs.Reading.{value_at, items_in, entries_in, end_of}
use Rattle.bt_bencode.proofs.Skips.{ItemsEnd, EntriesEnd}
use Rattle.bt_bencode.proofs.value.skipping.+skip.Given as goal

abbrev pub decreases-skip : goal.decreases-skip
decreases-skip l = 2 * l.room + 1

abbrev pub decreases-skip_items : goal.decreases-skip_items
decreases-skip_items l = 2 * l.room

abbrev pub decreases-skip_entries : goal.decreases-skip_entries
decreases-skip_entries l = 2 * l.room

abbrev pub invariant-skip_items-loop-place : goal.invariant-skip_items-loop-place
invariant-skip_items-loop-place l = record {
  some : 0 < l.room;
  low : l.at ≤ l.place;
  high : l.place ≤ length l.source;
  left : ItemsEnd (value_at (l.room - 1) l.source) l.source l.place (end_of (items_in l.room l.source l.at));
}

abbrev pub decreases-skip_items-loop-place : goal.decreases-skip_items-loop-place
decreases-skip_items-loop-place l = length l.initial.source - l.place

abbrev pub invariant-skip_entries-loop-place : goal.invariant-skip_entries-loop-place
invariant-skip_entries-loop-place l = record {
  some : 0 < l.room;
  low : l.at ≤ l.place;
  high : l.place ≤ length l.source;
  left : EntriesEnd (value_at (l.room - 1) l.source) l.source (option_map (λ x. x.now) l.last) l.place
      (end_of (entries_in l.room l.source l.at));
}

abbrev pub decreases-skip_entries-loop-place : goal.decreases-skip_entries-loop-place
decreases-skip_entries-loop-place l = length l.initial.source - l.place
