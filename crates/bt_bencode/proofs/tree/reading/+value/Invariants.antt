use Rattle.std.proofs.Common.{◌≡◌, ◌≤◌, ◌+◌, ◌*◌, ◌-◌, length, None, true}
use Rattle.bt_bencode.specs.Term.{depth_of_terms, depth_of_entries}
use Rattle.bt_bencode.specs.Grammar.{AreSound, EntriesAreSound, keys_rise}
use Rattle.bt_bencode.specs.View.{terms_from, entries_from}
use Rattle.bt_bencode.specs.Reading.{value_at, items_at, entries_at}
use Rattle.bt_bencode.proofs.Loops.{items_left, entries_left}
use Rattle.bt_bencode.proofs.tree.reading.+value.Given as goal

abbrev pub decreases-value : goal.decreases-value
decreases-value l = 2 * l.room

abbrev pub decreases-list_items : goal.decreases-list_items
decreases-list_items l = 2 * l.room + 1

abbrev pub decreases-dict_entries : goal.decreases-dict_entries
decreases-dict_entries l = 2 * l.room + 1

abbrev pub invariant-list_items-loop-place : goal.invariant-list_items-loop-place
invariant-list_items-loop-place l = record {
  low : l.at ≤ l.place;
  high : l.place ≤ length l.source;
  levels : l.levels ≡ depth_of_terms (terms_from l.items.items);
  bound : l.levels ≤ l.room;
  sound : AreSound (terms_from l.items.items);
  left : items_left (value_at l.room l.source) l.source l.items.items l.place
      (items_at (value_at l.room l.source) l.source (length l.source) l.at);
}

abbrev pub decreases-list_items-loop-place : goal.decreases-list_items-loop-place
decreases-list_items-loop-place l = length l.initial.source - l.place

abbrev pub invariant-dict_entries-loop-place : goal.invariant-dict_entries-loop-place
invariant-dict_entries-loop-place l = record {
  low : l.at ≤ l.place;
  high : l.place ≤ length l.source;
  levels : l.levels ≡ depth_of_entries (entries_from l.entries.items);
  bound : l.levels ≤ l.room;
  rise : keys_rise (entries_from l.entries.items) ≡ true;
  sound : EntriesAreSound (entries_from l.entries.items);
  left : entries_left (value_at l.room l.source) l.source l.entries.items l.place
      (entries_at (value_at l.room l.source) l.source (length l.source) None l.at);
}

abbrev pub decreases-dict_entries-loop-place : goal.decreases-dict_entries-loop-place
decreases-dict_entries-loop-place l = length l.initial.source - l.place
