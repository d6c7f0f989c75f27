use Rattle.std.proofs.Common.{◌≡◌, ◌≤◌, max, drop}
use Rattle.bt_bencode.specs.declared.tree.TheConstants.{MAX_DEPTH}
use Rattle.bt_bencode.specs.Term.{depth_of_entries}
use Rattle.bt_bencode.specs.Grammar.{EntriesAreSound}
use Rattle.bt_bencode.specs.View.{entries_from}
use Rattle.bt_bencode.proofs.tree.deepest_value.Given as goal

-- the entries so far and those that are left are all
abbrev pub invariant-loop-value : goal.invariant-loop-value
invariant-loop-value l =
    let rest = entries_from (drop l.value-index l.entries) in
    record {
      levels : max l.levels (depth_of_entries rest) ≡ depth_of_entries (entries_from l.entries);
      bound : l.levels ≤ MAX_DEPTH;
      sound : EntriesAreSound rest → EntriesAreSound (entries_from l.entries);
    }
