use Rattle.std.proofs.Common.{◌≡◌, ◌≤◌, max, drop}
use Rattle.bt_bencode.specs.declared.tree.TheConstants.{MAX_DEPTH}
use Rattle.bt_bencode.specs.Term.{depth_of_terms}
use Rattle.bt_bencode.specs.Grammar.{AreSound}
use Rattle.bt_bencode.specs.View.{terms_from}
use Rattle.bt_bencode.proofs.tree.deepest_item.Given as goal

-- the items so far and those that are left are all
abbrev pub invariant-loop-item : goal.invariant-loop-item
invariant-loop-item l =
    let rest = terms_from (drop l.item-index l.items) in
    record {
      levels : max l.levels (depth_of_terms rest) ≡ depth_of_terms (terms_from l.items);
      bound : l.levels ≤ MAX_DEPTH;
      sound : AreSound rest → AreSound (terms_from l.items);
    }
