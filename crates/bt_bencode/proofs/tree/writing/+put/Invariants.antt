use Rattle.std.proofs.Common.{◌≡◌, ◌++◌, ◌+◌, ◌*◌, drop}
use Rattle.bt_bencode.specs.Term.{depth, depth_of_terms, depth_of_entries}
use Rattle.bt_bencode.specs.Grammar.{spelling_of_terms, spelling_of_entries}
use Rattle.bt_bencode.specs.View.{terms_from, entries_from}
use Rattle.bt_bencode.proofs.tree.writing.+put.Given as goal

-- what was written and what is left to write
abbrev pub invariant-put_entries-loop-key : goal.invariant-put_entries-loop-key
invariant-put_entries-loop-key l = l.out.items ++ spelling_of_entries (entries_from (drop l.key-index l.entries)) ≡ l.fn.out.items
    ++ spelling_of_entries (entries_from l.entries)

abbrev pub invariant-put_items-loop-item : goal.invariant-put_items-loop-item
invariant-put_items-loop-item l = l.out.items ++ spelling_of_terms (terms_from (drop l.item-index l.items)) ≡ l.fn.out.items
    ++ spelling_of_terms (terms_from l.items)

abbrev pub decreases-put : goal.decreases-put
decreases-put l = 2 * depth l.tree.now

abbrev pub decreases-put_items : goal.decreases-put_items
decreases-put_items l = 2 * depth_of_terms (terms_from l.items.now) + 1

abbrev pub decreases-put_entries : goal.decreases-put_entries
decreases-put_entries l = 2 * depth_of_entries (entries_from l.entries.now) + 1
