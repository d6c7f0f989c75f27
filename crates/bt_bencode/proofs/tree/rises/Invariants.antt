use Rattle.std.proofs.Common.{◌≡◌, ◌-◌, drop}
use Rattle.bt_bencode.specs.Grammar.{keys_rise}
use Rattle.bt_bencode.specs.View.{entries_from}
use Rattle.bt_bencode.proofs.tree.rises.Given as goal

abbrev pub invariant-loop-i : goal.invariant-loop-i
invariant-loop-i l = keys_rise (entries_from (drop (l.i - 1) l.entries)) ≡ keys_rise (entries_from l.entries)
