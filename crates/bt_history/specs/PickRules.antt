-- By which rule a block was requested, as it can be told once it was.
use Rattle.std.specs.Prelude.{ℕ, Bool, nat_lt, IsTrue, if◌then◌else◌}
use Rattle.bt_meta.specs.declared.block.Block.{Block}
use Rattle.bt_meta.specs.Layout.{block_count, block}
use Rattle.bt_history.specs.declared.pick_rule.PickRule.{PickRule}
use Rattle.bt_history.specs.declared.pick_rule.PickRule.TheVariants.{InOrder, Begun, Rarest, Random, Endgame, Late}
use Rattle.bt_history.specs.Counting.{count_below}
use Rattle.bt_history.specs.Setting.{Setting}
use Rattle.bt_history.specs.History.{History}
use Rattle.bt_history.specs.Pieces.{asker_count, comes_in_order, endgame, had_count, held_or_asked, is_late_at_some}
use Rattle.bt_history.specs.Next.{continues, doubles, is_rarest, rises, starts, usable}

-- the number of a rule, by which it is told
abbrev pub rule_number : PickRule → ℕ
rule_number InOrder = 1
rule_number Begun = 2
rule_number Rarest = 3
rule_number Random = 4
rule_number Endgame = 5
rule_number Late = 6

-- how many blocks of piece p are held or asked of some peer
abbrev pub touched_count : Setting → History → ℕ → ℕ
touched_count s h p = count_below (block_count s.torrent p) (λ k. held_or_asked s h (block s.torrent p k))

-- the first rule that applied: the block is expected from another peer too, another one is late with it, its level comes in order, the piece had
-- begun, or it began at random, or as a rarest one
abbrev pub rule_by : Bool → Bool → Bool → Bool → Bool → PickRule
rule_by doubled overdue ordered on random =
    if doubled then Endgame else if overdue then Late else if ordered then InOrder else if on then Begun else if random then Random else Rarest

-- the rule by which block b was requested, where the newest entry requested it
abbrev pub rule_of : Setting → History → Block → PickRule
rule_of s h b =
    rule_by (nat_lt 1 (asker_count s h b)) (is_late_at_some s h b) (comes_in_order h b.piece) (nat_lt 1 (touched_count s h b.piece)) (nat_lt (had_count s h) s.random)

-- a request of block b to q after the history is by this rule
abbrev pub IsBy : Setting → History → ℕ → Block → PickRule → Type 0
IsBy s h q b InOrder = IsTrue (rises s h q b) × IsTrue (comes_in_order h b.piece)
IsBy s h q b Begun = IsTrue (continues s h q b)
IsBy s h q b Rarest = IsTrue (starts s h q b) × IsTrue (is_rarest s h q b.piece)
IsBy s h q b Random = IsTrue (starts s h q b) × IsTrue (nat_lt (had_count s h) s.random)
IsBy s h q b Endgame = IsTrue (endgame s h) × IsTrue (doubles s h q b)
IsBy s h q b Late = IsTrue (usable s h q b) × IsTrue (is_late_at_some s h b)
