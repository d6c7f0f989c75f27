use Rattle.std.proofs.Common.{◌≡◌, ◌+◌, ◌*◌, ◌<◌, ◌≤◌, ℕ, false}
use Rattle.bt_meta.specs.WireBits.{wire_bit}
use Rattle.bt_tables.specs.Stripes.{stripe}
use Rattle.bt_tables.proofs.shows.first_bit_behind.Given as goal

abbrev pub invariant-loop-next : goal.invariant-loop-next
invariant-loop-next l = (p : ℕ) → 8 * (l.index + 1) ≤ p → p < 8 * l.next → wire_bit (stripe l.stripes l.row) p ≡ false
