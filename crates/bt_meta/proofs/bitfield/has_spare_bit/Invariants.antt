use Rattle.std.proofs.Common.{◌≡◌, ◌<◌, ◌≤◌, ℕ, false}
use Rattle.bt_meta.specs.WireBits.{wire_bit}
use Rattle.bt_meta.proofs.bitfield.has_spare_bit.Given as goal

abbrev pub invariant-loop-place : goal.invariant-loop-place
invariant-loop-place l = (p : ℕ) → l.count ≤ p → p < l.place → wire_bit l.bytes p ≡ false
