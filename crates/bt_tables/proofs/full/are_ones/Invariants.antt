use Rattle.std.proofs.Common.{◌≡◌, ◌*◌, ◌<◌, ℕ, true}
use Rattle.bt_meta.specs.WireBits.{wire_bit}
use Rattle.bt_tables.proofs.full.are_ones.Given as goal

abbrev pub invariant-loop-place : goal.invariant-loop-place
invariant-loop-place l = (p : ℕ) → p < 8 * l.place → wire_bit l.bytes p ≡ true
