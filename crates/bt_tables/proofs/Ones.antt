-- Bytes of which each bit is set.
use Rattle.std.proofs.Common.{◌≡◌, ◌<◌, ◌+◌, ◌-◌, ◌*◌, ◌∙◌, ◌/◌, ◌%◌, ◌==◌, ℕ, zero, suc, true, List, ap, arith, inl, inr, refl}
use Rattle.std.specs.Prelude.{slice_index_or}
use Rattle.std.specs.Int.{bit_at}
use Rattle.std.proofs.lemmas.Bool.{cases_lt}
use Rattle.bt_meta.specs.WireBits.{wire_bit}

ones : (k : ℕ) → k < 8 → bit_at 255 k ≡ 1
ones zero few = refl
ones (suc zero) few = refl
ones (suc (suc zero)) few = refl
ones (suc (suc (suc zero))) few = refl
ones (suc (suc (suc (suc zero)))) few = refl
ones (suc (suc (suc (suc (suc zero))))) few = refl
ones (suc (suc (suc (suc (suc (suc zero)))))) few = refl
ones (suc (suc (suc (suc (suc (suc (suc zero))))))) few = refl
ones (suc (suc (suc (suc (suc (suc (suc (suc k)))))))) few = absurd (omega (arith, few))

-- the bits of a byte that is 255
pub each_bit : (bytes : List ℕ) (p : ℕ) → slice_index_or bytes (p / 8) 0 ≡ 255 → wire_bit bytes p ≡ true
each_bit bytes p full = rw full (ap (λ (b : ℕ). b == 1) (ones (7 - p % 8) (omega arith)))

-- one byte more is 255
pub ones_more : (bytes : List ℕ) (n : ℕ) → ((p : ℕ) → p < 8 * n → wire_bit bytes p ≡ true) → slice_index_or bytes n 0 ≡ 255
    → (p : ℕ) → p < 8 * (n + 1) → wire_bit bytes p ≡ true
ones_more bytes n below full p lp =
    elim (cases_lt p (8 * n)) [
      | inl before ↦ below p before
      | inr from ↦
          let place : p / 8 ≡ n = omega (arith, from, lp) in
          each_bit bytes p (ap (λ (i : ℕ). slice_index_or bytes i 0) place ∙ full)
    ]
