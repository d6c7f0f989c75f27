-- The first set bit of a byte, and of bytes from a place on.
use Rattle.std.proofs.Common.{◌≡◌, ◌<◌, ◌≤◌, ◌+◌, ◌-◌, ◌*◌, ◌/◌, ◌%◌, ◌^◌, ℕ, suc, Bool, false, Option, None, Some, List, length, get_or}
use Rattle.std.proofs.Common.{arith, sym, ◌∙◌, ap, refl, inl, inr, div-add-mod'}
use Rattle.std.specs.Prelude.{◌==◌, slice_index_or}
use Rattle.std.specs.Int.{bit_at}
use Rattle.std.specs.Int.Count.{count_leading_zeros}
use Rattle.std.proofs.lemmas.Bool.{cases_lt}
use Rattle.std.proofs.lemmas.List.{get_or_past}
use Rattle.std.proofs.lemmas.Nat.{leading_top, pow_pos}
use Rattle.std.proofs.lemmas.Nat.Bits.{bit_at-zero, bit_at_above, bit_at_cat_low, bit_at_cat_high}
use Rattle.bt_meta.specs.WireBits.{FindsFirst, IsFirst, IsFirstBit, IsPayload, flags_of, wire_bit}
use Rattle.bt_meta.proofs.Payloads.{counted, told}

-- ---- one byte

top_bit : (a j : ℕ) → 2 ^ j ≤ a → a < 2 ^ suc j → bit_at a j ≡ 1
top_bit a j low high =
    let parts : a ≡ 1 * 2 ^ j + (a - 2 ^ j) = omega arith in
    let e : j - j ≡ 0 = omega arith in
    ap (λ n. bit_at n j) parts ∙ bit_at_cat_high 1 j (a - 2 ^ j) j (omega arith) (omega arith) ∙ ap (bit_at 1) e

pub leading : (byte : ℕ) → 0 < byte → byte < 2 ^ 8 → IsFirstBit byte (count_leading_zeros 8 byte)
leading byte some fits =
    let top = leading_top 8 byte some fits in
    let j = top.0 in
    record {
      few = omega (arith, top.1);
      set = let e : 7 - count_leading_zeros 8 byte ≡ j = omega (arith, top.1) in rw e (top_bit byte j top.2 top.3);
      clear = λ k below. bit_at_above byte (suc j) (7 - k) top.3 (omega (arith, top.1));
    }

-- the bits of a byte that is shifted up: those of the byte, and zeros below them
kept_bit : (byte r i : ℕ) → i < 8 → bit_at (byte * 2 ^ r % 2 ^ 8) i ≡ bit_at (byte * 2 ^ r + 0) i
kept_bit byte r i below =
    let n = byte * 2 ^ r in
    let parts : n + 0 ≡ n / 2 ^ 8 * 2 ^ 8 + n % 2 ^ 8 = omega (arith, div-add-mod' n (2 ^ 8)) in
    sym (ap (λ m. bit_at m i) parts ∙ bit_at_cat_low (n / 2 ^ 8) 8 (n % 2 ^ 8) i below)

shifted_bit : (byte r i : ℕ) → i < 8 → r ≤ i → bit_at (byte * 2 ^ r % 2 ^ 8) i ≡ bit_at byte (i - r)
shifted_bit byte r i below from = kept_bit byte r i below ∙ bit_at_cat_high byte r 0 i (pow_pos r) from

shifted_zero : (byte r i : ℕ) → i < 8 → i < r → bit_at (byte * 2 ^ r % 2 ^ 8) i ≡ 0
shifted_zero byte r i below under = kept_bit byte r i below ∙ bit_at_cat_low byte r 0 i under ∙ bit_at-zero i

-- ---- bytes

bit_of : (bytes : List ℕ) (p i k : ℕ) → k < 8 → p ≡ 8 * i + k → wire_bit bytes p ≡ (bit_at (get_or bytes i 0) (7 - k) == 1)
bit_of bytes p i k few is =
    let place : p / 8 ≡ i = omega arith in
    let bit : p % 8 ≡ k = omega arith in
    rw (place, bit) refl

pub no_bit : (bytes : List ℕ) (p : ℕ) → get_or bytes (p / 8) 0 ≡ 0 → wire_bit bytes p ≡ false
no_bit bytes p clear = rw (clear, bit_at-zero (7 - p % 8)) refl

-- the first bit of a byte
pub first_of_byte : (bytes : List ℕ) (i zeros : ℕ) → IsFirstBit (get_or bytes i 0) zeros → IsFirst (wire_bit bytes) (8 * i) (8 * i + zeros)
first_of_byte bytes i zeros is = record {
  not_before = omega arith;
  passes = bit_of bytes (8 * i + zeros) i zeros is.few refl ∙ ap (λ b. b == 1) is.set;
  none_between = λ p from below.
      bit_of bytes p i (p - 8 * i) (omega (arith, is.few)) (omega arith) ∙ ap (λ b. b == 1) (is.clear (p - 8 * i) (omega arith));
}

-- the bits of a byte from a place in it on
module _ (bytes : List ℕ) (from : ℕ) where
  abbrev rest : ℕ
  rest = get_or bytes (from / 8) 0 * 2 ^ (from % 8) % 2 ^ 8

  rest_bit : (k : ℕ) → from % 8 + k < 8 → wire_bit bytes (from + k) ≡ (bit_at rest (7 - k) == 1)
  rest_bit k within =
      let parts = div-add-mod' from 8 in
      let e : 7 - k - from % 8 ≡ 7 - (from % 8 + k) = omega arith in
      bit_of bytes (from + k) (from / 8) (from % 8 + k) within (omega arith)
      ∙ ap (λ b. b == 1)
      (sym (shifted_bit (get_or bytes (from / 8) 0) (from % 8) (7 - k) (omega arith) (omega arith) ∙ ap (bit_at (get_or bytes (from / 8) 0)) e))

  -- a set bit of the rest is one of the byte
  rest_within : (zeros : ℕ) → IsFirstBit rest zeros → from % 8 + zeros < 8
  rest_within zeros is =
      elim (cases_lt (7 - zeros) (from % 8)) [
        | inl under ↦ absurd (omega (arith, is.set, shifted_zero (get_or bytes (from / 8) 0) (from % 8) (7 - zeros) (omega arith) under))
        | inr over ↦ omega (arith, is.few, over)
      ]

  pub first_of_rest : (zeros : ℕ) → IsFirstBit rest zeros → IsFirst (wire_bit bytes) from (from + zeros)
  first_of_rest zeros is =
      let within = rest_within zeros is in
      record {
        not_before = omega arith;
        passes = rest_bit zeros within ∙ ap (λ b. b == 1) is.set;
        none_between = λ p after below.
            let e : p ≡ from + (p - from) = omega arith in
            ap (wire_bit bytes) e ∙ rest_bit (p - from) (omega arith) ∙ ap (λ b. b == 1) (is.clear (p - from) (omega arith));
      }

  pub none_of_rest : rest ≡ 0 → (p : ℕ) → from ≤ p → p < 8 * (from / 8 + 1) → wire_bit bytes p ≡ false
  none_of_rest clear p after below =
      let parts = div-add-mod' from 8 in
      let e : p ≡ from + (p - from) = omega arith in
      ap (wire_bit bytes) e ∙ rest_bit (p - from) (omega arith) ∙ rw (clear, bit_at-zero (7 - (p - from))) refl

-- where none passes up to a place, the first from there on is the first of all
pub finds_before : (test : ℕ → Bool) (from mid : ℕ) (found : Option ℕ) → from ≤ mid → ((p : ℕ) → from ≤ p → p < mid → test p ≡ false)
    → FindsFirst test mid found → FindsFirst test from found
finds_before test from mid None order none behind = λ p after.
    elim (cases_lt p mid) [ inl before ↦ none p after before | inr past ↦ behind p past ]
finds_before test from mid (Some q) order none first = record {
  not_before = omega (arith, first.not_before);
  passes = first.passes;
  none_between = λ p after below.
      elim (cases_lt p mid) [ inl before ↦ none p after before | inr past ↦ first.none_between p past below ];
}

-- ---- a set: its flags are the bits of its payload, and behind both nothing is set
flag_is : (pieces : ℕ) (bytes : List ℕ) (flags : List Bool) → flags_of pieces bytes ≡ flags → IsPayload pieces bytes
    → (p : ℕ) → slice_index_or flags p false ≡ wire_bit bytes p
flag_is pieces bytes flags is payload p =
    elim (cases_lt p pieces) [
      | inl within ↦ sym (told pieces bytes flags is p within)
      | inr behind ↦ get_or_past flags p false (omega (arith, counted pieces bytes flags is)) ∙ sym (
          elim (cases_lt p (8 * length bytes)) [
            | inl below ↦ payload.clear p behind below
            | inr past ↦ no_bit bytes p (get_or_past bytes (p / 8) 0 (omega arith))
          ])
    ]

pub first_flag : (pieces : ℕ) (bytes : List ℕ) (flags : List Bool) → flags_of pieces bytes ≡ flags → IsPayload pieces bytes
    → (from : ℕ) (found : Option ℕ) → FindsFirst (wire_bit bytes) from found → FindsFirst (λ p. slice_index_or flags p false) from found
first_flag pieces bytes flags is payload from None none = λ p after. flag_is pieces bytes flags is payload p ∙ none p after
first_flag pieces bytes flags is payload from (Some q) first = record {
  not_before = first.not_before;
  passes = flag_is pieces bytes flags is payload q ∙ first.passes;
  none_between = λ p after below. flag_is pieces bytes flags is payload p ∙ first.none_between p after below;
}
