-- What the test of sizes lets through is a layout, and the sizes of a layout pass.
use Rattle.std.proofs.Common.{◌≡◌, ℕ, ◌<◌, ◌^◌, Ok, refl, arith, inl, inr, true, false}
use Rattle.std.specs.Prelude.{nat_le, ◌==◌}
use Rattle.std.proofs.lemmas.Bool.Decides.{nat_tests}
use Rattle.bt_bencode.proofs.Results.{chosen, never}
use Rattle.bt_meta.specs.declared.fault.MetaFault.TheVariants.{NoContent, CountMismatch, TooLarge}
use Rattle.bt_meta.specs.Layout.{pieces_in, sizes_checked}

-- so much content makes so many pieces of this length, all within the limits
pub record Fit (piece_length total digests : ℕ) : Type 0 where
  pub some : 0 < total
  pub total_high : total < 2 ^ 63
  pub pieces_high : digests < 2 ^ 32
  pub count : digests ≡ pieces_in total piece_length

within : (total limit : ℕ) → nat_le limit total ≡ false → total < limit
within total limit h = grind (arith, nat_tests)

not_zero : (total : ℕ) → (total == 0) ≡ false → 0 < total
not_zero total h = grind (arith, nat_tests)

same : (a b : ℕ) → (a == b) ≡ true → a ≡ b
same a b h = grind (arith, nat_tests)

pub sizes_fit : (piece_length total digests : ℕ) (u : Unit {0}) → sizes_checked piece_length total digests ≡ Ok u →
    Fit piece_length total digests
sizes_fit piece_length total digests u is =
    let pieces : ℕ = pieces_in total piece_length in
    elim (chosen (nat_le (2 ^ 63) total) _ _ _ is) [
      | inl large ↦ absurd (never TooLarge u large.1)
      | inr small ↦ elim (chosen (total == 0) _ _ _ small.1) [
        | inl none ↦ absurd (never NoContent u none.1)
        | inr some ↦ elim (chosen (nat_le (2 ^ 32) pieces) _ _ _ some.1) [
          | inl many ↦ absurd (never TooLarge u many.1)
          | inr few ↦ elim (chosen (digests == pieces) _ _ _ few.1) [
            | inr other ↦ absurd (never CountMismatch u other.1)
            | inl equal ↦
                let low : 0 < total = not_zero total some.0 in
                let high : total < 2 ^ 63 = within total (2 ^ 63) small.0 in
                let count : digests ≡ pieces = same digests pieces equal.0 in
                let few_pieces : pieces < 2 ^ 32 = within pieces (2 ^ 32) few.0 in
                record { some = low; total_high = high; pieces_high = omega arith; count = count }
          ]
        ]
      ]
    ]

below : (total limit : ℕ) → total < limit → nat_le limit total ≡ false
below total limit h = grind (arith, nat_tests)

some_bytes : (total : ℕ) → 0 < total → (total == 0) ≡ false
some_bytes total h = grind (arith, nat_tests)

equal : (a b : ℕ) → a ≡ b → (a == b) ≡ true
equal a b h = grind (arith, nat_tests)

pub fit_passes : (piece_length total digests : ℕ) → Fit piece_length total digests → sizes_checked piece_length total digests ≡ Ok tt
fit_passes piece_length total digests fit =
    let pieces : ℕ = pieces_in total piece_length in
    let few : pieces < 2 ^ 32 = omega (arith, fit.count, fit.pieces_high) in
    rw (below total (2 ^ 63) fit.total_high, some_bytes total fit.some, below pieces (2 ^ 32) few, equal digests pieces fit.count) refl
