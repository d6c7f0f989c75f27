-- Numbers of a script, and what std reads in their text.
use Rattle.std.proofs.Common.{◌≡◌, ◌≢◌, ◌<◌, ◌^◌, ℕ, List, [], ◌∷◌, length, get_or, Bool, true, false, Some, None, Result, Ok, Err, refl, sym, arith}
use Rattle.std.specs.Prelude.{◌&&◌, ◌==◌, not, nat_lt, if◌then◌else◌}
use Rattle.std.specs.Result.{result_ok}
use Rattle.std.specs.Str.{IsUtf8, all_ascii_digits}
use Rattle.std.specs.Str.Parse.{digits_value, ParsesUnsigned}
use Rattle.std.proofs.lemmas.Bool.Decides.{nat_tests}
use Rattle.std.proofs.lemmas.Fmt.{IsAscii-from_digits}
use Rattle.std.proofs.lemmas.Str.{IsUtf8-from_ascii}
use Rattle.std.proofs.lemmas.Str.Parse.{IsNumeralModel, numerals_by_value, tells_all_ascii_digits, parse_plain}
use Rattle.bt_text.specs.Fields.{number_below, number_in}

model : IsNumeralModel (λ ds. all_ascii_digits ds ≡ true) (digits_value 10)
model = numerals_by_value _ tells_all_ascii_digits

-- a choice by three tests
chosen : (a b d : Bool) (n : ℕ) → a ≡ true → b ≡ true → d ≡ true → (if a && b && d then Some n else None) ≡ Some n
chosen a b d n e f h = rw (e, f, h) refl

not_chosen : (a b d : Bool) (n : ℕ) → ((a ≡ true) × (b ≡ true) × (d ≡ true) → ⊥) → (if a && b && d then Some n else None) ≡ None
not_chosen true true true n fails = absurd (fails (refl, refl, refl))
not_chosen true true false n fails = refl
not_chosen true false d n fails = refl
not_chosen false b d n fails = refl

-- the tests of a number
has_some : (bs : List ℕ) → 0 < length bs → not (length bs == 0) ≡ true
has_some bs h = grind (arith, nat_tests)

has_length : (bs : List ℕ) → not (length bs == 0) ≡ true → 0 < length bs
has_length bs h = grind (arith, nat_tests)

is_below : (m n : ℕ) → m < n → nat_lt m n ≡ true
is_below m n h = grind (arith, nat_tests)

below : (m n : ℕ) → nat_lt m n ≡ true → m < n
below m n h = grind (arith, nat_tests)

no_plus : (bs : List ℕ) → get_or bs 0 0 ≡ 43 → all_ascii_digits bs ≡ true → 0 < length bs → ⊥
no_plus [] e digits some = omega arith
no_plus (c ∷ cs) e digits some = let first : c ≡ 43 = e in let bad : all_ascii_digits (43 ∷ cs) ≡ true = rw first at digits in cc

-- a text with a sign is no number
pub number_below-plus : (limit : ℕ) (bs : List ℕ) → get_or bs 0 0 ≡ 43 → number_below limit bs ≡ None
number_below-plus limit bs e =
    not_chosen (not (length bs == 0)) (all_ascii_digits bs) (nat_lt (digits_value 10 bs) limit) (digits_value 10 bs)
    (λ h. no_plus bs e h.1 (has_length bs h.0))

-- nor is one that isn't UTF-8
pub number_below-not_utf8 : (limit : ℕ) (bs : List ℕ) → ¬ (IsUtf8 bs) → number_below limit bs ≡ None
number_below-not_utf8 limit bs bad =
    not_chosen (not (length bs == 0)) (all_ascii_digits bs) (nat_lt (digits_value 10 bs) limit) (digits_value 10 bs)
    (λ h. bad (IsUtf8-from_ascii bs (IsAscii-from_digits bs (model.to bs h.1))))

-- what std reads in a text without a sign
pub number_in-parsed : {E : Type 0} (bs : List ℕ) (r : Result ℕ E) → get_or bs 0 0 ≢ 43 → ParsesUnsigned 64 10 bs r → result_ok r ≡ number_in bs
number_in-parsed {E} bs (Ok x) plain parses =
    let said = parse_plain model {E = E} 64 bs (Ok x) parses plain in
    rw said.1 (sym (chosen _ _ _ (digits_value 10 bs) (has_some bs said.0.1) said.0.0 (is_below (digits_value 10 bs) (2 ^ 64) said.0.2)))
number_in-parsed {E} bs (Err e) plain parses =
    let said = parse_plain model {E = E} 64 bs (Err e) parses plain in
    sym (not_chosen (not (length bs == 0)) (all_ascii_digits bs) (nat_lt (digits_value 10 bs) (2 ^ 64)) (digits_value 10 bs)
    (λ h. said (h.1, has_length bs h.0, below (digits_value 10 bs) (2 ^ 64) h.2)))
