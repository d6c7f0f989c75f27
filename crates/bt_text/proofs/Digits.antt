-- Digits, one after the other.
use Rattle.std.proofs.Common.{◌≡◌, ◌<◌, ◌+◌, ℕ, zero, suc, Bool, true, false, ◌&&◌, List, [], ◌∷◌, ◌++◌, length, map, take, slice_index_or, None}
use Rattle.std.proofs.Common.{Some, refl, ap, ◌∙◌, arith}
use Rattle.std.specs.Prelude.{◌==◌, not, if◌then◌else◌}
use Rattle.std.specs.Char.{is_ascii_digit}
use Rattle.std.specs.Str.{all_ascii_digits}
use Rattle.std.proofs.lemmas.Bool.{and_from, and_left, and_parts, and_right}
use Rattle.std.proofs.lemmas.List.{take_more, map-append}
use Rattle.bt_text.specs.Fields.{digit_value, digits_in}

-- one behind the others
digits_append : (front : List ℕ) (c : ℕ) → all_ascii_digits front ≡ true → is_ascii_digit c ≡ true → all_ascii_digits (front ++ c ∷ []) ≡ true
digits_append [] c are is = and_from (is_ascii_digit c) true is refl
digits_append (d ∷ front) c are is =
    let parts = and_parts (is_ascii_digit d) (all_ascii_digits front) are in
    and_from (is_ascii_digit d) (all_ascii_digits (front ++ c ∷ [])) parts.0 (digits_append front c parts.1 is)

-- one more digit of the text
pub digits_more : (text : List ℕ) (i : ℕ) → i < length text → all_ascii_digits (take i text) ≡ true → is_ascii_digit (slice_index_or text i 0) ≡ true
    → all_ascii_digits (take (i + 1) text) ≡ true
digits_more text i lt are is = ap all_ascii_digits (take_more text i 0 lt) ∙ digits_append (take i text) (slice_index_or text i 0) are is

-- and its value
pub values_more : (text : List ℕ) (i : ℕ) → i < length text
    → map digit_value (take (i + 1) text) ≡ map digit_value (take i text) ++ digit_value (slice_index_or text i 0) ∷ []
values_more text i lt = ap (map digit_value) (take_more text i 0 lt) ∙ map-append digit_value (take i text) (slice_index_or text i 0 ∷ [])

no_digits : (text : List ℕ) (i : ℕ) → i < length text → is_ascii_digit (slice_index_or text i 0) ≡ false → all_ascii_digits text ≡ false
no_digits [] i lt none = absurd (omega (arith, lt))
no_digits (c ∷ text) zero lt none = and_left (is_ascii_digit c) (all_ascii_digits text) none
no_digits (c ∷ text) (suc i) lt none = and_right (is_ascii_digit c) (all_ascii_digits text) (no_digits text i (omega (arith, lt)) none)

-- a text with something else in it says nothing
pub digits_in-other : (text : List ℕ) (i : ℕ) → i < length text → is_ascii_digit (slice_index_or text i 0) ≡ false → digits_in text ≡ None
digits_in-other text i lt none =
    ap (λ (x : Bool). if x then Some (map digit_value text) else None)
    (and_right (not (length text == 0)) (all_ascii_digits text) (no_digits text i lt none))
