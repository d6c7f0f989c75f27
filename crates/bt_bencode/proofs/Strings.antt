-- Numerals and strings as they are read and spelled.
use Rattle.std.proofs.Common.{◌≡◌, ℕ, zero, suc, ◌+◌, ◌-◌, ◌<◌, ◌^◌, List, [], ◌∷◌, ◌++◌, length, get_or, drop, Ok, refl, sym, ap, ◌∙◌, append_assoc}
use Rattle.std.proofs.Common.{arith, Bool, true, false, ltb, eqb, ℤ, pos, negsuc}
use Rattle.std.specs.Prelude.{decimal, take_while, ◌&&◌, FitsSigned}
use Rattle.std.specs.Char.{is_ascii_digit}
use Rattle.std.specs.Str.{all_ascii_digits}
use Rattle.std.specs.Str.Parse.{digits_value}
use Rattle.std.proofs.lemmas.Str.Parse.{IsNumeralModel, numerals_by_value, tells_all_ascii_digits}
use Rattle.std.proofs.lemmas.Fmt.{digits_decimal, digits_value-decimal, first_decimal, decimal_nonempty, decimal_digit}
use Rattle.std.proofs.lemmas.Bool.{ne_eqb, le-ltb, lt-ltb}
use Rattle.std.proofs.lemmas.Bool.Decides.{nat_tests}
use Rattle.std.specs.Int.{w64}
use Rattle.std.specs.Fmt.{signed_decimal}
use Rattle.std.proofs.lemmas.List.{get_or-drop, drop_at, take_at, drop-drop, length-append, length-drop}
use Rattle.std.proofs.lemmas.List.Sums.{take_while-cons}
use Rattle.bt_bencode.specs.Grammar.{string}
use Rattle.bt_bencode.specs.Reading.{run_at, is_padded, string_at, integer_at}

abbrev pub own : IsNumeralModel (λ ds. all_ascii_digits ds ≡ true) (digits_value 10)
own = numerals_by_value _ tells_all_ascii_digits

pub first_of : (b c : Bool) → b && c ≡ true → (b ≡ true) × (c ≡ true)
first_of true c h = (refl, h)
first_of false c h = absurd cc

-- a run of digits goes up to the first byte that is none
pub run_stops : (ds : List ℕ) (c : ℕ) (rest : List ℕ) → all_ascii_digits ds ≡ true → is_ascii_digit c ≡ false →
    take_while is_ascii_digit (ds ++ c ∷ rest) ≡ ds
run_stops [] c rest h stop = rw (take_while-cons is_ascii_digit c rest, stop) refl
run_stops (d ∷ ds) c rest h stop =
    let p = first_of (is_ascii_digit d) (all_ascii_digits ds) h in
    rw (take_while-cons is_ascii_digit d (ds ++ c ∷ rest), p.0) (ap (λ (xs : List ℕ). d ∷ xs) (run_stops ds c rest p.1 stop))

no_and : (b : Bool) → b && false ≡ false
no_and true = refl
no_and false = refl

pub unpadded : (n : ℕ) → n < 2 ^ 64 → is_padded (decimal n) ≡ false
unpadded zero h = rw (decimal_digit 0 (omega arith)) refl
unpadded (suc n) h = rw (ne_eqb (get_or (decimal (suc n)) 0 0) 48 (λ e. omega (arith, first_decimal (suc n) (omega arith) h)))
    (no_and (ltb 1 (length (decimal (suc n)))))

-- what stands behind a part
pub drop_behind : (source : List ℕ) (at : ℕ) (a b : List ℕ) → drop at source ≡ a ++ b → drop (at + length a) source ≡ b
drop_behind source at a b h = sym (drop-drop (length a) at source) ∙ ap (λ (xs : List ℕ). drop (length a) xs) h
    ∙ drop_at a b (length a) refl

pub string_again : (source : List ℕ) (at : ℕ) (bytes rest : List ℕ) → length bytes < 2 ^ 64 → drop at source ≡ string bytes ++ rest →
    string_at source at ≡ Ok (bytes, at + length (string bytes))
unfolding string_at
string_again source at bytes rest small h =
    let d : List ℕ = decimal (length bytes) in
    let whole : drop at source ≡ d ++ 58 ∷ (bytes ++ rest) = h ∙ append_assoc d (58 ∷ bytes) rest in
    let run : run_at source at ≡ d = ap (take_while is_ascii_digit) whole
    ∙ run_stops d 58 (bytes ++ rest) (digits_decimal own (length bytes) small) refl in
    let behind : drop (at + length d) source ≡ 58 ∷ (bytes ++ rest) = drop_behind source at d (58 ∷ (bytes ++ rest)) whole in
    let text : drop (at + length d + 1) source ≡ bytes ++ rest = drop_behind source (at + length d) (58 ∷ []) (bytes ++ rest) behind in
    let room : ltb (length source - (at + length d + 1)) (length bytes) ≡ false =
    le-ltb _ _ (omega (arith, ap length text, length-append bytes rest, length-drop (at + length d + 1) source)) in
    let len : at + length d + 1 + length bytes ≡ at + length (string bytes) = omega (arith, length-append d (58 ∷ bytes)) in
    rw (
      run,
      behind,
      unpadded (length bytes) small,
      digits_value-decimal own (length bytes) small,
      room,
      text,
      take_at bytes rest
          (length bytes) refl,
      len,
    ) refl

-- ---- integers

pub first_digit : (ds xs : List ℕ) → all_ascii_digits ds ≡ true → 0 < length ds → is_ascii_digit (get_or (ds ++ xs) 0 0) ≡ true
first_digit [] xs h n = absurd (omega arith)
first_digit (d ∷ ds) xs h n = (first_of (is_ascii_digit d) (all_ascii_digits ds) h).0

no_sign : (c : ℕ) → is_ascii_digit c ≡ true → eqb c 45 ≡ false
no_sign c digit = ne_eqb c 45 (λ is. grind (arith, nat_tests))

-- the byte at a place
pub byte_at : (source : List ℕ) (at : ℕ) (xs : List ℕ) → drop at source ≡ xs → get_or source at 0 ≡ get_or xs 0 0
byte_at source at xs h = ap (λ (k : ℕ). get_or source k 0) (omega arith) ∙ sym (get_or-drop at source 0 0)
    ∙ ap (λ (ys : List ℕ). get_or ys 0 0) h

pub integer_again : (source : List ℕ) (at : ℕ) (n : ℤ) (rest : List ℕ) → FitsSigned w64 n →
    drop at source ≡ signed_decimal n ++ 101 ∷ rest → integer_at source at ≡ Ok (n, at + length (signed_decimal n) + 1)
unfolding integer_at
integer_again source at (pos m) rest fits h =
    let small : m < 2 ^ 64 = omega (arith, fits) in
    let digits = digits_decimal own m small in
    let run : run_at source at ≡ decimal m = ap (take_while is_ascii_digit) h ∙ run_stops (decimal m) 101 rest digits refl in
    let behind : drop (at + length (decimal m)) source ≡ 101 ∷ rest = drop_behind source at (decimal m) (101 ∷ rest) h in
    let sign : eqb (get_or source at 0) 45 ≡ false =
    no_sign _ (ap is_ascii_digit (byte_at source at _ h) ∙ first_digit (decimal m) (101 ∷ rest) digits (decimal_nonempty m small)) in
    let some : eqb (length (decimal m)) 0 ≡ false = ne_eqb _ 0 (λ e. omega (arith, decimal_nonempty m small)) in
    let within : ltb m (2 ^ 63) ≡ true = lt-ltb m (2 ^ 63) (omega (arith, fits)) in
    rw (sign, run, behind, some, unpadded m small, digits_value-decimal own m small, within) refl
integer_again source at (negsuc m) rest fits h =
    let small : suc m < 2 ^ 64 = omega (arith, fits) in
    let digits = digits_decimal own (suc m) small in
    let inside : drop (at + 1) source ≡ decimal (suc m) ++ 101 ∷ rest = drop_behind source at (45 ∷ []) (decimal (suc m) ++ 101 ∷ rest) h in
    let run : run_at source (at + 1) ≡ decimal (suc m) = ap (take_while is_ascii_digit) inside
    ∙ run_stops (decimal (suc m)) 101 rest digits refl in
    let behind : drop (at + 1 + length (decimal (suc m))) source ≡ 101 ∷ rest =
    drop_behind source (at + 1) (decimal (suc m)) (101 ∷ rest) inside in
    let sign : get_or source at 0 ≡ 45 = byte_at source at _ h in
    let some : eqb (length (decimal (suc m))) 0 ≡ false = ne_eqb _ 0 (λ e. omega (arith, decimal_nonempty (suc m) small)) in
    let not_zero : eqb (get_or (decimal (suc m)) 0 0) 48 ≡ false = ne_eqb _ 48 (λ e. omega (arith, first_decimal (suc m) (omega arith) small)) in
    let within : ltb (suc m) (2 ^ 63 + 1) ≡ true = lt-ltb (suc m) (2 ^ 63 + 1) (omega (arith, fits)) in
    let len : at + 1 + length (decimal (suc m)) + 1 ≡ at + suc (length (decimal (suc m))) + 1 = omega arith in
    rw (sign, run, behind, some, unpadded (suc m) small, not_zero, digits_value-decimal own (suc m) small, within, len) refl
