-- The number that digits write, digit by digit.
use Rattle.std.proofs.Common.{◌≡◌, ℕ, ◌+◌, ◌-◌, ◌*◌, ◌/◌, ◌^◌, ◌<◌, ◌≤◌, List, [], ◌∷◌, length, get_or, take, drop, refl, ap, arith}
use Rattle.std.proofs.Common.{true, false, Bool, cond}
use Rattle.std.specs.Prelude.{IsTrue, All, take_while, nat_lt}
use Rattle.std.specs.Char.{is_ascii_digit, digit_value}
use Rattle.std.specs.List.{AllByRecursion, prefix_len}
use Rattle.std.specs.Str.Parse.{digits_value, digits_value_after}
use Rattle.std.proofs.lemmas.List.{drop_more}
use Rattle.std.proofs.lemmas.Bool.Decides.{nat_tests}
use Rattle.std.proofs.lemmas.Bool.{le-ltb}
use Rattle.std.proofs.lemmas.List.Sums.{take_while-cons, prefix_len-drop_yes}
use Rattle.std.proofs.lemmas.List.Elements.{All-from_recursion}

pub digit_is : (c : ℕ) → IsTrue (is_ascii_digit c) → digit_value c ≡ c - 48
digit_is c h = grind (arith, nat_tests)

-- one digit more
pub goes_on : (run : List ℕ) (i n : ℕ) → i < length run → IsTrue (is_ascii_digit (get_or run i 0)) →
    digits_value_after 10 n (drop i run) ≡ digits_value_after 10 (n * 10 + (get_or run i 0 - 48)) (drop (i + 1) run)
goes_on run i n h t = rw (drop_more run i 0 h)
    (ap (λ (d : ℕ). digits_value_after 10 (n * 10 + d) (drop (i + 1) run)) (digit_is (get_or run i 0) t))

-- a number grows with its digits
pub grows : (n : ℕ) (cs : List ℕ) → n ≤ digits_value_after 10 n cs
grows n [] = omega arith
grows n (c ∷ cs) = omega (arith, grows (n * 10 + digit_value c) cs)

each_digit : (b : Bool) (x : ℕ) (ds : List ℕ) → is_ascii_digit x ≡ b → AllByRecursion (λ c. IsTrue (is_ascii_digit c)) ds →
    AllByRecursion (λ c. IsTrue (is_ascii_digit c)) (cond b (x ∷ ds) [])
each_digit true x ds e h = (e, h)
each_digit false x ds e h = tt

by_recursion : (xs : List ℕ) → AllByRecursion (λ c. IsTrue (is_ascii_digit c)) (take_while is_ascii_digit xs)
by_recursion [] = tt
by_recursion (x ∷ xs) = rw (take_while-cons is_ascii_digit x xs)
    (each_digit (is_ascii_digit x) x (take_while is_ascii_digit xs) refl (by_recursion xs))

-- what stands in a run of digits
pub run_is_digits : (xs : List ℕ) → All (λ c. IsTrue (is_ascii_digit c)) (take_while is_ascii_digit xs)
run_is_digits xs = All-from_recursion (λ c. IsTrue (is_ascii_digit c)) (take_while is_ascii_digit xs) (by_recursion xs)

-- a number that passes 64 bits before its last digit
pub passes : (run : List ℕ) (i n : ℕ) → i < length run → All (λ c. IsTrue (is_ascii_digit c)) run →
    digits_value_after 10 n (drop i run) ≡ digits_value 10 run → (2 ^ 64 - 1 - (get_or run i 0 - 48)) / 10 < n → get_or run i 0 < 58 →
    nat_lt (digits_value 10 run) (2 ^ 64) ≡ false
passes run i n h all so_far big digit =
    let e = goes_on run i n h (all i 0 h) in
    let g = grows (n * 10 + (get_or run i 0 - 48)) (drop (i + 1) run) in
    le-ltb (digits_value 10 run) (2 ^ 64) (omega arith)

pub digit_below : (c : ℕ) → IsTrue (is_ascii_digit c) → c < 58
digit_below c h = grind (arith, nat_tests)

-- a run that is read on by one digit
pub run_goes_on : (source : List ℕ) (at end : ℕ) → end < length source → is_ascii_digit (get_or source end 0) ≡ true →
    end + prefix_len is_ascii_digit (drop end source) ≡ at + prefix_len is_ascii_digit (drop at source) →
    end + 1 + prefix_len is_ascii_digit (drop (end + 1) source) ≡ at + prefix_len is_ascii_digit (drop at source)
run_goes_on source at end within digit so_far = omega (arith, prefix_len-drop_yes is_ascii_digit source end 0 within digit)

-- a run behind which no digit follows
pub run_ends : (source : List ℕ) (at end : ℕ) → prefix_len is_ascii_digit (drop end source) ≡ 0 →
    end + prefix_len is_ascii_digit (drop end source) ≡ at + prefix_len is_ascii_digit (drop at source) →
    take (end - at) (drop at source) ≡ take_while is_ascii_digit (drop at source)
run_ends source at end none so_far =
    let count : end - at ≡ prefix_len is_ascii_digit (drop at source) = omega arith in
    ap (λ (n : ℕ). take n (drop at source)) count
