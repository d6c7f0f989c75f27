-- What is read as a string or an integer is spelled so.
use Rattle.std.proofs.Common.{◌≡◌, ℕ, zero, suc, ◌+◌, ◌-◌, ◌≤◌, ◌<◌, ◌^◌, ℤ, List, [], ◌∷◌, ◌++◌, length, get_or, drop, take, Ok, refl, sym, ap}
use Rattle.std.proofs.Common.{subst, ◌∙◌, append_assoc, arith, eqb, ltb, cond, true, false, Bool, inl, inr}
use Rattle.std.specs.Prelude.{decimal, take_while, ◌||◌, ◌&&◌}
use Rattle.std.specs.Fmt.{signed_decimal}
use Rattle.std.specs.List.{prefix_len}
use Rattle.std.specs.Str.{all_ascii_digits}
use Rattle.std.specs.Str.Parse.{digits_value}
use Rattle.std.proofs.lemmas.Bool.{cases_lt, eqb-true, eqb-false, eq-eqb, lt-ltb, ltb-false, ltb-true}
use Rattle.std.proofs.lemmas.List.{length-append, length-drop, length-take, drop_more, drop-drop, take-append-drop, get_or_past}
use Rattle.std.proofs.lemmas.List.Folds.{length-prefix_len}
use Rattle.std.proofs.lemmas.List.Sums.{take_while-cons}
use Rattle.std.proofs.lemmas.Fmt.{decimal-digits_value, decimal_digit}
use Rattle.std.specs.Char.{is_ascii_digit}
use Rattle.bt_bencode.specs.declared.fault.BenFault.TheVariants.{Truncated, BadLength, BadInteger, IntegerRange}
use Rattle.bt_bencode.specs.Grammar.{string}
use Rattle.bt_bencode.specs.Reading.{string_at, string_behind, bytes_at, integer_at, integer_behind, integer_of, signed_of, run_at, is_padded}
use Rattle.bt_bencode.proofs.Strings.{own}
use Rattle.bt_bencode.proofs.Results.{bind_ok, chosen, done, ok_is, never}

-- what was read at a place
pub record Takes (source : List ℕ) (at : ℕ) (text : List ℕ) (end : ℕ) : Type 0 where
  pub parts : drop at source ≡ text ++ drop end source
  pub end_is : end ≡ at + length text

pub then_takes : (source : List ℕ) (a b c : ℕ) (x y : List ℕ) → Takes source a x b → Takes source b y c → Takes source a (x ++ y) c
then_takes source a b c x y p q = record {
  parts = p.parts ∙ ap (λ (t : List ℕ). x ++ t) q.parts ∙ sym (append_assoc x y (drop c source));
  end_is = omega (arith, p.end_is, q.end_is, length-append x y);
}

-- a byte that stands at a place
pub byte_takes : (source : List ℕ) (at c : ℕ) (cs : List ℕ) → drop at source ≡ c ∷ cs → Takes source at (c ∷ []) (at + 1)
byte_takes source at c cs h =
    let rest : drop (at + 1) source ≡ cs = sym (drop-drop 1 at source) ∙ ap (λ (xs : List ℕ). drop 1 xs) h in
    record { parts = h ∙ ap (λ (xs : List ℕ). c ∷ xs) (sym rest); end_is = refl }

-- the run of digits at a place
run_takes : (source : List ℕ) (at : ℕ) → Takes source at (run_at source at) (at + length (run_at source at))
run_takes source at =
    let k = prefix_len is_ascii_digit (drop at source) in
    let n : length (run_at source at) ≡ k = length-prefix_len is_ascii_digit (drop at source) in
    record {
      parts = sym (take-append-drop k (drop at source))
          ∙ ap (λ (xs : List ℕ). run_at source at ++ xs) (drop-drop k at source ∙ ap (λ (m : ℕ). drop (at + m) source) (sym n));
      end_is = refl;
    }

run_digits : (xs : List ℕ) → all_ascii_digits (take_while is_ascii_digit xs) ≡ true
run_digits [] = refl
run_digits (x ∷ xs) = rw (take_while-cons is_ascii_digit x xs)
    (with_first (is_ascii_digit x) x (take_while is_ascii_digit xs) refl (run_digits xs))
  where
    with_first : (b : Bool) (x : ℕ) (ds : List ℕ) → is_ascii_digit x ≡ b → all_ascii_digits ds ≡ true →
        all_ascii_digits (cond b (x ∷ ds) []) ≡ true
    with_first true x ds e h = rw (e, h) refl
    with_first false x ds e h = refl

not_both : (x y : Bool) → x ≡ true → y ≡ true → x && y ≡ false → ⊥
not_both true true p q h = cc
not_both true false p q h = cc
not_both false y p q h = cc

one_digit : (run : List ℕ) → is_padded run ≡ false → get_or run 0 0 ≡ 48 → 0 < length run → length run ≡ 1
one_digit [] h z some = absurd (omega arith)
one_digit (d ∷ []) h z some = refl
one_digit (d ∷ e ∷ ds) h z some = absurd
    (not_both (ltb 1 (length (d ∷ e ∷ ds))) (eqb d 48) (lt-ltb 1 (length (d ∷ e ∷ ds)) (omega arith)) (eq-eqb d 48 z) h)

-- the numeral of the number that a run of digits writes
numeral : (xs : List ℕ) → 0 < length (take_while is_ascii_digit xs) → is_padded (take_while is_ascii_digit xs) ≡ false →
    digits_value 10 (take_while is_ascii_digit xs) < 2 ^ 64 →
    decimal (digits_value 10 (take_while is_ascii_digit xs)) ≡ take_while is_ascii_digit xs
numeral xs some plain small = decimal-digits_value own (take_while is_ascii_digit xs) (run_digits xs) some
    (λ z. one_digit (take_while is_ascii_digit xs) plain z some) small

bytes_take : (source : List ℕ) (at n : ℕ) (bytes : List ℕ) (end : ℕ) → bytes_at source at n ≡ Ok (bytes, end) →
    (n ≡ length bytes) × (n ≤ length source) × Takes source at bytes end
bytes_take source at n bytes end is =
    elim (chosen (ltb (length source - at) n) _ _ _ is) [
      | inl long ↦ absurd (never Truncated _ long.1)
      | inr fits ↦
          let p = ok_is (take n (drop at source), at + n) (bytes, end) fits.1 in
          let room : n ≤ length source - at = ltb-false _ _ fits.0 in
          let b : take n (drop at source) ≡ bytes = ap (λ (x : List ℕ × ℕ). x.0) p in
          let e : at + n ≡ end = ap (λ (x : List ℕ × ℕ). x.1) p in
          let len : n ≡ length bytes = omega (arith, ap length b, length-take n (drop at source), length-drop at source) in
          let parts : drop at source ≡ take n (drop at source) ++ drop (at + n) source = sym (take-append-drop n (drop at source))
          ∙ ap (λ (xs : List ℕ). take n (drop at source) ++ xs) (drop-drop n at source) in (
            len,
            omega arith,
            record {
              parts = parts ∙ ap (λ (xs : List ℕ). xs ++ drop (at + n) source) b ∙ ap (λ (m : ℕ). bytes ++ drop m source) e;
              end_is = omega arith;
            },
          )
    ]

text_takes : (source : List ℕ) (e : ℕ) (run xs bytes : List ℕ) (end : ℕ) → drop e source ≡ xs →
    string_behind source e run xs ≡ Ok (bytes, end) →
    (is_padded run ≡ false) × (digits_value 10 run ≡ length bytes) × (digits_value 10 run ≤ length source) × Takes source e (58 ∷ bytes) end
text_takes source e run [] bytes end h is = absurd (never Truncated _ is)
text_takes source e run (c ∷ cs) bytes end h is =
    elim (chosen (eqb c 58) _ _ _ is) [
      | inr b ↦ absurd (never BadLength _ b.1)
      | inl colon ↦ elim (chosen (is_padded run) _ _ _ colon.1) [
        | inl padded ↦ absurd (never BadLength _ padded.1)
        | inr plain ↦
            let b = bytes_take source (e + 1) (digits_value 10 run) bytes end plain.1 in
            let c-is : c ∷ cs ≡ 58 ∷ cs = ap (λ (x : ℕ). x ∷ cs) (eqb-true c 58 colon.0) in
            (plain.0, b.0, b.1, then_takes source e (e + 1) end (58 ∷ []) bytes (byte_takes source e 58 cs (h ∙ c-is)) b.2)
      ]
    ]

pub string_takes : (source : List ℕ) (at : ℕ) (bytes : List ℕ) (end : ℕ) → length source < 2 ^ 64 → 0 < length (run_at source at) →
    string_at source at ≡ Ok (bytes, end) → Takes source at (string bytes) end
unfolding string_at
string_takes source at bytes end small some is =
    let run = run_at source at in
    let t = text_takes source (at + length run) run (drop (at + length run) source) bytes end refl is in
    let n : digits_value 10 run < 2 ^ 64 = omega (arith, t.2) in
    let d : run ≡ decimal (length bytes) = sym (numeral (drop at source) some t.0 n) ∙ ap decimal t.1 in
    let both = then_takes source at (at + length run) end run (58 ∷ bytes) (run_takes source at) t.3 in
    subst (λ (x : List ℕ). Takes source at (x ++ 58 ∷ bytes) end) d both

-- ---- integers

none_of : (a b c : Bool) → a || b || c ≡ false → (a ≡ false) × (b ≡ false) × (c ≡ false)
none_of false false false h = (refl, refl, refl)
none_of true b c h = absurd cc
none_of false true c h = absurd cc
none_of false false true h = absurd cc

neg_decimal : (v : ℕ) → 0 < v → 45 ∷ decimal v ≡ signed_decimal (signed_of true v)
neg_decimal zero h = absurd (omega arith)
neg_decimal (suc m) h = refl

-- a run that is the numeral of a number that isn't 0, where it doesn't begin with 0
some_number : (v : ℕ) (run : List ℕ) → decimal v ≡ run → eqb (get_or run 0 0) 48 ≡ false → 0 < v
some_number zero run d z = absurd
    (eqb-false (get_or run 0 0) 48 z
    (sym (ap (λ (xs : List ℕ). get_or xs 0 0) d) ∙ ap (λ (xs : List ℕ). get_or xs 0 0) (decimal_digit 0 (omega arith))))
some_number (suc m) run d z = omega arith

integer_is : (negative : Bool) (run : List ℕ) (n : ℤ) → all_ascii_digits run ≡ true → integer_of negative run ≡ Ok n →
    cond negative (45 ∷ run) run ≡ signed_decimal n
integer_is true run n digits is =
    elim (chosen (eqb (length run) 0 || is_padded run || (true && eqb (get_or run 0 0) 48)) _ _ _ is) [
      | inl bad ↦ absurd (never BadInteger _ bad.1)
      | inr good ↦ elim (chosen (ltb (digits_value 10 run) (2 ^ 63 + 1)) _ _ _ good.1) [
        | inr wide ↦ absurd (never IntegerRange _ wide.1)
        | inl fits ↦
            let p = none_of (eqb (length run) 0) (is_padded run) (eqb (get_or run 0 0) 48) good.0 in
            let small : digits_value 10 run < 2 ^ 64 = omega (arith, ltb-true (digits_value 10 run) (2 ^ 63 + 1) fits.0) in
            let some : 0 < length run = grind (arith, eqb-false (length run) 0 p.0) in
            let d : decimal (digits_value 10 run) ≡ run = decimal-digits_value own run digits some (λ z. one_digit run p.1 z some) small in
            ap (λ (xs : List ℕ). 45 ∷ xs) (sym d) ∙ neg_decimal (digits_value 10 run) (some_number (digits_value 10 run) run d p.2)
            ∙ ap signed_decimal (ok_is _ n fits.1)
      ]
    ]
integer_is false run n digits is =
    elim (chosen (eqb (length run) 0 || is_padded run || (false && eqb (get_or run 0 0) 48)) _ _ _ is) [
      | inl bad ↦ absurd (never BadInteger _ bad.1)
      | inr good ↦ elim (chosen (ltb (digits_value 10 run) (2 ^ 63)) _ _ _ good.1) [
        | inr wide ↦ absurd (never IntegerRange _ wide.1)
        | inl fits ↦
            let p = none_of (eqb (length run) 0) (is_padded run) false good.0 in
            let small : digits_value 10 run < 2 ^ 64 = omega (arith, ltb-true (digits_value 10 run) (2 ^ 63) fits.0) in
            let some : 0 < length run = grind (arith, eqb-false (length run) 0 p.0) in
            let d : decimal (digits_value 10 run) ≡ run = decimal-digits_value own run digits some (λ z. one_digit run p.1 z some) small in
            sym d ∙ ap signed_decimal (ok_is _ n fits.1)
      ]
    ]

pub end_takes : (source : List ℕ) (e : ℕ) (negative : Bool) (run xs : List ℕ) (n : ℤ) (end : ℕ) → drop e source ≡ xs →
    integer_behind e negative run xs ≡ Ok (n, end) → (integer_of negative run ≡ Ok n) × Takes source e (101 ∷ []) end
end_takes source e negative run [] n end h is = absurd (never Truncated _ is)
end_takes source e negative run (c ∷ cs) n end h is =
    elim (chosen (eqb c 101) _ _ _ is) [
      | inr b ↦ absurd (never BadInteger _ b.1)
      | inl ended ↦
          let x = bind_ok (integer_of negative run) (λ m. Ok (m, e + 1)) (n, end) ended.1 in
          let p = ok_is (x.0, e + 1) (n, end) x.2 in
          let m-is : x.0 ≡ n = ap (λ (y : ℤ × ℕ). y.0) p in
          let e-is : e + 1 ≡ end = ap (λ (y : ℤ × ℕ). y.1) p in
          let c-is : c ∷ cs ≡ 101 ∷ cs = ap (λ (y : ℕ). y ∷ cs) (eqb-true c 101 ended.0) in
          (x.1 ∙ ap (λ (y : ℤ). done y) m-is, subst (Takes source e (101 ∷ [])) e-is (byte_takes source e 101 cs (h ∙ c-is)))
    ]

-- what isn't 0 stands in the list
inside : (source : List ℕ) (at c : ℕ) → get_or source at 0 ≡ suc c → at < length source
inside source at c h =
    elim (cases_lt at (length source)) [
      | inl lt ↦ lt
      | inr le ↦ omega (arith, get_or_past source at 0 le)
    ]

sign_takes : (negative : Bool) (source : List ℕ) (at : ℕ) → eqb (get_or source at 0) 45 ≡ negative →
    Takes source at (cond negative (45 ∷ []) []) (cond negative (at + 1) at)
sign_takes true source at h = byte_takes source at 45 (drop (at + 1) source)
    (drop_more source at 0 (inside source at 44 (eqb-true _ 45 h)) ∙ ap (λ (c : ℕ). c ∷ drop (at + 1) source) (eqb-true _ 45 h))
sign_takes false source at h = record { parts = refl; end_is = omega arith }

with_sign : (negative : Bool) (run : List ℕ) → cond negative (45 ∷ []) [] ++ run ≡ cond negative (45 ∷ run) run
with_sign true run = refl
with_sign false run = refl

pub integer_takes : (source : List ℕ) (at : ℕ) (n : ℤ) (end : ℕ) → integer_at source at ≡ Ok (n, end) →
    Takes source at (signed_decimal n ++ 101 ∷ []) end
unfolding integer_at
integer_takes source at n end is =
    let negative : Bool = eqb (get_or source at 0) 45 in
    let start : ℕ = cond negative (at + 1) at in
    let run : List ℕ = run_at source start in
    let e : ℕ = start + length run in
    let t = end_takes source e negative run (drop e source) n end refl is in
    let signed = then_takes source at start e (cond negative (45 ∷ []) []) run (sign_takes negative source at refl)
    (run_takes source start) in
    let spelled : cond negative (45 ∷ []) [] ++ run ≡ signed_decimal n = with_sign negative run
    ∙ integer_is negative run n (run_digits (drop start source)) t.0 in
    subst (λ (x : List ℕ). Takes source at (x ++ 101 ∷ []) end) spelled
    (then_takes source at e end (cond negative (45 ∷ []) [] ++ run) (101 ∷ []) signed t.1)
