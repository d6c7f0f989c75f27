-- What is read as a value is sound, and no deeper than there was room for.
use Rattle.std.proofs.Common.{◌≡◌, ℕ, zero, suc, ◌+◌, ◌≤◌, ◌<◌, ◌^◌, ℤ, List, [], ◌∷◌, length, drop, Option, None, Some}
use Rattle.std.proofs.Common.{Result, Ok, Err, refl, sym, ap, subst, arith, eqb, ltb, cond, true, false, Bool, inl, inr, get_or}
use Rattle.std.specs.Prelude.{take_while, FitsSigned, ◌||◌, ◌&&◌, decimal}
use Rattle.std.specs.Int.{w64}
use Rattle.std.specs.Char.{is_ascii_digit}
use Rattle.std.specs.Ordering.{nat_cmp, is_lt}
use Rattle.std.specs.Cmp.Lexicographic.{slice_cmp}
use Rattle.std.specs.Str.Parse.{digits_value}
use Rattle.std.proofs.lemmas.Bool.{ltb-true}
use Rattle.std.proofs.lemmas.List.{length-append, length-drop}
use Rattle.bt_bencode.specs.declared.fault.BenFault.{BenFault}
use Rattle.bt_bencode.specs.declared.fault.BenFault.TheVariants.{Trailing, Truncated, KeyOrder, BadByte, TooDeep, BadInteger, IntegerRange}
use Rattle.bt_bencode.specs.declared.tree.TheConstants.{MAX_DEPTH}
use Rattle.bt_bencode.specs.Term.{Term, Terms, Entries, int, text, list, dict, no_terms, more_terms, no_entries, more_entries, depth}
use Rattle.bt_bencode.specs.Term.{depth_of_terms, depth_of_entries}
use Rattle.bt_bencode.specs.Grammar.{IsSound, AreSound, EntriesAreSound, IsTree, keys_rise, string}
use Rattle.bt_bencode.specs.Placed.{span}
use Rattle.bt_bencode.specs.Reading.{◌>>=◌, value_at, items_at, items_behind, entries_at, entries_behind, value_behind, tree_of, string_at}
use Rattle.bt_bencode.specs.Reading.{integer_at, integer_of, signed_of, run_at, is_late, is_padded, no_key}
use Rattle.bt_bencode.proofs.Results.{bind_ok, chosen, ok_is, never}
use Rattle.bt_bencode.proofs.Lists.{is_above}
use Rattle.bt_bencode.proofs.Laws.{IsAbove}
use Rattle.bt_bencode.proofs.Takes.{Takes, string_takes, end_takes}
use Rattle.bt_bencode.proofs.ValuesTake.{some_run}

-- ---- integers and strings

minus_fits : (v : ℕ) → v < 2 ^ 63 + 1 → FitsSigned w64 (signed_of true v)
minus_fits zero h = omega arith
minus_fits (suc m) h = omega arith

number_fits : (negative : Bool) (run : List ℕ) (n : ℤ) → integer_of negative run ≡ Ok n → FitsSigned w64 n
number_fits true run n is =
    elim (chosen (eqb (length run) 0 || is_padded run || (true && eqb (get_or run 0 0) 48)) _ _ _ is) [
      | inl bad ↦ absurd (never BadInteger _ bad.1)
      | inr good ↦ elim (chosen (ltb (digits_value 10 run) (2 ^ 63 + 1)) _ _ _ good.1) [
        | inr wide ↦ absurd (never IntegerRange _ wide.1)
        | inl fits ↦ subst (FitsSigned w64) (ok_is _ n fits.1)
            (minus_fits (digits_value 10 run) (ltb-true (digits_value 10 run) (2 ^ 63 + 1) fits.0))
      ]
    ]
number_fits false run n is =
    elim (chosen (eqb (length run) 0 || is_padded run || (false && eqb (get_or run 0 0) 48)) _ _ _ is) [
      | inl bad ↦ absurd (never BadInteger _ bad.1)
      | inr good ↦ elim (chosen (ltb (digits_value 10 run) (2 ^ 63)) _ _ _ good.1) [
        | inr wide ↦ absurd (never IntegerRange _ wide.1)
        | inl fits ↦ let small : digits_value 10 run < 2 ^ 63 = ltb-true (digits_value 10 run) (2 ^ 63) fits.0 in
            subst (FitsSigned w64) (ok_is _ n fits.1) (omega arith)
      ]
    ]

integer_fits : (source : List ℕ) (at : ℕ) (n : ℤ) (end : ℕ) → integer_at source at ≡ Ok (n, end) → FitsSigned w64 n
unfolding integer_at
integer_fits source at n end is =
    let negative : Bool = eqb (get_or source at 0) 45 in
    let start : ℕ = cond negative (at + 1) at in
    let run : List ℕ = run_at source start in
    let t = end_takes source (start + length run) negative run (drop (start + length run) source) n end refl is in
    number_fits negative run n t.0

string_short : (source : List ℕ) (at : ℕ) (bytes : List ℕ) (end : ℕ) → length source < 2 ^ 64 → Takes source at (string bytes) end →
    length bytes < 2 ^ 64
string_short source at bytes end small t = omega (
  arith,
  ap length t.parts,
  length-append (string bytes) (drop end source),
  length-append (decimal (length bytes)) (58 ∷ bytes),
  length-drop at source,
)

string_fits : (source : List ℕ) (at c : ℕ) (cs bytes : List ℕ) (end : ℕ) → length source < 2 ^ 64 → drop at source ≡ c ∷ cs →
    is_ascii_digit c ≡ true → string_at source at ≡ Ok (bytes, end) → length bytes < 2 ^ 64
string_fits source at c cs bytes end small h digit is =
    let some : 0 < length (run_at source at) =
    subst (λ (xs : List ℕ). 0 < length (take_while is_ascii_digit xs)) (sym h) (some_run c cs digit) in
    string_short source at bytes end small (string_takes source at bytes end small some is)

-- ---- lists and dictionaries

-- what each value that is read is; the items of each list; the entries behind a last key
abbrev ValuesSound : ℕ → (ℕ → Result (Term × ℕ) BenFault) → Type 0
ValuesSound room value = (at : ℕ) (t : Term) (end : ℕ) → value at ≡ Ok (t, end) → IsSound t × (depth t ≤ room)

abbrev ItemsSound : ℕ → (ℕ → Result (Terms × ℕ) BenFault) → Type 0
ItemsSound room items = (at : ℕ) (ts : Terms) (end : ℕ) → items at ≡ Ok (ts, end) → AreSound ts × (depth_of_terms ts ≤ room)

abbrev Sound : ℕ → Option (List ℕ) → Entries → Type 0
Sound room last es = EntriesAreSound es × (keys_rise es ≡ true) × IsAbove last es × (depth_of_entries es ≤ room)

abbrev EntriesSound : ℕ → Option (List ℕ) → (ℕ → Result (Entries × ℕ) BenFault) → Type 0
EntriesSound room last entries = (at : ℕ) (es : Entries) (end : ℕ) → entries at ≡ Ok (es, end) → Sound room last es

item_sound : (room : ℕ) (value : ℕ → Result (Term × ℕ) BenFault) (more : ℕ → Result (Terms × ℕ) BenFault) → ValuesSound room value →
    ItemsSound room more → (at : ℕ) (xs : List ℕ) (ts : Terms) (end : ℕ) → items_behind value more at xs ≡ Ok (ts, end) →
    AreSound ts × (depth_of_terms ts ≤ room)
item_sound room value more v m at [] ts end is = absurd (never Truncated _ is)
item_sound room value more v m at (c ∷ cs) ts end is =
    let Q : Terms × ℕ → Type 0 = λ y. AreSound y.0 × (depth_of_terms y.0 ≤ room) in
    elim (chosen (eqb c 101) _ _ _ is) [
      | inl ended ↦ subst Q (ok_is (no_terms, at + 1) (ts, end) ended.1) (tt, omega arith)
      | inr on ↦
          let a = bind_ok (value at) (λ t. more t.1 >>= λ us. Ok (more_terms t.0 us.0, us.1)) (ts, end) on.1 in
          let b = bind_ok (more a.0.1) (λ us. Ok (more_terms a.0.0 us.0, us.1)) (ts, end) a.2 in
          let first = v at a.0.0 a.0.1 a.1 in
          let others = m a.0.1 b.0.0 b.0.1 b.1 in
          subst Q (ok_is (more_terms a.0.0 b.0.0, b.0.1) (ts, end) b.2) ((first.0, others.0), omega (arith, first.1, others.1))
    ]

items_sound : (room : ℕ) (source : List ℕ) (value : ℕ → Result (Term × ℕ) BenFault) → ValuesSound room value → (turns : ℕ) →
    ItemsSound room (items_at value source turns)
unfolding items_at
items_sound room source value v zero at ts end is = absurd (never Truncated _ is)
items_sound room source value v (suc n) at ts end is =
    item_sound room value (items_at value source n) v (items_sound room source value v n) at (drop at source) ts end is

above_is : (last : Option (List ℕ)) (k : List ℕ) (t : Term) (es : Entries) → is_late last k ≡ false → IsAbove last (more_entries k t es)
above_is None k t es h = tt
above_is (Some last) k t es h = is_above (is_lt (slice_cmp nat_cmp last k)) h

entry_sound : (room : ℕ) (source : List ℕ) (value : ℕ → Result (Term × ℕ) BenFault) (more : List ℕ → ℕ → Result (Entries × ℕ) BenFault) →
    length source < 2 ^ 64 → ValuesSound room value → ((key : List ℕ) → EntriesSound room (Some key) (more key)) →
    (last : Option (List ℕ)) (at : ℕ) (xs : List ℕ) (es : Entries) (end : ℕ) → drop at source ≡ xs →
    entries_behind value more source last at xs ≡ Ok (es, end) → Sound room last es
entry_sound room source value more small v m last at [] es end h is = absurd (never Truncated _ is)
entry_sound room source value more small v m last at (c ∷ cs) es end h is =
    let Q : Entries × ℕ → Type 0 = λ y. Sound room last y.0 in
    elim (chosen (eqb c 101) _ _ _ is) [
      | inl ended ↦ subst Q (ok_is (no_entries, at + 1) (es, end) ended.1) (none_sound last)
      | inr on ↦ elim (chosen (is_ascii_digit c) _ _ _ on.1) [
        | inr bad ↦ absurd (never (no_key c) _ bad.1)
        | inl digit ↦
            let k = bind_ok (string_at source at)
            (λ k. cond (is_late last k.0) (Err KeyOrder)
            (value k.1 >>= λ t. more k.0 t.1 >>= λ us. Ok (more_entries k.0 t.0 us.0, us.1))) (es, end) digit.1 in
            elim (chosen (is_late last k.0.0) _ _ _ k.2) [
              | inl late ↦ absurd (never KeyOrder _ late.1)
              | inr fine ↦
                  let a = bind_ok (value k.0.1) (λ t. more k.0.0 t.1 >>= λ us. Ok (more_entries k.0.0 t.0 us.0, us.1)) (es, end) fine.1 in
                  let b = bind_ok (more k.0.0 a.0.1) (λ us. Ok (more_entries k.0.0 a.0.0 us.0, us.1)) (es, end) a.2 in
                  let short = string_fits source at c cs k.0.0 k.0.1 small h digit.0 k.1 in
                  let first = v k.0.1 a.0.0 a.0.1 a.1 in
                  let others = m k.0.0 a.0.1 b.0.0 b.0.1 b.1 in
                  subst Q (ok_is (more_entries k.0.0 a.0.0 b.0.0, b.0.1) (es, end) b.2) (
                    (short, first.0, others.0),
                    rw (others.2, others.1) refl,
                    above_is last k.0.0 a.0.0 b.0.0 fine.0,
                    omega (arith, first.1, others.3),
                  )
            ]
      ]
    ]
  where
    none_sound : (last : Option (List ℕ)) → Sound room last no_entries
    none_sound None = (tt, refl, tt, omega arith)
    none_sound (Some key) = (tt, refl, refl, omega arith)

entries_sound : (room : ℕ) (source : List ℕ) (value : ℕ → Result (Term × ℕ) BenFault) → length source < 2 ^ 64 → ValuesSound room value →
    (turns : ℕ) (last : Option (List ℕ)) → EntriesSound room last (entries_at value source turns last)
unfolding entries_at
entries_sound room source value small v zero last at es end is = absurd (never Truncated _ is)
entries_sound room source value small v (suc n) last at es end is =
    entry_sound room source value (λ key. entries_at value source n (Some key)) small v
    (λ key. entries_sound room source value small v n (Some key)) last at (drop at source) es end refl is

-- ---- values

-- what stands inside a value with this room has less of it
abbrev InItems : ℕ → (ℕ → Result (Terms × ℕ) BenFault) → Type 0
InItems room items = (at : ℕ) (ts : Terms) (end : ℕ) → items at ≡ Ok (ts, end) → AreSound ts × (depth_of_terms ts < room)

abbrev InEntries : ℕ → (ℕ → Result (Entries × ℕ) BenFault) → Type 0
InEntries room entries = (at : ℕ) (es : Entries) (end : ℕ) → entries at ≡ Ok (es, end) →
    EntriesAreSound es × (keys_rise es ≡ true) × (depth_of_entries es < room)

value_step : (room : ℕ) (source : List ℕ) (items : ℕ → Result (Terms × ℕ) BenFault) (entries : ℕ → Result (Entries × ℕ) BenFault) →
    length source < 2 ^ 64 → InItems room items → InEntries room entries → (at : ℕ) (xs : List ℕ) (t : Term) (end : ℕ) →
    drop at source ≡ xs → value_behind items entries source at xs ≡ Ok (t, end) → IsSound t × (depth t ≤ room)
value_step room source items entries small i d at [] t end h is = absurd (never Truncated _ is)
value_step room source items entries small i d at (c ∷ cs) t end h is =
    let Q : Term × ℕ → Type 0 = λ y. IsSound y.0 × (depth y.0 ≤ room) in
    elim (chosen (eqb c 105) _ _ _ is) [
      | inl letter ↦
          let a = bind_ok (integer_at source (at + 1)) (λ n. Ok (int (span at n.1) n.0, n.1)) (t, end) letter.1 in
          subst Q (ok_is (int (span at a.0.1) a.0.0, a.0.1) (t, end) a.2) (integer_fits source (at + 1) a.0.0 a.0.1 a.1, omega arith)
      | inr no_integer ↦ elim (chosen (is_ascii_digit c) _ _ _ no_integer.1) [
        | inl digit ↦
            let a = bind_ok (string_at source at) (λ b. Ok (text (span at b.1) b.0, b.1)) (t, end) digit.1 in
            subst Q (ok_is (text (span at a.0.1) a.0.0, a.0.1) (t, end) a.2)
            (string_fits source at c cs a.0.0 a.0.1 small h digit.0 a.1, omega arith)
        | inr no_string ↦ elim (chosen (eqb c 108) _ _ _ no_string.1) [
          | inl letter ↦
              let a = bind_ok (items (at + 1)) (λ ts. Ok (list (span at ts.1) ts.0, ts.1)) (t, end) letter.1 in
              let y = i (at + 1) a.0.0 a.0.1 a.1 in
              subst Q (ok_is (list (span at a.0.1) a.0.0, a.0.1) (t, end) a.2) (y.0, omega (arith, y.1))
          | inr no_list ↦ elim (chosen (eqb c 100) _ _ _ no_list.1) [
            | inl letter ↦
                let a = bind_ok (entries (at + 1)) (λ es. Ok (dict (span at es.1) es.0, es.1)) (t, end) letter.1 in
                let y = d (at + 1) a.0.0 a.0.1 a.1 in
                subst Q (ok_is (dict (span at a.0.1) a.0.0, a.0.1) (t, end) a.2) ((y.1, y.0), omega (arith, y.2))
            | inr other ↦ absurd (never BadByte _ other.1)
          ]
        ]
      ]
    ]

pub value_sound : (room : ℕ) (source : List ℕ) → length source < 2 ^ 64 → ValuesSound room (value_at room source)
unfolding value_at
value_sound zero source small at t end is = value_step 0 source (λ _. Err TooDeep) (λ _. Err TooDeep) small
    (λ a ts e no. absurd (never TooDeep _ no)) (λ a es e no. absurd (never TooDeep _ no)) at (drop at source) t end refl is
value_sound (suc room) source small at t end is =
    let v = value_sound room source small in
    value_step (suc room) source (items_at (value_at room source) source (length source))
    (entries_at (value_at room source) source (length source) None) small
    (λ a ts e read. let y = items_sound room source (value_at room source) v (length source) a ts e read in (y.0, omega (arith, y.1)))
    (λ a es e read. let y = entries_sound room source (value_at room source) small v (length source) None a es e read in
    (y.0, y.1, omega (arith, y.3))) at (drop at source) t end refl is

pub tree_sound : (source : List ℕ) (t : Term) → length source < 2 ^ 64 → tree_of source ≡ Ok t → IsTree t
unfolding tree_of
tree_sound source t small is =
    let a = bind_ok (value_at MAX_DEPTH source 0) (λ x. cond (ltb x.1 (length source)) (Err Trailing) (Ok x.0)) t is in
    elim (chosen (ltb a.0.1 (length source)) _ _ _ a.2) [
      | inl more ↦ absurd (never Trailing _ more.1)
      | inr all ↦ subst IsTree (ok_is a.0.0 t all.1) (value_sound MAX_DEPTH source small 0 a.0.0 a.0.1 a.1)
    ]
