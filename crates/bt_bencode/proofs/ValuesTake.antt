-- What is read as a value is spelled so, and its parts have the spans where they stand.
use Rattle.std.proofs.Common.{◌≡◌, ℕ, zero, suc, ◌+◌, ◌<◌, ◌^◌, List, [], ◌∷◌, ◌++◌, length, drop, Option, None, Some, Result, Ok, Err, refl, sym, ap}
use Rattle.std.proofs.Common.{subst, ◌∙◌, append_assoc, arith, eqb, ltb, cond, true, inl, inr}
use Rattle.std.specs.Prelude.{take_while}
use Rattle.std.specs.Fmt.{signed_decimal}
use Rattle.std.proofs.lemmas.Bool.{eqb-true, ltb-false}
use Rattle.std.proofs.lemmas.List.{append-nil, drop_all}
use Rattle.std.proofs.lemmas.List.Sums.{take_while-cons}
use Rattle.std.specs.Char.{is_ascii_digit}
use Rattle.bt_bencode.specs.declared.fault.BenFault.{BenFault}
use Rattle.bt_bencode.specs.declared.fault.BenFault.TheVariants.{Trailing, Truncated, KeyOrder, BadByte, TooDeep}
use Rattle.bt_bencode.specs.declared.tree.TheConstants.{MAX_DEPTH}
use Rattle.bt_bencode.specs.Term.{Term, Terms, Entries, int, text, list, dict, no_terms, more_terms, no_entries, more_entries}
use Rattle.bt_bencode.specs.Grammar.{spelling, spelling_of_terms, spelling_of_entries, string}
use Rattle.bt_bencode.specs.Placed.{placed, terms_placed, entries_placed, span}
use Rattle.bt_bencode.specs.Reading.{◌>>=◌, value_at, items_at, items_behind, entries_at, entries_behind, value_behind, tree_of, string_at}
use Rattle.bt_bencode.specs.Reading.{integer_at, run_at, is_late, no_key}
use Rattle.bt_bencode.proofs.Results.{bind_ok, chosen, ok_is, never}
use Rattle.bt_bencode.proofs.Takes.{Takes, then_takes, byte_takes, string_takes, integer_takes}

-- what each value that is read takes
abbrev ValuesTake : List ℕ → (ℕ → Result (Term × ℕ) BenFault) → Type 0
ValuesTake source value = (at : ℕ) (t : Term) (end : ℕ) → value at ≡ Ok (t, end) → Takes source at (spelling t) end × (placed at t ≡ t)

abbrev ItemsTake : List ℕ → (ℕ → Result (Terms × ℕ) BenFault) → Type 0
ItemsTake source items = (at : ℕ) (ts : Terms) (end : ℕ) → items at ≡ Ok (ts, end) →
    Takes source at (spelling_of_terms ts ++ 101 ∷ []) end × (terms_placed at ts ≡ ts)

abbrev EntriesTake : List ℕ → (ℕ → Result (Entries × ℕ) BenFault) → Type 0
EntriesTake source entries = (at : ℕ) (es : Entries) (end : ℕ) → entries at ≡ Ok (es, end) →
    Takes source at (spelling_of_entries es ++ 101 ∷ []) end × (entries_placed at es ≡ es)

item_takes : (source : List ℕ) (value : ℕ → Result (Term × ℕ) BenFault) (more : ℕ → Result (Terms × ℕ) BenFault) → ValuesTake source value →
    ItemsTake source more → (at : ℕ) (xs : List ℕ) (ts : Terms) (end : ℕ) → drop at source ≡ xs →
    items_behind value more at xs ≡ Ok (ts, end) → Takes source at (spelling_of_terms ts ++ 101 ∷ []) end × (terms_placed at ts ≡ ts)
item_takes source value more v m at [] ts end h is = absurd (never Truncated _ is)
item_takes source value more v m at (c ∷ cs) ts end h is =
    let Q : Terms × ℕ → Type 0 = λ y. Takes source at (spelling_of_terms y.0 ++ 101 ∷ []) y.1 × (terms_placed at y.0 ≡ y.0) in
    elim (chosen (eqb c 101) _ _ _ is) [
      | inl ended ↦ subst Q (ok_is (no_terms, at + 1) (ts, end) ended.1)
          (byte_takes source at 101 cs (h ∙ ap (λ (x : ℕ). x ∷ cs) (eqb-true c 101 ended.0)), refl)
      | inr on ↦
          let a = bind_ok (value at) (λ t. more t.1 >>= λ us. Ok (more_terms t.0 us.0, us.1)) (ts, end) on.1 in
          let b = bind_ok (more a.0.1) (λ us. Ok (more_terms a.0.0 us.0, us.1)) (ts, end) a.2 in
          let first = v at a.0.0 a.0.1 a.1 in
          let others = m a.0.1 b.0.0 b.0.1 b.1 in
          let both = then_takes source at a.0.1 b.0.1 (spelling a.0.0) (spelling_of_terms b.0.0 ++ 101 ∷ []) first.0 others.0 in
          let e : a.0.1 ≡ at + length (spelling a.0.0) = first.0.end_is in
          let p : terms_placed at (more_terms a.0.0 b.0.0) ≡ more_terms a.0.0 b.0.0 = rw (← e, first.1, others.1) refl in
          subst Q (ok_is (more_terms a.0.0 b.0.0, b.0.1) (ts, end) b.2)
          (rw (append_assoc (spelling a.0.0) (spelling_of_terms b.0.0) (101 ∷ [])) both, p)
    ]

pub items_take : (source : List ℕ) (value : ℕ → Result (Term × ℕ) BenFault) → ValuesTake source value → (turns : ℕ) →
    ItemsTake source (items_at value source turns)
unfolding items_at
items_take source value v zero at ts end is = absurd (never Truncated _ is)
items_take source value v (suc n) at ts end is =
    item_takes source value (items_at value source n) v (items_take source value v n) at (drop at source) ts end refl is

pub some_run : (c : ℕ) (cs : List ℕ) → is_ascii_digit c ≡ true → 0 < length (take_while is_ascii_digit (c ∷ cs))
some_run c cs digit = rw (take_while-cons is_ascii_digit c cs, digit) (omega arith)

entry_takes : (source : List ℕ) (value : ℕ → Result (Term × ℕ) BenFault) (more : List ℕ → ℕ → Result (Entries × ℕ) BenFault) →
    length source < 2 ^ 64 → ValuesTake source value → ((key : List ℕ) → EntriesTake source (more key)) →
    (last : Option (List ℕ)) (at : ℕ) (xs : List ℕ) (es : Entries) (end : ℕ) → drop at source ≡ xs →
    entries_behind value more source last at xs ≡ Ok (es, end) →
    Takes source at (spelling_of_entries es ++ 101 ∷ []) end × (entries_placed at es ≡ es)
entry_takes source value more small v m last at [] es end h is = absurd (never Truncated _ is)
entry_takes source value more small v m last at (c ∷ cs) es end h is =
    let Q : Entries × ℕ → Type 0 = λ y. Takes source at (spelling_of_entries y.0 ++ 101 ∷ []) y.1 × (entries_placed at y.0 ≡ y.0) in
    elim (chosen (eqb c 101) _ _ _ is) [
      | inl ended ↦ subst Q (ok_is (no_entries, at + 1) (es, end) ended.1)
          (byte_takes source at 101 cs (h ∙ ap (λ (x : ℕ). x ∷ cs) (eqb-true c 101 ended.0)), refl)
      | inr on ↦ elim (chosen (is_ascii_digit c) _ _ _ on.1) [
        | inr bad ↦ absurd (never (no_key c) _ bad.1)
        | inl digit ↦
            let k = bind_ok (string_at source at)
            (λ k. cond (is_late last k.0) (Err KeyOrder)
            (value k.1 >>= λ t. more k.0 t.1 >>= λ us. Ok (more_entries k.0 t.0 us.0, us.1))) (es, end) digit.1 in
            elim (chosen (is_late last k.0.0) _ _ _ k.2) [
              | inl late ↦ absurd (never KeyOrder _ late.1)
              | inr fine ↦
                  let a = bind_ok (value k.0.1) (λ t. more k.0.0 t.1 >>= λ us. Ok (more_entries k.0.0 t.0 us.0, us.1)) (es, end) fine.1 in
                  let b = bind_ok (more k.0.0 a.0.1) (λ us. Ok (more_entries k.0.0 a.0.0 us.0, us.1)) (es, end) a.2 in
                  let some : 0 < length (run_at source at) =
                  subst (λ (xs : List ℕ). 0 < length (take_while is_ascii_digit xs)) (sym h) (some_run c cs digit.0) in
                  let key = string_takes source at k.0.0 k.0.1 small some k.1 in
                  let first = v k.0.1 a.0.0 a.0.1 a.1 in
                  let others = m k.0.0 a.0.1 b.0.0 b.0.1 b.1 in
                  let two = then_takes source k.0.1 a.0.1 b.0.1 (spelling a.0.0) (spelling_of_entries b.0.0 ++ 101 ∷ []) first.0 others.0 in
                  let all = then_takes source at k.0.1 b.0.1 (string k.0.0) (spelling a.0.0 ++ (spelling_of_entries b.0.0 ++ 101 ∷ []))
                  key two in
                  let ek : k.0.1 ≡ at + length (string k.0.0) = key.end_is in
                  let ea : a.0.1 ≡ k.0.1 + length (spelling a.0.0) = first.0.end_is in
                  let p : entries_placed at (more_entries k.0.0 a.0.0 b.0.0) ≡ more_entries k.0.0 a.0.0 b.0.0 =
                  rw (← ek, ← ea, first.1, others.1) refl in
                  let text : spelling_of_entries (more_entries k.0.0 a.0.0 b.0.0) ++ 101 ∷ [] ≡ string k.0.0
                  ++ (spelling a.0.0 ++ (spelling_of_entries b.0.0 ++ 101 ∷ [])) =
                  append_assoc (string k.0.0) (spelling a.0.0 ++ spelling_of_entries b.0.0) (101 ∷ [])
                  ∙ ap (λ (x : List ℕ). string k.0.0 ++ x) (append_assoc (spelling a.0.0) (spelling_of_entries b.0.0) (101 ∷ [])) in
                  subst Q (ok_is (more_entries k.0.0 a.0.0 b.0.0, b.0.1) (es, end) b.2)
                  (subst (λ (x : List ℕ). Takes source at x b.0.1) (sym text) all, p)
            ]
      ]
    ]

entries_take : (source : List ℕ) (value : ℕ → Result (Term × ℕ) BenFault) → length source < 2 ^ 64 → ValuesTake source value →
    (turns : ℕ) (last : Option (List ℕ)) → EntriesTake source (entries_at value source turns last)
unfolding entries_at
entries_take source value small v zero last at es end is = absurd (never Truncated _ is)
entries_take source value small v (suc n) last at es end is =
    entry_takes source value (λ key. entries_at value source n (Some key)) small v (λ key. entries_take source value small v n (Some key))
    last at (drop at source) es end refl is

value_step : (source : List ℕ) (items : ℕ → Result (Terms × ℕ) BenFault) (entries : ℕ → Result (Entries × ℕ) BenFault) →
    length source < 2 ^ 64 → ItemsTake source items → EntriesTake source entries → (at : ℕ) (xs : List ℕ) (t : Term) (end : ℕ) →
    drop at source ≡ xs → value_behind items entries source at xs ≡ Ok (t, end) → Takes source at (spelling t) end × (placed at t ≡ t)
value_step source items entries small i d at [] t end h is = absurd (never Truncated _ is)
value_step source items entries small i d at (c ∷ cs) t end h is =
    let Q : Term × ℕ → Type 0 = λ y. Takes source at (spelling y.0) y.1 × (placed at y.0 ≡ y.0) in
    elim (chosen (eqb c 105) _ _ _ is) [
      | inl letter ↦
          let a = bind_ok (integer_at source (at + 1)) (λ n. Ok (int (span at n.1) n.0, n.1)) (t, end) letter.1 in
          let x = then_takes source at (at + 1) a.0.1 (105 ∷ []) (signed_decimal a.0.0 ++ 101 ∷ [])
          (byte_takes source at 105 cs (h ∙ ap (λ (y : ℕ). y ∷ cs) (eqb-true c 105 letter.0)))
          (integer_takes source (at + 1) a.0.0 a.0.1 a.1) in
          subst Q (ok_is (int (span at a.0.1) a.0.0, a.0.1) (t, end) a.2) (x, ap (λ (m : ℕ). int (span at m) a.0.0) (sym x.end_is))
      | inr no_integer ↦ elim (chosen (is_ascii_digit c) _ _ _ no_integer.1) [
        | inl digit ↦
            let a = bind_ok (string_at source at) (λ b. Ok (text (span at b.1) b.0, b.1)) (t, end) digit.1 in
            let some : 0 < length (run_at source at) =
            subst (λ (ys : List ℕ). 0 < length (take_while is_ascii_digit ys)) (sym h) (some_run c cs digit.0) in
            let x = string_takes source at a.0.0 a.0.1 small some a.1 in
            subst Q (ok_is (text (span at a.0.1) a.0.0, a.0.1) (t, end) a.2) (x, ap (λ (m : ℕ). text (span at m) a.0.0) (sym x.end_is))
        | inr no_string ↦ elim (chosen (eqb c 108) _ _ _ no_string.1) [
          | inl letter ↦
              let a = bind_ok (items (at + 1)) (λ ts. Ok (list (span at ts.1) ts.0, ts.1)) (t, end) letter.1 in
              let y = i (at + 1) a.0.0 a.0.1 a.1 in
              let x = then_takes source at (at + 1) a.0.1 (108 ∷ []) (spelling_of_terms a.0.0 ++ 101 ∷ [])
              (byte_takes source at 108 cs (h ∙ ap (λ (z : ℕ). z ∷ cs) (eqb-true c 108 letter.0))) y.0 in
              subst Q (ok_is (list (span at a.0.1) a.0.0, a.0.1) (t, end) a.2) (
                x,
                ap (λ (m : ℕ). list (span at m) (terms_placed (at + 1) a.0.0)) (sym x.end_is)
                    ∙ ap (λ (ts : Terms). list (span at a.0.1) ts) y.1,
              )
          | inr no_list ↦ elim (chosen (eqb c 100) _ _ _ no_list.1) [
            | inl letter ↦
                let a = bind_ok (entries (at + 1)) (λ es. Ok (dict (span at es.1) es.0, es.1)) (t, end) letter.1 in
                let y = d (at + 1) a.0.0 a.0.1 a.1 in
                let x = then_takes source at (at + 1) a.0.1 (100 ∷ []) (spelling_of_entries a.0.0 ++ 101 ∷ [])
                (byte_takes source at 100 cs (h ∙ ap (λ (z : ℕ). z ∷ cs) (eqb-true c 100 letter.0))) y.0 in
                subst Q (ok_is (dict (span at a.0.1) a.0.0, a.0.1) (t, end) a.2) (
                  x,
                  ap (λ (m : ℕ). dict (span at m) (entries_placed (at + 1) a.0.0)) (sym x.end_is)
                      ∙ ap (λ (es : Entries). dict (span at a.0.1) es) y.1,
                )
            | inr other ↦ absurd (never BadByte _ other.1)
          ]
        ]
      ]
    ]

pub value_takes : (room : ℕ) (source : List ℕ) → length source < 2 ^ 64 → ValuesTake source (value_at room source)
unfolding value_at
value_takes zero source small at t end is = value_step source (λ _. Err TooDeep) (λ _. Err TooDeep) small
    (λ a ts e no. absurd (never TooDeep _ no)) (λ a es e no. absurd (never TooDeep _ no)) at (drop at source) t end refl is
value_takes (suc room) source small at t end is =
    let v = value_takes room source small in
    value_step source (items_at (value_at room source) source (length source))
    (entries_at (value_at room source) source (length source) None) small (items_take source (value_at room source) v (length source))
    (entries_take source (value_at room source) small v (length source) None) at (drop at source) t end refl is

pub tree_takes : (source : List ℕ) (t : Term) → length source < 2 ^ 64 → tree_of source ≡ Ok t → (spelling t ≡ source) × (placed 0 t ≡ t)
unfolding tree_of
tree_takes source t small is =
    let a = bind_ok (value_at MAX_DEPTH source 0) (λ x. cond (ltb x.1 (length source)) (Err Trailing) (Ok x.0)) t is in
    elim (chosen (ltb a.0.1 (length source)) _ _ _ a.2) [
      | inl more ↦ absurd (never Trailing _ more.1)
      | inr all ↦
          let x = value_takes MAX_DEPTH source small 0 a.0.0 a.0.1 a.1 in
          let nothing : drop a.0.1 source ≡ [] = drop_all a.0.1 source (ltb-false _ _ all.0) in
          let whole : source ≡ spelling a.0.0 = x.0.parts ∙ ap (λ (r : List ℕ). spelling a.0.0 ++ r) nothing
          ∙ append-nil (spelling a.0.0) in
          subst (λ (u : Term). (spelling u ≡ source) × (placed 0 u ≡ u)) (ok_is a.0.0 t all.1) (sym whole, x.1)
    ]
