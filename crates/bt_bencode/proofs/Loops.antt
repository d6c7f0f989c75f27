-- Items and entries that are read one after the other, as a loop does.
use Rattle.std.proofs.Common.{◌≡◌, ℕ, zero, suc, ◌+◌, ◌≤◌, ◌<◌, List, [], ◌∷◌, ◌++◌, length, Option, None, Some, Result, Ok, Err, refl, sym, ap, ◌∙◌}
use Rattle.std.proofs.Common.{◌≢◌, arith, get_or, Vec, true, false, cond, eqb, Bool, inl, inr}
use Rattle.std.specs.Char.{is_ascii_digit}
use Rattle.std.proofs.lemmas.Bool.Decides.{nat_tests}
use Rattle.bt_bencode.proofs.Lists.{last_push}
use Rattle.bt_bencode.proofs.Results.{bind_ok, chosen, done, ok_is, never}
use Rattle.std.proofs.lemmas.List.{drop_more, drop_all}
use Rattle.std.proofs.lemmas.Bool.{ne_eqb}
use Rattle.std.specs.Global.{Global}
use Rattle.bt_bencode.specs.declared.fault.BenFault.{BenFault}
use Rattle.bt_bencode.specs.declared.fault.BenFault.TheVariants.{Truncated, KeyOrder, NoMemory}
use Rattle.bt_bencode.specs.Term.{Term, Terms, Entries, no_terms, more_terms, no_entries, more_entries}
use Rattle.bt_bencode.specs.View.{terms_from, entries_from, last_key}
use Rattle.bt_bencode.specs.Reading.{◌>>=◌, Fails, items_at, entries_at, string_at, is_late, no_key, key_at}

-- terms, and others behind them
abbrev pub onto : List Term → Terms → Terms
onto [] us = us
onto (t ∷ ts) us = more_terms t (onto ts us)

abbrev pub onto_entries : List (Vec ℕ Global × Term) → Entries → Entries
onto_entries [] us = us
onto_entries (e ∷ es) us = more_entries e.0.items e.1 (onto_entries es us)

-- what was read before, and what is still read
abbrev pub with_front : List Term → Result (Terms × ℕ) BenFault → Result (Terms × ℕ) BenFault
with_front front read = read >>= λ x. Ok (onto front x.0, x.1)

abbrev pub with_front_entries : List (Vec ℕ Global × Term) → Result (Entries × ℕ) BenFault → Result (Entries × ℕ) BenFault
with_front_entries front read = read >>= λ x. Ok (onto_entries front x.0, x.1)

-- In as many turns as there are bytes left at least, what is left to read completes what was read to the whole.
abbrev pub items_left : (ℕ → Result (Term × ℕ) BenFault) → List ℕ → List Term → ℕ → Result (Terms × ℕ) BenFault → Type 0
items_left value source front place whole = (turns : ℕ) × (length source ≤ place + turns)
    × (with_front front (items_at value source turns place) ≡ whole)

abbrev pub entries_left : (ℕ → Result (Term × ℕ) BenFault) → List ℕ → List (Vec ℕ Global × Term) → ℕ → Result (Entries × ℕ) BenFault →
    Type 0
entries_left value source front place whole = (turns : ℕ) × (length source ≤ place + turns)
    × (with_front_entries front (entries_at value source turns (last_key front) place) ≡ whole)

-- a fault of a part is one of the whole
pub fails_then : {A B : Type 0} (e : BenFault) (part : Result A BenFault) (whole : Result B BenFault) → (part ≡ Err e → whole ≡ Err e) →
    Fails e part → Fails e whole
fails_then NoMemory part whole f h = tt
fails_then e part whole f h = f h

pub fails_as : {A : Type 0} (e : BenFault) (whole : Result A BenFault) → whole ≡ Err e → Fails e whole
fails_as NoMemory whole h = tt
fails_as e whole h = h

onto_none : (ts : List Term) → onto ts no_terms ≡ terms_from ts
onto_none [] = refl
onto_none (t ∷ ts) = ap (λ (us : Terms). more_terms t us) (onto_none ts)

onto_push : (ts : List Term) (t : Term) (us : Terms) → onto (ts ++ t ∷ []) us ≡ onto ts (more_terms t us)
onto_push [] t us = refl
onto_push (u ∷ ts) t us = ap (λ (vs : Terms). more_terms u vs) (onto_push ts t us)

front_none : (r : Result (Terms × ℕ) BenFault) → with_front [] r ≡ r
front_none (Ok x) = refl
front_none (Err e) = refl

front_push : (ts : List Term) (t : Term) (r : Result (Terms × ℕ) BenFault) →
    with_front ts (r >>= λ x. Ok (more_terms t x.0, x.1)) ≡ with_front (ts ++ t ∷ []) r
front_push ts t (Ok x) = ap (λ (us : Terms). Ok (us, x.1)) (sym (onto_push ts t x.0))
front_push ts t (Err e) = refl

pub items_begin : (value : ℕ → Result (Term × ℕ) BenFault) (source : List ℕ) (at : ℕ) →
    items_left value source [] at (items_at value source (length source) at)
items_begin value source at = (length source, omega arith, front_none (items_at value source (length source) at))

-- the end of the list
pub items_end : (value : ℕ → Result (Term × ℕ) BenFault) (source : List ℕ) (front : List Term) (place : ℕ)
    (whole : Result (Terms × ℕ) BenFault) → place < length source → get_or source place 0 ≡ 101 →
    items_left value source front place whole → whole ≡ Ok (terms_from front, place + 1)
unfolding items_at
items_end value source front place whole h c (zero, enough, left) = absurd (omega arith)
items_end value source front place whole h c (suc n, enough, left) =
    let one : with_front front (items_at value source (suc n) place) ≡ Ok (onto front no_terms, place + 1) =
    rw (drop_more source place 0 h, c) refl in
    sym left ∙ one ∙ ap (λ (us : Terms). Ok (us, place + 1)) (onto_none front)

-- no end
pub items_out : (value : ℕ → Result (Term × ℕ) BenFault) (source : List ℕ) (front : List Term) (place : ℕ)
    (whole : Result (Terms × ℕ) BenFault) → length source ≤ place → items_left value source front place whole → whole ≡ Err Truncated
unfolding items_at
items_out value source front place whole h (zero, enough, left) = sym left
items_out value source front place whole h (suc n, enough, left) =
    let one : with_front front (items_at value source (suc n) place) ≡ Err Truncated = rw (drop_all place source h) refl in
    sym left ∙ one

-- a fault in an item
pub items_fail : (e : BenFault) (value : ℕ → Result (Term × ℕ) BenFault) (source : List ℕ) (front : List Term) (place : ℕ)
    (whole : Result (Terms × ℕ) BenFault) → place < length source → get_or source place 0 ≢ 101 → Fails e (value place) →
    items_left value source front place whole → Fails e whole
unfolding items_at
items_fail e value source front place whole h c failed (zero, enough, left) = absurd (omega arith)
items_fail e value source front place whole h c failed (suc n, enough, left) =
    fails_then e (value place) whole (λ is. sym left ∙ rw (drop_more source place 0 h, ne_eqb (get_or source place 0) 101 c, is) refl)
    failed

-- an item more
pub items_more : (value : ℕ → Result (Term × ℕ) BenFault) (source : List ℕ) (front : List Term) (place : ℕ)
    (whole : Result (Terms × ℕ) BenFault) (t : Term) (end : ℕ) → place < length source → get_or source place 0 ≢ 101 →
    value place ≡ Ok (t, end) → place < end → items_left value source front place whole →
    items_left value source (front ++ t ∷ []) end whole
unfolding items_at
items_more value source front place whole t end h c is further (zero, enough, left) = absurd (omega arith)
items_more value source front place whole t end h c is further (suc n, enough, left) =
    let one : with_front front (items_at value source (suc n) place)
    ≡ with_front front (items_at value source n end >>= λ x. Ok (more_terms t x.0, x.1)) =
    rw (drop_more source place 0 h, ne_eqb (get_or source place 0) 101 c, is) refl in
    (n, omega arith, sym (front_push front t (items_at value source n end)) ∙ sym one ∙ left)

-- ---- entries

onto_entries_none : (es : List (Vec ℕ Global × Term)) → onto_entries es no_entries ≡ entries_from es
onto_entries_none [] = refl
onto_entries_none (e ∷ es) = ap (λ (us : Entries). more_entries e.0.items e.1 us) (onto_entries_none es)

onto_entries_push : (es : List (Vec ℕ Global × Term)) (e : Vec ℕ Global × Term) (us : Entries) →
    onto_entries (es ++ e ∷ []) us ≡ onto_entries es (more_entries e.0.items e.1 us)
onto_entries_push [] e us = refl
onto_entries_push (f ∷ es) e us = ap (λ (vs : Entries). more_entries f.0.items f.1 vs) (onto_entries_push es e us)

front_entries_none : (r : Result (Entries × ℕ) BenFault) → with_front_entries [] r ≡ r
front_entries_none (Ok x) = refl
front_entries_none (Err e) = refl

front_entries_push : (es : List (Vec ℕ Global × Term)) (e : Vec ℕ Global × Term) (r : Result (Entries × ℕ) BenFault) →
    with_front_entries es (r >>= λ x. Ok (more_entries e.0.items e.1 x.0, x.1)) ≡ with_front_entries (es ++ e ∷ []) r
front_entries_push es e (Ok x) = ap (λ (us : Entries). Ok (us, x.1)) (sym (onto_entries_push es e x.0))
front_entries_push es e (Err f) = refl

pub entries_begin : (value : ℕ → Result (Term × ℕ) BenFault) (source : List ℕ) (at : ℕ) →
    entries_left value source [] at (entries_at value source (length source) None at)
entries_begin value source at = (length source, omega arith, front_entries_none (entries_at value source (length source) None at))

pub entries_end : (value : ℕ → Result (Term × ℕ) BenFault) (source : List ℕ) (front : List (Vec ℕ Global × Term)) (place : ℕ)
    (whole : Result (Entries × ℕ) BenFault) → place < length source → get_or source place 0 ≡ 101 →
    entries_left value source front place whole → whole ≡ Ok (entries_from front, place + 1)
unfolding entries_at
entries_end value source front place whole h c (zero, enough, left) = absurd (omega arith)
entries_end value source front place whole h c (suc n, enough, left) =
    let one : with_front_entries front (entries_at value source (suc n) (last_key front) place)
    ≡ Ok (onto_entries front no_entries, place + 1) = rw (drop_more source place 0 h, c) refl in
    sym left ∙ one ∙ ap (λ (us : Entries). Ok (us, place + 1)) (onto_entries_none front)

pub entries_out : (value : ℕ → Result (Term × ℕ) BenFault) (source : List ℕ) (front : List (Vec ℕ Global × Term)) (place : ℕ)
    (whole : Result (Entries × ℕ) BenFault) → length source ≤ place → entries_left value source front place whole → whole ≡ Err Truncated
unfolding entries_at
entries_out value source front place whole h (zero, enough, left) = sym left
entries_out value source front place whole h (suc n, enough, left) =
    let one : with_front_entries front (entries_at value source (suc n) (last_key front) place) ≡ Err Truncated =
    rw (drop_all place source h) refl in
    sym left ∙ one

not_e : (c : ℕ) → c ≡ 101 → is_ascii_digit c ≡ true → ⊥
not_e c is digit = grind (arith, nat_tests)

-- what stands at the place of a key
pub key_turn : (value : ℕ → Result (Term × ℕ) BenFault) (source : List ℕ) (n : ℕ) (last : Option (List ℕ)) (place : ℕ) →
    place < length source → is_ascii_digit (get_or source place 0) ≡ true
    → entries_at value source (suc n) last place
    ≡ (string_at source place >>= λ k. cond (is_late last k.0) (Err KeyOrder)
    (value k.1 >>= λ t. entries_at value source n (Some k.0) t.1 >>= λ es. Ok (more_entries k.0 t.0 es.0, es.1)))
unfolding entries_at
key_turn value source n last place h digit =
    let c : eqb (get_or source place 0) 101 ≡ false = ne_eqb (get_or source place 0) 101 (λ is. not_e (get_or source place 0) is digit) in
    rw (drop_more source place 0 h, c, digit) refl

key_then : (digit : Bool) (late : List ℕ → Bool) (s : Result (List ℕ × ℕ) BenFault) (fault : BenFault)
    (f : List ℕ × ℕ → Result (Entries × ℕ) BenFault) →
    cond digit (s >>= λ k. cond (late k.0) (Err KeyOrder) (f k)) (Err fault)
    ≡ (cond digit (s >>= λ k. cond (late k.0) (Err KeyOrder) (Ok k)) (Err fault) >>= f)
key_then false late s fault f = refl
key_then true late (Err e) fault f = refl
key_then true late (Ok k) fault f = on_time (late k.0)
  where
    on_time : (b : Bool) → cond b (Err KeyOrder) (f k) ≡ (cond b (Err KeyOrder) (Ok k) >>= f)
    on_time true = refl
    on_time false = refl

-- an entry, and those behind it
pub entry_turn : (value : ℕ → Result (Term × ℕ) BenFault) (source : List ℕ) (n : ℕ) (last : Option (List ℕ)) (place : ℕ) →
    place < length source → get_or source place 0 ≢ 101 →
    entries_at value source (suc n) last place
    ≡ (key_at source last place >>= λ k. value k.1 >>= λ t. entries_at value source n (Some k.0) t.1 >>= λ es.
    Ok (more_entries k.0 t.0 es.0, es.1))
unfolding entries_at key_at
entry_turn value source n last place h c = rw (drop_more source place 0 h, ne_eqb (get_or source place 0) 101 c)
    (key_then (is_ascii_digit (get_or source place 0)) (is_late last) (string_at source place) (no_key (get_or source place 0))
    (λ k. value k.1 >>= λ t. entries_at value source n (Some k.0) t.1 >>= λ es. Ok (more_entries k.0 t.0 es.0, es.1)))

-- a key that is read is a string, and above the last one
pub key_is : (source : List ℕ) (last : Option (List ℕ)) (place : ℕ) (key : List ℕ) (end : ℕ) →
    key_at source last place ≡ Ok (key, end) → (string_at source place ≡ Ok (key, end)) × (is_late last key ≡ false)
unfolding key_at
key_is source last place key end is =
    elim (chosen (is_ascii_digit (get_or source place 0)) _ _ _ is) [
      | inr bad ↦ absurd (never (no_key (get_or source place 0)) _ bad.1)
      | inl digit ↦
          let k = bind_ok (string_at source place) (λ k. cond (is_late last k.0) (Err KeyOrder) (Ok k)) (key, end) digit.1 in
          elim (chosen (is_late last k.0.0) _ _ _ k.2) [
            | inl late ↦ absurd (never KeyOrder _ late.1)
            | inr good ↦
                let e = ok_is k.0 (key, end) good.1 in
                let name : k.0.0 ≡ key = ap (λ (x : List ℕ × ℕ). x.0) e in
                (k.1 ∙ ap (λ (x : List ℕ × ℕ). done x) e, rw (← name) good.0)
          ]
    ]

pub entries_bad_key : (e : BenFault) (value : ℕ → Result (Term × ℕ) BenFault) (source : List ℕ) (front : List (Vec ℕ Global × Term))
    (place : ℕ) (whole : Result (Entries × ℕ) BenFault) → place < length source → get_or source place 0 ≢ 101 →
    key_at source (last_key front) place ≡ Err e → entries_left value source front place whole → whole ≡ Err e
entries_bad_key e value source front place whole h c is (zero, enough, left) = absurd (omega arith)
entries_bad_key e value source front place whole h c is (suc n, enough, left) =
    sym left ∙ rw (entry_turn value source n (last_key front) place h c, is) refl

pub entries_fail : (e : BenFault) (value : ℕ → Result (Term × ℕ) BenFault) (source : List ℕ) (front : List (Vec ℕ Global × Term))
    (place : ℕ) (whole : Result (Entries × ℕ) BenFault) (key : List ℕ) (end : ℕ) → place < length source →
    get_or source place 0 ≢ 101 → key_at source (last_key front) place ≡ Ok (key, end) →
    Fails e (value end) → entries_left value source front place whole → Fails e whole
entries_fail e value source front place whole key end h c is failed (zero, enough, left) = absurd (omega arith)
entries_fail e value source front place whole key end h c is failed (suc n, enough, left) =
    fails_then e (value end) whole (λ bad. sym left ∙ rw (entry_turn value source n (last_key front) place h c, is, bad) refl) failed

pub entries_more : (value : ℕ → Result (Term × ℕ) BenFault) (source : List ℕ) (front : List (Vec ℕ Global × Term)) (place : ℕ)
    (whole : Result (Entries × ℕ) BenFault) (x : Vec ℕ Global × Term) (middle end : ℕ) → place < length source →
    get_or source place 0 ≢ 101 → key_at source (last_key front) place ≡ Ok (x.0.items, middle) →
    value middle ≡ Ok (x.1, end) → place < end → entries_left value source front place whole →
    entries_left value source (front ++ x ∷ []) end whole
entries_more value source front place whole x middle end h c is good further (zero, enough, left) = absurd (omega arith)
entries_more value source front place whole x middle end h c is good further (suc n, enough, left) =
    let one : with_front_entries front (entries_at value source (suc n) (last_key front) place)
    ≡ with_front_entries front (entries_at value source n (Some x.0.items) end >>= λ es. Ok (more_entries x.0.items x.1 es.0, es.1)) =
    rw (entry_turn value source n (last_key front) place h c, is, good) refl in (
      n,
      omega arith,
      rw (last_push front x)
          (sym (front_entries_push front x (entries_at value source n (Some x.0.items) end)) ∙ sym one ∙ left),
    )
