-- The first of the items or the entries that are left, and the others.
use Rattle.std.proofs.Common.{◌≡◌, ◌≢◌, ℕ, zero, suc, ◌+◌, ◌≤◌, ◌<◌, ◌^◌, List, [], ◌∷◌, ◌++◌, length, get_or, drop, Option, None, Some}
use Rattle.std.proofs.Common.{Result, Ok, Err, refl, sym, ap, ◌∙◌, arith, eqb, true, false, inl, inr}
use Rattle.std.specs.Str.{bytes_eq}
use Rattle.std.proofs.lemmas.Bool.{cases_lt}
use Rattle.std.proofs.lemmas.List.{drop_more, drop_all, length-append, length-drop}
use Rattle.bt_bencode.specs.declared.fault.BenFault.{BenFault}
use Rattle.bt_bencode.specs.declared.fault.BenFault.TheVariants.{Truncated}
use Rattle.bt_bencode.specs.Term.{Term, Terms, Entries, no_terms, more_terms, no_entries, more_entries, list_of_terms, entry_at}
use Rattle.bt_bencode.specs.Grammar.{spelling, spelling_of_terms}
use Rattle.bt_bencode.specs.Reading.{◌>>=◌, value_at, items_at, items_behind, entries_at, string_at, key_at, end_of}
use Rattle.bt_bencode.specs.Standing.{term_at, terms_read, terms_standing, entries_read, AreItems}
use Rattle.bt_bencode.proofs.Results.{bind_ok, chosen, done, ok_is, never}
use Rattle.bt_bencode.proofs.Loops.{entry_turn, key_is}
use Rattle.bt_bencode.proofs.Skips.{item_turn}
use Rattle.bt_bencode.proofs.Laws.{some_spelling}
use Rattle.bt_bencode.proofs.ValuesTake.{value_takes, items_take}

terms_are : (r : Result (Terms × ℕ) BenFault) (end : ℕ) → end_of r ≡ Ok end → r ≡ Ok (terms_read r, end)
terms_are (Ok (ts, n)) end h = cc
terms_are (Err fault) end h = absurd cc

pub entries_are : (r : Result (Entries × ℕ) BenFault) (end : ℕ) → end_of r ≡ Ok end → r ≡ Ok (entries_read r, end)
entries_are (Ok (es, n)) end h = cc
entries_are (Err fault) end h = absurd cc

-- ---- items

items_inside : (value : ℕ → Result (Term × ℕ) BenFault) (source : List ℕ) (turns place : ℕ) (ts : Terms) (end : ℕ) →
    items_at value source turns place ≡ Ok (ts, end) → place < length source
unfolding items_at
items_inside value source zero place ts end is = absurd (never Truncated _ is)
items_inside value source (suc n) place ts end is =
    elim (cases_lt place (length source)) [
      | inl inside ↦ inside
      | inr past ↦ absurd (never Truncated (ts, end) (sym (rw (drop_all place source past) refl) ∙ is))
    ]

no_item : (value : ℕ → Result (Term × ℕ) BenFault) (source : List ℕ) (turns place : ℕ) (ts : Terms) (end : ℕ) →
    items_at value source turns place ≡ Ok (ts, end) → get_or source place 0 ≡ 101 → ts ≡ no_terms
unfolding items_at
no_item value source zero place ts end is c = absurd (never Truncated _ is)
no_item value source (suc n) place ts end is c =
    let inside = items_inside value source (suc n) place ts end is in
    let one : items_at value source (suc n) place ≡ Ok (no_terms, place + 1) = rw (drop_more source place 0 inside, c) refl in
    ap (λ (x : Terms × ℕ). x.0) (ok_is (ts, end) (no_terms, place + 1) (sym is ∙ one))

-- a list that is read in some turns is read in more
behind_more : (value : ℕ → Result (Term × ℕ) BenFault) (few more : ℕ → Result (Terms × ℕ) BenFault) →
    ((at : ℕ) (us : Terms) (e : ℕ) → few at ≡ Ok (us, e) → more at ≡ Ok (us, e)) → (place : ℕ) (xs : List ℕ) (ts : Terms) (end : ℕ) →
    items_behind value few place xs ≡ Ok (ts, end) → items_behind value more place xs ≡ Ok (ts, end)
behind_more value few more f place [] ts end is = absurd (never Truncated _ is)
behind_more value few more f place (c ∷ cs) ts end is =
    elim (chosen (eqb c 101) _ _ _ is) [
      | inl ended ↦ rw ended.0 ended.1
      | inr on ↦
          let a = bind_ok (value place) (λ t. few t.1 >>= λ us. Ok (more_terms t.0 us.0, us.1)) (ts, end) on.1 in
          let b = bind_ok (few a.0.1) (λ us. Ok (more_terms a.0.0 us.0, us.1)) (ts, end) a.2 in
          rw (on.0, a.1, f a.0.1 b.0.0 b.0.1 b.1) b.2
    ]

more_turns : (value : ℕ → Result (Term × ℕ) BenFault) (source : List ℕ) (turns place : ℕ) (ts : Terms) (end : ℕ) →
    items_at value source turns place ≡ Ok (ts, end) → items_at value source (suc turns) place ≡ Ok (ts, end)
unfolding items_at
more_turns value source zero place ts end is = absurd (never Truncated _ is)
more_turns value source (suc n) place ts end is =
    behind_more value (items_at value source n) (items_at value source (suc n)) (more_turns value source n) place (drop place source) ts end is

-- an item, and the others
record OneItem (value : ℕ → Result (Term × ℕ) BenFault) (source : List ℕ) (turns place : ℕ) (ts : Terms) (end : ℕ) : Type 0 where
  pub item : Term
  pub behind : ℕ
  pub others : Terms
  pub item_is : value place ≡ Ok (item, behind)
  pub others_are : items_at value source turns behind ≡ Ok (others, end)
  pub are : ts ≡ more_terms item others

no_item_turns : (value : ℕ → Result (Term × ℕ) BenFault) (source : List ℕ) (place : ℕ) → items_at value source zero place ≡ Err Truncated
unfolding items_at
no_item_turns value source place = refl

one_item : (value : ℕ → Result (Term × ℕ) BenFault) (source : List ℕ) (turns place : ℕ) (ts : Terms) (end : ℕ) →
    items_at value source turns place ≡ Ok (ts, end) → get_or source place 0 ≢ 101 → OneItem value source turns place ts end
one_item value source zero place ts end is c = absurd (never Truncated (ts, end) (sym (no_item_turns value source place) ∙ is))
one_item value source (suc n) place ts end is c =
    let inside = items_inside value source (suc n) place ts end is in
    let turn = sym (item_turn value source n place inside c) ∙ is in
    let a = bind_ok (value place) (λ t. items_at value source n t.1 >>= λ us. Ok (more_terms t.0 us.0, us.1)) (ts, end) turn in
    let b = bind_ok (items_at value source n a.0.1) (λ us. Ok (more_terms a.0.0 us.0, us.1)) (ts, end) a.2 in
    record {
      item = a.0.0;
      behind = a.0.1;
      others = b.0.0;
      item_is = a.1;
      others_are = more_turns value source n a.0.1 b.0.0 end
          (b.1 ∙ ap (λ (m : ℕ). done (b.0.0, m)) (ap (λ (x : Terms × ℕ). x.1) (ok_is (more_terms a.0.0 b.0.0, b.0.1) (ts, end) b.2)));
      are = sym (ap (λ (x : Terms × ℕ). x.0) (ok_is (more_terms a.0.0 b.0.0, b.0.1) (ts, end) b.2));
    }

-- no more items than bytes
terms_short : (ts : Terms) → length (list_of_terms ts) ≤ length (spelling_of_terms ts)
terms_short no_terms = omega arith
terms_short (more_terms t ts) = omega (arith, terms_short ts, some_spelling t, length-append (spelling t) (spelling_of_terms ts))

pub few_terms : (room : ℕ) (source : List ℕ) (turns at : ℕ) (ts : Terms) (end : ℕ) → length source < 2 ^ 64 →
    items_at (value_at room source) source turns at ≡ Ok (ts, end) → length (list_of_terms ts) < 2 ^ 64
few_terms room source turns at ts end small is =
    let t = (items_take source (value_at room source) (value_takes room source small) turns at ts end is).0 in
    omega (
      arith,
      terms_short ts,
      ap length t.parts,
      length-append (spelling_of_terms ts ++ 101 ∷ []) (drop end source),
      length-append (spelling_of_terms ts) (101 ∷ []),
      length-drop at source,
    )

-- items are left
left_items : (room : ℕ) (source : List ℕ) (place : ℕ) (a : AreItems room source place) →
    items_at (value_at room source) source (length source) place
    ≡ Ok (terms_read (items_at (value_at room source) source (length source) place), a.end)
left_items room source place a = terms_are (items_at (value_at room source) source (length source) place) a.end a.read

pub left_inside : (room : ℕ) (source : List ℕ) (place : ℕ) → AreItems room source place → place < length source
left_inside room source place a =
    items_inside (value_at room source) source (length source) place _ a.end (left_items room source place a)

pub none_left : (room : ℕ) (source : List ℕ) (place : ℕ) → AreItems room source place → get_or source place 0 ≡ 101 →
    terms_standing room source place ≡ []
none_left room source place a c =
    ap list_of_terms (no_item (value_at room source) source (length source) place _ a.end (left_items room source place a) c)

-- the first of them stands at the place, and the others behind it
pub record FirstLeft (room : ℕ) (source : List ℕ) (place : ℕ) : Type 0 where
  pub behind : ℕ
  pub first : end_of (value_at room source place) ≡ Ok behind
  pub others : AreItems room source behind
  pub are : terms_standing room source place ≡ term_at room source place ∷ terms_standing room source behind

pub first_left : (room : ℕ) (source : List ℕ) (place : ℕ) → AreItems room source place → get_or source place 0 ≢ 101 →
    FirstLeft room source place
first_left room source place a c =
    let e = one_item (value_at room source) source (length source) place _ a.end (left_items room source place a) c in
    record {
      behind = e.behind;
      first = rw e.item_is refl;
      others = record { deep = a.deep; short = a.short; end = a.end; read = rw e.others_are refl };
      are = ap list_of_terms e.are ∙ rw (e.item_is, e.others_are) refl;
    }

-- ---- entries

-- entries are left, and what is found at a key among them is this
pub record EntriesLeft (room : ℕ) (source : List ℕ) (place : ℕ) (key : List ℕ) (found : Option Term) : Type 0 where
  pub turns : ℕ
  pub last : Option (List ℕ)
  pub entries : Entries
  pub end : ℕ
  pub entries_are : entries_at (value_at room source) source turns last place ≡ Ok (entries, end)
  pub found_is : entry_at key entries ≡ found

entries_inside : (value : ℕ → Result (Term × ℕ) BenFault) (source : List ℕ) (turns : ℕ) (last : Option (List ℕ)) (place : ℕ) (es : Entries)
    (end : ℕ) → entries_at value source turns last place ≡ Ok (es, end) → place < length source
unfolding entries_at
entries_inside value source zero last place es end is = absurd (never Truncated _ is)
entries_inside value source (suc n) last place es end is =
    elim (cases_lt place (length source)) [
      | inl inside ↦ inside
      | inr past ↦ absurd (never Truncated (es, end) (sym (rw (drop_all place source past) refl) ∙ is))
    ]

no_entry : (value : ℕ → Result (Term × ℕ) BenFault) (source : List ℕ) (turns : ℕ) (last : Option (List ℕ)) (place : ℕ) (es : Entries)
    (end : ℕ) → entries_at value source turns last place ≡ Ok (es, end) → get_or source place 0 ≡ 101 → es ≡ no_entries
unfolding entries_at
no_entry value source zero last place es end is c = absurd (never Truncated _ is)
no_entry value source (suc n) last place es end is c =
    let inside = entries_inside value source (suc n) last place es end is in
    let one : entries_at value source (suc n) last place ≡ Ok (no_entries, place + 1) = rw (drop_more source place 0 inside, c) refl in
    ap (λ (x : Entries × ℕ). x.0) (ok_is (es, end) (no_entries, place + 1) (sym is ∙ one))

no_turns : (value : ℕ → Result (Term × ℕ) BenFault) (source : List ℕ) (last : Option (List ℕ)) (place : ℕ) →
    entries_at value source zero last place ≡ Err Truncated
unfolding entries_at
no_turns value source last place = refl

-- an entry, and the others
record OneEntry (value : ℕ → Result (Term × ℕ) BenFault) (source : List ℕ) (place : ℕ) (es : Entries) (end : ℕ) : Type 0 where
  pub turns : ℕ
  pub name : List ℕ
  pub start : ℕ
  pub item : Term
  pub behind : ℕ
  pub others : Entries
  pub name_is : string_at source place ≡ Ok (name, start)
  pub item_is : value start ≡ Ok (item, behind)
  pub others_are : entries_at value source turns (Some name) behind ≡ Ok (others, end)
  pub are : es ≡ more_entries name item others

one_entry : (value : ℕ → Result (Term × ℕ) BenFault) (source : List ℕ) (turns : ℕ) (last : Option (List ℕ)) (place : ℕ) (es : Entries)
    (end : ℕ) → entries_at value source turns last place ≡ Ok (es, end) → get_or source place 0 ≢ 101 → OneEntry value source place es end
one_entry value source zero last place es end is c = absurd (never Truncated (es, end) (sym (no_turns value source last place) ∙ is))
one_entry value source (suc n) last place es end is c =
    let inside = entries_inside value source (suc n) last place es end is in
    let turn = sym (entry_turn value source n last place inside c) ∙ is in
    let k = bind_ok (key_at source last place) (λ k. value k.1 >>= λ t. entries_at value source n (Some k.0) t.1 >>= λ us.
    Ok (more_entries k.0 t.0 us.0, us.1)) (es, end) turn in
    let a = bind_ok (value k.0.1) (λ t. entries_at value source n (Some k.0.0) t.1 >>= λ us. Ok (more_entries k.0.0 t.0 us.0, us.1)) (es, end)
    k.2 in
    let b = bind_ok (entries_at value source n (Some k.0.0) a.0.1) (λ us. Ok (more_entries k.0.0 a.0.0 us.0, us.1)) (es, end) a.2 in
    let p = ok_is (more_entries k.0.0 a.0.0 b.0.0, b.0.1) (es, end) b.2 in
    record {
      turns = n;
      name = k.0.0;
      start = k.0.1;
      item = a.0.0;
      behind = a.0.1;
      others = b.0.0;
      name_is = (key_is source last place k.0.0 k.0.1 k.1).0;
      item_is = a.1;
      others_are = b.1 ∙ ap (λ (m : ℕ). done (b.0.0, m)) (ap (λ (x : Entries × ℕ). x.1) p);
      are = sym (ap (λ (x : Entries × ℕ). x.0) p);
    }

pub search_inside : (room : ℕ) (source : List ℕ) (place : ℕ) (key : List ℕ) (found : Option Term) →
    EntriesLeft room source place key found → place < length source
search_inside room source place key found l =
    entries_inside (value_at room source) source l.turns l.last place l.entries l.end l.entries_are

pub search_ends : (room : ℕ) (source : List ℕ) (place : ℕ) (key : List ℕ) (found : Option Term) → get_or source place 0 ≡ 101 →
    EntriesLeft room source place key found → found ≡ None
search_ends room source place key found c l =
    sym l.found_is ∙ ap (entry_at key) (no_entry (value_at room source) source l.turns l.last place l.entries l.end l.entries_are c)

-- what a search meets at a place: a key with its value, which is found where the key is the one that is asked for
pub record Meets (room : ℕ) (source : List ℕ) (place : ℕ) (key : List ℕ) (found : Option Term) : Type 0 where
  pub name : List ℕ
  pub start : ℕ
  pub behind : ℕ
  pub name_is : string_at source place ≡ Ok (name, start)
  pub value_is : end_of (value_at room source start) ≡ Ok behind
  pub here : bytes_eq name key ≡ true → found ≡ Some (term_at room source start)
  pub further : bytes_eq name key ≡ false → EntriesLeft room source behind key found

pub search_meets : (room : ℕ) (source : List ℕ) (place : ℕ) (key : List ℕ) (found : Option Term) → get_or source place 0 ≢ 101 →
    EntriesLeft room source place key found → Meets room source place key found
search_meets room source place key found c l =
    let e = one_entry (value_at room source) source l.turns l.last place l.entries l.end l.entries_are c in
    let split : entry_at key (more_entries e.name e.item e.others) ≡ found = sym (ap (entry_at key) e.are) ∙ l.found_is in
    record {
      name = e.name;
      start = e.start;
      behind = e.behind;
      name_is = e.name_is;
      value_is = rw e.item_is refl;
      here = λ same. sym split ∙ rw (same, e.item_is) refl;
      further = λ other. record {
        turns = e.turns;
        last = Some e.name;
        entries = e.others;
        end = l.end;
        entries_are = e.others_are;
        found_is = sym (rw other refl) ∙ split;
      };
    }
