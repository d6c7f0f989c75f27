-- What is read is spelled so, and what is spelled so is read.
use Rattle.std.proofs.Common.{◌≡◌, ℕ, zero, suc, ◌+◌, ◌-◌, ◌≤◌, ◌<◌, ◌^◌, List, [], ◌∷◌, ◌++◌, length, get_or, drop, Option, None, Some, Result, Ok}
use Rattle.std.proofs.Common.{Err, refl, sym, ap, ◌∙◌, append_assoc, arith, eqb, ltb, cond, true, false}
use Rattle.std.specs.Prelude.{not, decimal}
use Rattle.std.specs.Fmt.{signed_decimal}
use Rattle.std.proofs.lemmas.Bool.{ne_eqb, le-ltb}
use Rattle.std.proofs.lemmas.Bool.Decides.{nat_tests}
use Rattle.std.proofs.lemmas.List.{length-append, length-drop, append-nil, drop_more}
use Rattle.std.proofs.lemmas.Fmt.{digits_decimal, decimal_nonempty}
use Rattle.std.specs.Char.{is_ascii_digit}
use Rattle.bt_bencode.specs.declared.fault.BenFault.{BenFault}
use Rattle.bt_bencode.specs.declared.fault.BenFault.TheVariants.{KeyOrder}
use Rattle.bt_bencode.specs.declared.tree.TheConstants.{MAX_DEPTH}
use Rattle.bt_bencode.specs.Term.{Term, Terms, Entries, int, text, list, dict, no_terms, more_terms, no_entries, more_entries, depth, depth_of_terms}
use Rattle.bt_bencode.specs.Term.{depth_of_entries}
use Rattle.bt_bencode.specs.Grammar.{IsSound, AreSound, EntriesAreSound, IsTree, spelling, spelling_of_terms, spelling_of_entries, string, keys_rise}
use Rattle.bt_bencode.specs.Grammar.{comes_before}
use Rattle.bt_bencode.specs.Placed.{placed, terms_placed, entries_placed}
use Rattle.bt_bencode.specs.Reading.{◌>>=◌, value_at, items_at, items_behind, entries_at, tree_of, string_at, is_late}
use Rattle.bt_bencode.proofs.Strings.{own, string_again, integer_again, drop_behind, byte_at, first_of, first_digit}
use Rattle.bt_bencode.proofs.Values.{value_here, value_string, items_within, entries_within}
use Rattle.bt_bencode.proofs.Loops.{key_turn}

-- ---- what is spelled so is read

stands : (source : List ℕ) (at : ℕ) (xs : List ℕ) → drop at source ≡ xs → 0 < length xs → at < length source
stands source at xs h some = omega (arith, ap length h, length-drop at source)

string_starts : (bytes rest : List ℕ) → length bytes < 2 ^ 64 → is_ascii_digit (get_or (string bytes ++ rest) 0 0) ≡ true
string_starts bytes rest small = rw (append_assoc (decimal (length bytes)) (58 ∷ bytes) rest)
    (first_digit (decimal (length bytes)) (58 ∷ (bytes ++ rest)) (digits_decimal own (length bytes) small)
    (decimal_nonempty (length bytes) small))

no_e : (c : ℕ) → is_ascii_digit c ≡ true → eqb c 101 ≡ false
no_e c digit = ne_eqb c 101 (λ is. grind (arith, nat_tests))

some_string : (bytes : List ℕ) → 0 < length (string bytes)
some_string bytes = omega (arith, length-append (decimal (length bytes)) (58 ∷ bytes))

pub some_spelling : (t : Term) → 0 < length (spelling t)
some_spelling (int s n) = omega arith
some_spelling (text s bytes) = some_string bytes
some_spelling (list s ts) = omega arith
some_spelling (dict s es) = omega arith

-- no value begins as a list or a dictionary ends
no_end : (t : Term) (rest : List ℕ) → IsSound t → eqb (get_or (spelling t ++ rest) 0 0) 101 ≡ false
no_end (int s n) rest sound = refl
no_end (text s bytes) rest sound = no_e _ (string_starts bytes rest sound)
no_end (list s ts) rest sound = refl
no_end (dict s es) rest sound = refl

items_turn : (value : ℕ → Result (Term × ℕ) BenFault) (source : List ℕ) (turns at : ℕ) → at < length source → length source ≤ at + turns →
    items_at value source turns at ≡ items_behind value (items_at value source (turns - 1)) at (get_or source at 0 ∷ drop (at + 1) source)
unfolding items_at
items_turn value source zero at h enough = absurd (omega arith)
items_turn value source (suc n) at h enough = let e : suc n - 1 ≡ n = omega arith in rw (drop_more source at 0 h, e) refl

entries_turn_end : (value : ℕ → Result (Term × ℕ) BenFault) (source : List ℕ) (turns : ℕ) (last : Option (List ℕ)) (at : ℕ) →
    at < length source → length source ≤ at + turns → get_or source at 0 ≡ 101 →
    entries_at value source turns last at ≡ Ok (no_entries, at + 1)
unfolding entries_at
entries_turn_end value source zero last at h enough c = absurd (omega arith)
entries_turn_end value source (suc n) last at h enough c = rw (drop_more source at 0 h, c) refl

entries_turn : (value : ℕ → Result (Term × ℕ) BenFault) (source : List ℕ) (turns : ℕ) (last : Option (List ℕ)) (at : ℕ) →
    at < length source → length source ≤ at + turns → is_ascii_digit (get_or source at 0) ≡ true
    → entries_at value source turns last at ≡
    (string_at source at >>= λ k. cond (is_late last k.0) (Err KeyOrder)
    (value k.1 >>= λ t. entries_at value source (turns - 1) (Some k.0) t.1 >>= λ es. Ok (more_entries k.0 t.0 es.0, es.1)))
entries_turn value source zero last at h enough digit = absurd (omega arith)
entries_turn value source (suc n) last at h enough digit = let e : suc n - 1 ≡ n = omega arith in
    rw (key_turn value source n last at h digit, e) refl

-- the first key is above the last one
abbrev pub IsAbove : Option (List ℕ) → Entries → Type 0
IsAbove None es = Unit {0}
IsAbove (Some last) es = comes_before last es ≡ true

on_time : (last : Option (List ℕ)) (k : List ℕ) (t : Term) (es : Entries) → IsAbove last (more_entries k t es) → is_late last k ≡ false
on_time None k t es h = refl
on_time (Some last) k t es h = ap not h

mutual
  pub value_again : (t : Term) (room : ℕ) (source : List ℕ) (at : ℕ) (rest : List ℕ) → drop at source ≡ spelling t ++ rest → IsSound t →
      depth t ≤ room → value_at room source at ≡ Ok (placed at t, at + length (spelling t))
  value_again (int s n) room source at rest h sound deep = let lt = stands source at _ h (omega arith) in
      let inside : drop (at + 1) source ≡ signed_decimal n ++ 101 ∷ rest = drop_behind source at (105 ∷ []) _ h
      ∙ append_assoc (signed_decimal n) (101 ∷ []) rest in
      let len : at + 1 + length (signed_decimal n) + 1 ≡ at + length (spelling (int s n)) =
      omega (arith, length-append (signed_decimal n) (101 ∷ [])) in
      rw (value_here room source at lt, byte_at source at _ h, integer_again source (at + 1) n rest sound inside, len) refl
  value_again (text s bytes) room source at rest h sound deep =
      let lt = stands source at _ h (omega (arith, length-append (string bytes) rest, some_string bytes)) in
      let digit = ap is_ascii_digit (byte_at source at _ h) ∙ string_starts bytes rest sound in
      rw (value_string room source at lt digit, string_again source at bytes rest sound h) refl
  value_again (list s ts) room source at rest h sound deep = let lt = stands source at _ h (omega arith) in
      let inside : drop (at + 1) source ≡ spelling_of_terms ts ++ 101 ∷ rest = drop_behind source at (108 ∷ []) _ h
      ∙ append_assoc (spelling_of_terms ts) (101 ∷ []) rest in
      let len : at + 1 + length (spelling_of_terms ts) + 1 ≡ at + length (spelling (list s ts)) =
      omega (arith, length-append (spelling_of_terms ts) (101 ∷ [])) in
      let read = items_again ts (room - 1) source (length source) (at + 1) rest (omega arith) inside sound (omega arith) in
      rw (value_here room source at lt, byte_at source at _ h, items_within room source (at + 1) (omega arith), read, len) refl
  value_again (dict s es) room source at rest h sound deep = let lt = stands source at _ h (omega arith) in
      let inside : drop (at + 1) source ≡ spelling_of_entries es ++ 101 ∷ rest = drop_behind source at (100 ∷ []) _ h
      ∙ append_assoc (spelling_of_entries es) (101 ∷ []) rest in
      let len : at + 1 + length (spelling_of_entries es) + 1 ≡ at + length (spelling (dict s es)) =
      omega (arith, length-append (spelling_of_entries es) (101 ∷ [])) in
      let read = entries_again es (room - 1) source (length source) None (at + 1) rest (omega arith) inside sound.0 tt sound.1
      (omega arith) in
      rw (value_here room source at lt, byte_at source at _ h, entries_within room source (at + 1) (omega arith), read, len) refl

  pub items_again : (ts : Terms) (room : ℕ) (source : List ℕ) (turns at : ℕ) (rest : List ℕ) → length source ≤ at + turns →
      drop at source ≡ spelling_of_terms ts ++ 101 ∷ rest → AreSound ts → depth_of_terms ts ≤ room →
      items_at (value_at room source) source turns at ≡ Ok (terms_placed at ts, at + length (spelling_of_terms ts) + 1)
  items_again no_terms room source turns at rest enough h sound deep = let lt = stands source at _ h (omega arith) in
      let len : at + 1 ≡ at + 0 + 1 = omega arith in
      rw (items_turn (value_at room source) source turns at lt enough, byte_at source at _ h, len) refl
  items_again (more_terms t ts) room source turns at rest enough h sound deep =
      let split : drop at source ≡ spelling t ++ (spelling_of_terms ts ++ 101 ∷ rest) = h
      ∙ append_assoc (spelling t) (spelling_of_terms ts) (101 ∷ rest) in
      let lt = stands source at _ split (omega (arith, some_spelling t, length-append (spelling t) (spelling_of_terms ts ++ 101 ∷ rest))) in
      let goes_on = ap (λ (c : ℕ). eqb c 101) (byte_at source at _ split) ∙ no_end t (spelling_of_terms ts ++ 101 ∷ rest) sound.0 in
      let first = value_again t room source at (spelling_of_terms ts ++ 101 ∷ rest) split sound.0 (omega arith) in
      let behind = drop_behind source at (spelling t) (spelling_of_terms ts ++ 101 ∷ rest) split in
      let others = items_again ts room source (turns - 1) (at + length (spelling t)) rest (omega (arith, some_spelling t)) behind sound.1
      (omega arith) in
      let len : at + length (spelling t) + length (spelling_of_terms ts) + 1 ≡ at + length (spelling_of_terms (more_terms t ts)) + 1 =
      omega (arith, length-append (spelling t) (spelling_of_terms ts)) in
      rw (items_turn (value_at room source) source turns at lt enough, goes_on, first, others, len) refl

  pub entries_again : (es : Entries) (room : ℕ) (source : List ℕ) (turns : ℕ) (last : Option (List ℕ)) (at : ℕ) (rest : List ℕ) →
      length source ≤ at + turns → drop at source ≡ spelling_of_entries es ++ 101 ∷ rest → keys_rise es ≡ true → IsAbove last es →
      EntriesAreSound es → depth_of_entries es ≤ room →
      entries_at (value_at room source) source turns last at ≡ Ok (entries_placed at es, at + length (spelling_of_entries es) + 1)
  entries_again no_entries room source turns last at rest enough h rise above sound deep = let lt = stands source at _ h (omega arith) in
      let len : at + 1 ≡ at + 0 + 1 = omega arith in
      rw (entries_turn_end (value_at room source) source turns last at lt enough (byte_at source at _ h), len) refl
  entries_again (more_entries k t es) room source turns last at rest enough h rise above sound deep =
      let more : List ℕ = spelling_of_entries es ++ 101 ∷ rest in
      let one : drop at source ≡ string k ++ ((spelling t ++ spelling_of_entries es) ++ 101 ∷ rest) = h
      ∙ append_assoc (string k) (spelling t ++ spelling_of_entries es) (101 ∷ rest) in
      let split : drop at source ≡ string k ++ (spelling t ++ more) = one
      ∙ ap (λ (x : List ℕ). string k ++ x) (append_assoc (spelling t) (spelling_of_entries es) (101 ∷ rest)) in
      let lt = stands source at _ split (omega (arith, some_string k, length-append (string k) (spelling t ++ more))) in
      let digit = ap is_ascii_digit (byte_at source at _ split) ∙ string_starts k (spelling t ++ more) sound.0 in
      let key = string_again source at k (spelling t ++ more) sound.0 split in
      let behind_key = drop_behind source at (string k) (spelling t ++ more) split in
      let first = value_again t room source (at + length (string k)) more behind_key sound.1 (omega arith) in
      let behind = drop_behind source (at + length (string k)) (spelling t) more behind_key in
      let rises = first_of (comes_before k es) (keys_rise es) rise in
      let others = entries_again es room source (turns - 1) (Some k) (at + length (string k) + length (spelling t)) rest
      (omega (arith, some_string k)) behind rises.1 rises.0 sound.2 (omega arith) in
      let len : at + length (string k) + length (spelling t) + length (spelling_of_entries es) + 1
      ≡ at + length (spelling_of_entries (more_entries k t es)) + 1 = omega (
        arith,
        length-append (string k) (spelling t ++ spelling_of_entries es),
        length-append (spelling t)
            (spelling_of_entries es),
      ) in
      rw (entries_turn (value_at room source) source turns last at lt enough digit, key, on_time last k t es above, first, others, len) refl

pub tree_again : (t : Term) → IsTree t → tree_of (spelling t) ≡ Ok (placed 0 t)
unfolding tree_of
tree_again t sound =
    let read = value_again t MAX_DEPTH (spelling t) 0 [] (sym (append-nil (spelling t))) sound.0 sound.1 in
    let whole : ltb (0 + length (spelling t)) (length (spelling t)) ≡ false = le-ltb _ _ (omega arith) in
    rw (read, whole) refl
