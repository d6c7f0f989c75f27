-- A part of a placed tree stands where its span says.
use Rattle.std.proofs.Common.{◌≡◌, ℕ, ◌+◌, ◌-◌, ◌<◌, List, [], ◌∷◌, ◌++◌, length, drop, Some, refl, sym, ap, subst, ◌∙◌, append_assoc, arith, inl}
use Rattle.std.proofs.Common.{inr}
use Rattle.std.specs.Str.{bytes_eq}
use Rattle.std.proofs.lemmas.List.{length-append, length-drop, take_at}
use Rattle.bt_bencode.specs.declared.span.Span.{Span}
use Rattle.bt_bencode.specs.Term.{Term, Entries, int, text, list, dict, no_entries, more_entries, span_of, get, entry_at}
use Rattle.bt_bencode.specs.Grammar.{spelling, spelling_of_entries, string}
use Rattle.bt_bencode.specs.Placed.{placed, entries_placed, span, StandsAt}
use Rattle.bt_bencode.proofs.Strings.{drop_behind}
use Rattle.bt_bencode.proofs.Results.{chosen}
use Rattle.bt_bencode.proofs.Laws.{some_spelling}

span_placed : (at : ℕ) (t : Term) → span_of (placed at t) ≡ span at (at + length (spelling t))
span_placed at (int s n) = refl
span_placed at (text s bytes) = refl
span_placed at (list s ts) = refl
span_placed at (dict s es) = refl

term_stands : (source : List ℕ) (at : ℕ) (t : Term) (rest : List ℕ) → drop at source ≡ spelling t ++ rest → 0 < length (spelling t) →
    placed at t ≡ t → StandsAt source (span_of t) (spelling t)
term_stands source at t rest h some p =
    let s : span at (at + length (spelling t)) ≡ span_of t = sym (span_placed at t) ∙ ap span_of p in
    let n : at + length (spelling t) - at ≡ length (spelling t) = omega arith in
    subst (λ (x : Span). StandsAt source x (spelling t)) s (record {
      order = omega arith;
      within = omega (arith, ap length h, length-drop at source, length-append (spelling t) rest);
      text_is = rw (n, h) (take_at (spelling t) rest (length (spelling t)) refl);
    })

entry_stands : (es : Entries) (source : List ℕ) (at : ℕ) (rest key : List ℕ) (u : Term) → drop at source ≡ spelling_of_entries es ++ rest →
    entries_placed at es ≡ es → entry_at key es ≡ Some u → StandsAt source (span_of u) (spelling u)
entry_stands no_entries source at rest key u h p is = absurd cc
entry_stands (more_entries k t es) source at rest key u h p is =
    let more : List ℕ = spelling_of_entries es ++ rest in
    let one : drop at source ≡ string k ++ ((spelling t ++ spelling_of_entries es) ++ rest) = h
    ∙ append_assoc (string k) (spelling t ++ spelling_of_entries es) rest in
    let split : drop at source ≡ string k ++ (spelling t ++ more) = one
    ∙ ap (λ (x : List ℕ). string k ++ x) (append_assoc (spelling t) (spelling_of_entries es) rest) in
    let value = drop_behind source at (string k) (spelling t ++ more) split in
    let behind = drop_behind source (at + length (string k)) (spelling t) more value in
    let pt : placed (at + length (string k)) t ≡ t = cc in
    let pe : entries_placed (at + length (string k) + length (spelling t)) es ≡ es = cc in
    elim (chosen (bytes_eq k key) _ _ _ is) [
      | inl here ↦ let e : t ≡ u = cc in subst (λ (x : Term). StandsAt source (span_of x) (spelling x)) e
          (term_stands source (at + length (string k)) t more value (some_spelling t) pt)
      | inr later ↦ entry_stands es source (at + length (string k) + length (spelling t)) rest key u behind pe later.1
    ]

pub part_stands : (t u : Term) (key source : List ℕ) → placed 0 t ≡ t → spelling t ≡ source → get t key ≡ Some u →
    StandsAt source (span_of u) (spelling u)
part_stands (int s n) u key source p h is = absurd cc
part_stands (text s bytes) u key source p h is = absurd cc
part_stands (list s ts) u key source p h is = absurd cc
part_stands (dict s es) u key source p h is =
    let whole : drop 0 source ≡ 100 ∷ (spelling_of_entries es ++ 101 ∷ []) = sym h in
    let behind = drop_behind source 0 (100 ∷ []) (spelling_of_entries es ++ 101 ∷ []) whole in
    let pe : entries_placed (0 + 1) es ≡ es = cc in
    entry_stands es source (0 + 1) (101 ∷ []) key u behind pe is
