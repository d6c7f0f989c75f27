-- What a seat knows, as truth values.
use Rattle.std.proofs.Common.{◌≡◌, ◌≢◌, ◌⊎◌, ◌↔◌, ℕ, zero, suc, ◌+◌, ◌/◌, ◌%◌, ◌<◌, Bool, true, false, List, [], ◌∷◌, length, refl, sym, ap, ◌∙◌}
use Rattle.std.proofs.Common.{inl, inr, ⊎_elim, arith, ◌==◌}
use Rattle.std.specs.Prelude.{◌||◌, nat_lt, slice_index, if◌then◌else◌}
use Rattle.std.specs.Bool.{Decides}
use Rattle.std.specs.Int.{bit_at}
use Rattle.std.proofs.lemmas.Bool.{false_from_ne_true}
use Rattle.std.proofs.lemmas.Bool.Decides.{Decides-or, Decides-and, Decides-at, Decides-ltb, Decides-eqb, nat_tests}
use Rattle.bt_board.specs.declared.view.Mark.{Mark}
use Rattle.bt_board.specs.declared.view.Load.{Load}
use Rattle.bt_board.specs.declared.view.BoardView.{BoardView}
use Rattle.bt_board.specs.Story.{Has, IsSet, Marked, Loaded, Seen, loads_from, with_loads}
use Rattle.bt_board.specs.Knowing.{marks_have, found_by, loads_have, has_seen, has_given}
use Rattle.bt_board.proofs.Lists.{has_front, has_back}

has_decides : {A : Type 0} (P : A → Type 0) (test : A → Bool) (f : List A → Bool) → ((x : A) → Decides (test x) (P x)) → f [] ≡ false
    → ((x : A) (xs : List A) → f (x ∷ xs) ≡ (test x || f xs)) → (xs : List A) → Decides (f xs) (Has P xs)
has_decides P test f each nil more [] = (λ e. absurd (let no = sym nil ∙ e in cc), λ h. absurd h)
has_decides P test f each nil more (x ∷ xs) =
    Decides-at (f (x ∷ xs)) (test x || f xs) (more x xs) (Decides-or (test x) (f xs) (each x) (has_decides P test f each nil more xs))

marked_decides : (v : BoardView) (p : ℕ) → Decides (marks_have v.marks p) (Marked v p)
marked_decides v p =
    has_decides (λ (m : Mark). m.piece ≡ p) (λ m. m.piece == p) (λ ms. marks_have ms p) (λ m. Decides-eqb m.piece p) refl (λ m ms. refl) v.marks

loaded_decides : (v : BoardView) (p : ℕ) → Decides (loads_have v.loads p) (Loaded v p)
loaded_decides v p =
    has_decides (λ (l : Load). (l.word ≡ p / 64) × (bit_at l.found (p % 64) ≡ 1)) (λ l. found_by l p) (λ ls. loads_have ls p)
    (λ l. Decides-and (l.word == p / 64) (bit_at l.found (p % 64) == 1) (Decides-eqb l.word (p / 64)) (Decides-eqb (bit_at l.found (p % 64)) 1)) refl
    (λ l ls. refl) v.loads

pub seen_decides : (pieces : ℕ) (v : BoardView) (p : ℕ) → Decides (has_seen pieces v p) ((p < pieces) × Seen v p)
seen_decides pieces v p =
    Decides-and (nat_lt p pieces) (marks_have v.marks p || loads_have v.loads p) (Decides-ltb p pieces)
    (Decides-or (marks_have v.marks p) (loads_have v.loads p) (marked_decides v p) (loaded_decides v p))

pub given_decides : (given : List ℕ) (p : ℕ) → Decides (has_given given p) (IsSet given p)
given_decides given p = Decides-eqb (bit_at (slice_index given (p / 64)) (p % 64)) 1

-- what was seen stays so
pub seen_stays : (pieces : ℕ) (v w : BoardView) → ((p : ℕ) → Seen v p → Seen w p) → (p : ℕ) → has_seen pieces v p ≡ true → has_seen pieces w p ≡ true
seen_stays pieces v w more p is = let was = (seen_decides pieces v p).0 is in (seen_decides pieces w p).1 (was.0, more p was.1)

pub seen_with_loads : (v : BoardView) (found : List ℕ) (p : ℕ) → Seen v p → Seen (with_loads v found) p
seen_with_loads v found p seen = ⊎_elim (λ m. inl m) (λ l. inr
    (has_front (λ (x : Load). (x.word ≡ p / 64) × (bit_at x.found (p % 64) ≡ 1)) v.loads (loads_from 0 found) l)) seen

found_in : (a : ℕ) (xs : List ℕ) (p k : ℕ) → k < length xs → a + k ≡ p / 64 → bit_at (slice_index xs k) (p % 64) ≡ 1
    → Has (λ (x : Load). (x.word ≡ p / 64) × (bit_at x.found (p % 64) ≡ 1)) (loads_from a xs)
found_in a [] p k lt at is = absurd (omega arith)
found_in a (x ∷ xs) p zero lt at is = inl ((let here : a ≡ p / 64 = omega arith in here), is)
found_in a (x ∷ xs) p (suc k) lt at is = inr (found_in (a + 1) xs p k (omega arith) (omega arith) is)

-- what the loads of the first words found was seen
pub seen_found : (v : BoardView) (found : List ℕ) (p : ℕ) → p / 64 < length found → IsSet found p → Seen (with_loads v found) p
seen_found v found p lt is =
    inr (has_back (λ (x : Load). (x.word ≡ p / 64) × (bit_at x.found (p % 64) ≡ 1)) v.loads (loads_from 0 found)
    (found_in 0 found p (p / 64) lt (omega arith) is))

same_test : (x y : Bool) → (x ≡ true → y ≡ true) → (y ≡ true → x ≡ true) → x ≡ y
same_test true y f g = sym (f refl)
same_test false y f g = sym (false_from_ne_true y (λ is. absurd (let on = g is in cc)))

-- one more piece was given
given_by_test : (same : Bool) (given given' : List ℕ) (p q : ℕ) → (q == p) ≡ same → (IsSet given' q ↔ (IsSet given q ⊎ (q ≡ p)))
    → has_given given' q ≡ (if q == p then true else has_given given q)
given_by_test true given given' p q is one =
    let here : q ≡ p = grind (arith, nat_tests) in
    (given_decides given' q).1 (one.1 (inr here)) ∙ sym (ap (λ (b : Bool). if b then true else has_given given q) is)
given_by_test false given given' p q is one =
    let apart : q ≢ p = grind (arith, nat_tests) in
    same_test (has_given given' q) (has_given given q)
    (λ on. (given_decides given q).1 (⊎_elim (λ old. old) (λ here. absurd (apart here)) (one.0 ((given_decides given' q).0 on))))
    (λ on. (given_decides given' q).1 (one.1 (inl ((given_decides given q).0 on))))
    ∙ sym (ap (λ (b : Bool). if b then true else has_given given q) is)

pub given_more : (given given' : List ℕ) (p : ℕ) → ((q : ℕ) → IsSet given' q ↔ (IsSet given q ⊎ (q ≡ p))) → (q : ℕ) →
    has_given given' q ≡ (if q == p then true else has_given given q)
given_more given given' p one q = given_by_test (q == p) given given' p q refl (one q)

pub not_given : (given : List ℕ) (p : ℕ) → ¬ IsSet given p → has_given given p ≡ false
not_given given p isnt = false_from_ne_true (has_given given p) (λ on. isnt ((given_decides given p).0 on))

-- each piece that was seen was given
pub all_given : (pieces : ℕ) (v : BoardView) (given : List ℕ) → ((p : ℕ) → p < pieces → Seen v p → IsSet given p) → (p : ℕ) →
    has_seen pieces v p ≡ true →
    has_given given p ≡ true
all_given pieces v given all p is = let was = (seen_decides pieces v p).0 is in (given_decides given p).1 (all p was.0 was.1)

-- a seat with nothing seen, and one with nothing given
pub none_seen : (pieces : ℕ) (v : BoardView) → ((p : ℕ) → ¬ Seen v p) → (p : ℕ) → has_seen pieces v p ≡ false
none_seen pieces v isnt p = false_from_ne_true (has_seen pieces v p) (λ on. isnt p ((seen_decides pieces v p).0 on).1)
