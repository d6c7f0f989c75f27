-- The logs of passes, put at their workers' places one after the other.
use Rattle.std.proofs.Common.{◌≡◌, ◌≢◌, ◌⊎◌, ℕ, zero, suc, ◌+◌, ◌==◌, ◌≤◌, true, false, List, [], ◌∷◌, ◌++◌, length, take, drop, Some, slice_get}
use Rattle.std.proofs.Common.{refl, ap, sym, ◌∙◌, arith, append_assoc, length-append, eq-eqb, ne_eqb, set, inl, inr, ⊎_elim, subst}
use Rattle.std.proofs.lemmas.List.{take-append-drop, take_at, drop_at}
use Rattle.std.specs.Global.{Vec}
use Rattle.bt_history.specs.declared.mark.Mark.{Mark}
use Rattle.bt_shared.specs.Gathering.{EachFrom}
use Rattle.bt_shared.specs.Passes.{PassState}

-- the first elements of a list, once the last of them was taken off
pub popped : {A : Type 0} (all xs new : List A) (x : A) → xs ≡ take (length xs) all → length xs ≤ length all → xs ≡ new ++ x ∷ []
    → (length xs ≡ length new + 1) × (new ≡ take (length new) all) × (drop (length new) all ≡ x ∷ drop (length xs) all)
popped all xs new x is le last =
    let rest = drop (length xs) all in
    let whole : new ++ x ∷ rest ≡ all =
    sym (append_assoc new (x ∷ []) rest) ∙ (ap (λ ys. ys ++ rest) (sym last ∙ is) ∙ take-append-drop (length xs) all) in (
      omega (arith, ap length last, length-append new (x ∷ [])),
      sym (ap (take (length new)) (sym whole) ∙ take_at new (x ∷ rest) (length new) refl),
      ap (drop (length new)) (sym whole) ∙ drop_at new (x ∷ rest) (length new) refl,
    )

get_set : {A : Type 0} (xs : List A) (i k : ℕ) (x y : A) → slice_get (set xs i x) k ≡ Some y
    → ((k ≡ i) × (x ≡ y)) ⊎ ((k ≢ i) × (slice_get xs k ≡ Some y))
get_set [] i k x y at = absurd cc
get_set (z ∷ xs) zero zero x y at = inl (refl, cc)
get_set (z ∷ xs) zero (suc k) x y at = inr ((λ same. omega arith), at)
get_set (z ∷ xs) (suc i) zero x y at = inr ((λ same. omega arith), at)
get_set (z ∷ xs) (suc i) (suc k) x y at =
    ⊎_elim
    (λ here. inl (ap suc here.0, here.1))
    (λ other. let apart = other.0 in inr ((λ same. apart (omega arith)), other.1))
    (get_set xs i k x y at)

-- a pass's log, put at its worker's place
each_from_set : (ps : List PassState) (p : PassState) (logs : List (Vec Mark)) (log : Vec Mark) → log.items ≡ p.log
    → EachFrom ps logs → EachFrom (p ∷ ps) (set logs p.worker log)
each_from_set ps p logs log is old w there at =
    ⊎_elim
    (λ here. let b : (p.worker == w) ≡ true = eq-eqb p.worker w (sym here.0) in rw b (sym (ap (λ (v : Vec Mark). v.items) here.1) ∙ is))
    (λ other. let b : (p.worker == w) ≡ false = ne_eqb p.worker w (λ same. other.0 (sym same)) in rw b (old w there other.1))
    (get_set logs p.worker w log there at)

-- the same, of the pass that is read so
pub each_from : (ps : List PassState) (view p : PassState) (logs : List (Vec Mark)) (log : Vec Mark) → view ≡ p → log.items ≡ view.log
    → EachFrom ps logs → EachFrom (p ∷ ps) (set logs view.worker log)
each_from ps view p logs log is same old =
    subst (λ (q : PassState). EachFrom (q ∷ ps) (set logs view.worker log)) is (each_from_set ps view logs log same old)
