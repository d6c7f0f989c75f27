-- Lists whose elements have a property with their number.
use Rattle.std.proofs.Common.{◌≡◌, ◌⊎◌, inl, inr, ◌<◌, ◌+◌, ℕ, suc, List, [], ◌∷◌, ◌++◌, length, get_or, Some, slice_get, sym, ap, subst, ◌∙◌}
use Rattle.std.proofs.Common.{arith, length-append}
use Rattle.std.proofs.lemmas.List.{get_or_append_left, get_or_push}
use Rattle.std.proofs.lemmas.Option.{get_or_from_slice_get}
use mathlib.Core.Logic.{dite}
use native.Mathlib.Decide.{ℕ_discrete}
use Rattle.bt_session.specs.Workers.{AreNumbered}

module _ {X : Type 0} (P : ℕ → X → Type 0) where
  pub none_numbered : (first : ℕ) (xs : List X) → xs ≡ [] → AreNumbered P first xs
  none_numbered first xs none i any below = absurd (omega (arith, below, ap length none))

  -- the first of them, and those behind it
  pub first_is : (first : ℕ) (xs rest : List X) (x : X) → xs ≡ x ∷ rest → AreNumbered P first xs → P first x
  first_is first xs rest x is all =
      let zeroth : first + 0 ≡ first = omega arith in
      subst (λ (k : ℕ). P k x) zeroth
      (subst (P (first + 0)) (ap (λ (l : List X). get_or l 0 x) is) (all 0 x (omega (arith, ap length is))))

  pub rest_are : (first : ℕ) (xs rest : List X) (x : X) → xs ≡ x ∷ rest → AreNumbered P first xs → AreNumbered P (first + 1) rest
  rest_are first xs rest x is all i any below =
      let next : first + suc i ≡ first + 1 + i = omega arith in
      subst (λ (k : ℕ). P k (get_or rest i any)) next
      (subst (P (first + suc i)) (ap (λ (l : List X). get_or l (suc i) any) is) (all (suc i) any (omega (arith, below, ap length is))))

  -- one more
  at_end : (xs : List X) (x any : X) (i : ℕ) → AreNumbered P 0 xs → P (length xs) x → (i < length xs) ⊎ (i ≡ length xs) →
      P (0 + i) (get_or (xs ++ x ∷ []) i any)
  at_end xs x any i all last (inl below) = subst (P (0 + i)) (sym (get_or_append_left xs (x ∷ []) any i below)) (all i any below)
  at_end xs x any i all last (inr at) =
      let same : length xs ≡ 0 + i = omega (arith, at) in
      subst (λ (y : X). P (0 + i) y) (sym (get_or_push xs x any i (sym at))) (subst (λ (k : ℕ). P k x) same last)

  pub one_more : (xs xs' : List X) (x : X) → xs' ≡ xs ++ x ∷ [] → AreNumbered P 0 xs → P (length xs) x → AreNumbered P 0 xs'
  one_more xs xs' x is all last i any below =
      let count : length xs' ≡ length xs + 1 = ap length is ∙ length-append xs (x ∷ []) in
      subst (λ (l : List X). P (0 + i) (get_or l i any)) (sym is)
      (at_end xs x any i all last
      (dite (ℕ_discrete i (length xs)) (λ at. inr at) (λ apart. inl (omega (arith, below, count, apart)))))

-- what a look-up of each number finds
pub from_gets : {X : Type 0} (f : ℕ → X) (xs : List X) → ((k : ℕ) → k < length xs → slice_get xs k ≡ Some (f k)) →
    AreNumbered (λ number x. x ≡ f number) 0 xs
from_gets f xs gets i any below =
    let zeroth : i ≡ 0 + i = omega arith in
    get_or_from_slice_get xs i (f i) any (gets i below) ∙ ap f zeroth

-- the same list, counted from the same number
pub same_list : {X : Type 0} (P : ℕ → X → Type 0) (n m : ℕ) (xs ys : List X) → m ≡ n → ys ≡ xs → AreNumbered P n xs → AreNumbered P m ys
same_list P n m xs ys number list all =
    subst (λ (k : ℕ). AreNumbered P k ys) (sym number) (subst (AreNumbered P n) (sym list) all)
