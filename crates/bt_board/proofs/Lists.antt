-- Lists read by `get_elem?`, and `Has` and `Each` of a list and more.
use Rattle.std.proofs.Common.{◌≡◌, ◌⊎◌, ℕ, zero, suc, ◌+◌, ◌<◌, ◌≤◌, List, [], ◌∷◌, ◌++◌, length, get_or, map, set, sym, refl, ap, ◌∙◌}
use Rattle.std.proofs.Common.{length-append, zero-add, inl, inr, ⊎_elim, arith}
use Rattle.std.specs.List.{range_with_len}
use Rattle.std.proofs.lemmas.List.FromFn.{map-range_with_len_more}
use mathlib.Core.Option.{some, some-injective, some-ne-none}
use lib.ListN.{get_elem?}
use Rattle.bt_board.specs.Story.{Has, Each}

module _ {A : Type 0} where
  pub same_item : (xs : List A) (i : ℕ) (a b : A) → get_elem? xs i ≡ some a → get_elem? xs i ≡ some b → a ≡ b
  same_item xs i a b p q = some-injective a b (sym p ∙ q)

  pub set_at : (xs : List A) (i : ℕ) (a b : A) → get_elem? xs i ≡ some a → get_elem? (set xs i b) i ≡ some b
  set_at [] i a b at = absurd (some-ne-none a (sym at))
  set_at (x ∷ xs) zero a b at = refl
  set_at (x ∷ xs) (suc i) a b at = set_at xs i a b at

  pub has_front : (P : A → Type 0) (xs ys : List A) → Has P xs → Has P (xs ++ ys)
  has_front P [] ys h = absurd h
  has_front P (x ∷ xs) ys h = ⊎_elim (λ here. inl here) (λ there. inr (has_front P xs ys there)) h

  pub has_back : (P : A → Type 0) (xs ys : List A) → Has P ys → Has P (xs ++ ys)
  has_back P [] ys h = h
  has_back P (x ∷ xs) ys h = inr (has_back P xs ys h)

  pub has_parts : (P : A → Type 0) (xs ys : List A) → Has P (xs ++ ys) → Has P xs ⊎ Has P ys
  has_parts P [] ys h = inr h
  has_parts P (x ∷ xs) ys h = ⊎_elim (λ here. inl (inl here)) (λ there. ⊎_elim (λ a. inl (inr a)) (λ b. inr b) (has_parts P xs ys there)) h

  pub has_last : (P : A → Type 0) (xs : List A) (x : A) → P x → Has P (xs ++ x ∷ [])
  has_last P xs x h = has_back P xs (x ∷ []) (inl h)

  pub has_snoc : (P : A → Type 0) (xs : List A) (x : A) → Has P (xs ++ x ∷ []) → Has P xs ⊎ P x
  has_snoc P xs x h = ⊎_elim (λ a. inl a) (λ b. ⊎_elim (λ c. inr c) (λ no. absurd no) b) (has_parts P xs (x ∷ []) h)

  pub each_append : (P : A → Type 0) (xs ys : List A) → Each P xs → Each P ys → Each P (xs ++ ys)
  each_append P [] ys p q = q
  each_append P (x ∷ xs) ys p q = (p.0, each_append P xs ys p.1 q)

  pub each_at : (P : A → Type 0) (xs : List A) (Q : A → Type 0) → Each P xs → Has Q xs → (x : A) × P x × Q x
  each_at P [] Q p h = absurd h
  each_at P (x ∷ xs) Q p h = ⊎_elim (λ here. (x, p.0, here)) (λ there. each_at P xs Q p.1 there) h

  pub at_appended : (xs : List A) (a b : A) (i : ℕ) → get_elem? (xs ++ a ∷ []) i ≡ some b →
      ((get_elem? xs i ≡ some b) × (i < length xs)) ⊎ ((i ≡ length xs) × (a ≡ b))
  at_appended [] a b zero e = inr (refl, some-injective a b e)
  at_appended [] a b (suc i) e = absurd (some-ne-none b (sym e))
  at_appended (x ∷ xs) a b zero e = inl (e, omega arith)
  at_appended (x ∷ xs) a b (suc i) e = ⊎_elim (λ o. inl (o.0, omega arith)) (λ n. inr (ap suc n.0, n.1)) (at_appended xs a b i e)

  pub at_below : (xs : List A) (i : ℕ) (a : A) → get_elem? xs i ≡ some a → i < length xs
  at_below [] i a e = absurd (some-ne-none a (sym e))
  at_below (x ∷ xs) zero a e = omega arith
  at_below (x ∷ xs) (suc i) a e = let h = at_below xs i a e in omega arith

  pub any_default : (xs : List A) (i : ℕ) (d e : A) → i < length xs → get_or xs i d ≡ get_or xs i e
  any_default [] i d e lt = absurd (omega arith)
  any_default (x ∷ xs) zero d e lt = refl
  any_default (x ∷ xs) (suc i) d e lt = any_default xs i d e (omega arith)

  pub value_at : (xs : List A) (i : ℕ) (a d : A) → get_elem? xs i ≡ some a → get_or xs i d ≡ a
  value_at [] i a d e = absurd (some-ne-none a (sym e))
  value_at (x ∷ xs) zero a d e = some-injective x a e
  value_at (x ∷ xs) (suc i) a d e = value_at xs i a d e

  pub append_nil_left : (xs ys : List A) → xs ++ ys ≡ [] → xs ≡ []
  append_nil_left [] ys e = refl
  append_nil_left (x ∷ xs) ys e = cc

pub in_range : (a n s : ℕ) → Has (λ r. r ≡ s) (range_with_len a n) → (a ≤ s) × (s < a + n)
in_range a zero s h = absurd h
in_range a (suc n) s h = ⊎_elim (λ (here : a ≡ s). (omega arith, omega arith))
    (λ there. let r = in_range (a + 1) n s there in let low = r.0 in let high = r.1 in (omega arith, omega arith)) h

-- one item more makes a list longer by one
pub longer : {A : Type 0} (xs ys : List A) (x : A) → ys ≡ xs ++ x ∷ [] → length ys ≡ length xs + 1
longer xs ys x more = ap length more ∙ length-append xs (x ∷ [])

-- one more item of a list whose k-th is g k
pub listed_more : {A : Type 0} (g : ℕ → A) (xs ys : List A) (x : A) → ys ≡ xs ++ x ∷ [] → x ≡ g (length xs) →
    xs ≡ map g (range_with_len 0 (length xs))
    → ys ≡ map g (range_with_len 0 (length ys))
listed_more g xs ys x more is so_far =
    let n = longer xs ys x more in
    more ∙ (λ i. so_far i ++ is i ∷ []) ∙ sym (map-range_with_len_more g 0 (length xs) (length xs) (zero-add (length xs))) ∙
    ap (λ (k : ℕ). map g (range_with_len 0 k)) (sym n)
