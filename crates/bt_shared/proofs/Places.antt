-- What holds of each place of a list.
use Rattle.std.proofs.Common.{◌≡◌, ℕ, zero, suc, ◌+◌, ◌<◌, List, [], ◌∷◌, ◌++◌, length, Some, slice_get, refl, ap, arith}

last_at : {A : Type 0} (xs : List A) (x : A) → slice_get (xs ++ x ∷ []) (length xs) ≡ Some x
last_at [] x = refl
last_at (y ∷ xs) x = last_at xs x

-- a fact of each place goes on with one more element
pub one_more : {A : Type 0} (xs : List A) (x : A) (f : ℕ → A) → ((w : ℕ) → w < length xs → slice_get xs w ≡ Some (f w)) → x ≡ f (length xs)
    → (w : ℕ) → w < length xs + 1 → slice_get (xs ++ x ∷ []) w ≡ Some (f w)
one_more [] x f each is zero below = ap Some is
one_more [] x f each is (suc w) below = absurd (omega (arith, below))
one_more (y ∷ xs) x f each is zero below = each zero (omega arith)
one_more (y ∷ xs) x f each is (suc w) below = one_more xs x (λ k. f (suc k)) (λ k lt. each (suc k) (omega (arith, lt))) is w (omega (arith, below))
