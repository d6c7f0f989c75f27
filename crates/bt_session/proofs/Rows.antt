-- A list of two parts and one element more, by number.
use Rattle.std.proofs.Common.{◌≡◌, ◌<◌, ◌+◌, ℕ, List, [], ◌∷◌, ◌++◌, length, get_or, sym, ap, ◌∙◌, arith, length-append}
use Rattle.std.proofs.lemmas.List.{get_or-append-add, get_or_append_left, get_or_push}

module _ {X : Type 0} (all a b : List X) (z : X) (n m : ℕ) (is : all ≡ (a ++ b) ++ z ∷ []) (many : length a ≡ n) (more : length b ≡ m) where
  both_count : length (a ++ b) ≡ n + m
  both_count = length-append a b ∙ omega (arith, many, more)

  pub count : length all ≡ n + m + 1
  count = ap length is ∙ (length-append (a ++ b) (z ∷ []) ∙ omega (arith, both_count))

  before : (i : ℕ) (any : X) → i < n + m → get_or all i any ≡ get_or (a ++ b) i any
  before i any below =
      ap (λ (l : List X). get_or l i any) is ∙ get_or_append_left (a ++ b) (z ∷ []) any i (omega (arith, below, both_count))

  pub at_first : (i : ℕ) (any : X) → i < n → get_or all i any ≡ get_or a i any
  at_first i any below = before i any (omega (arith, below)) ∙ get_or_append_left a b any i (omega (arith, below, many))

  pub at_second : (i : ℕ) (any : X) → i < m → get_or all (n + i) any ≡ get_or b i any
  at_second i any below =
      before (n + i) any (omega (arith, below))
      ∙ (ap (λ (k : ℕ). get_or (a ++ b) (k + i) any) (sym many) ∙ get_or-append-add a b i any)

  pub at_last : (any : X) → get_or all (n + m) any ≡ z
  at_last any = ap (λ (l : List X). get_or l (n + m) any) is ∙ get_or_push (a ++ b) z any (n + m) both_count
