-- Numbered texts, one by one.
use Rattle.std.proofs.Common.{◌≡◌, ◌<◌, ◌+◌, ℕ, List, [], ◌∷◌, ◌++◌, length, get_or, take, sym, ap, ◌∙◌, append_assoc, append-nil, arith}
use Rattle.std.proofs.lemmas.List.{take_more, length-take-le}
use Rattle.bt_cli.specs.Reports.{numbered}

plus_nothing : (n : ℕ) → n ≡ n + 0
plus_nothing n = omega arith

numbered-append : {A : Type 0} (text : ℕ → A → List ℕ) (n : ℕ) (xs : List A) (x : A) →
    numbered text n (xs ++ x ∷ []) ≡ numbered text n xs ++ text (n + length xs) x
numbered-append text n [] x = append-nil (text n x) ∙ ap (λ (m : ℕ). text m x) (plus_nothing n)
numbered-append text n (y ∷ ys) x =
    let same : n + 1 + length ys ≡ n + length (y ∷ ys) = omega arith in
    ap (λ rest. text n y ++ rest) (numbered-append text (n + 1) ys x ∙ ap (λ (m : ℕ). numbered text (n + 1) ys ++ text m x) same)
    ∙ sym (append_assoc (text n y) (numbered text (n + 1) ys) (text (n + length (y ∷ ys)) x))

-- one more
pub numbered-more : {A : Type 0} (text : ℕ → A → List ℕ) (xs : List A) (i : ℕ) (d : A) → i < length xs
    → numbered text 0 (take i xs) ++ text i (get_or xs i d) ≡ numbered text 0 (take (i + 1) xs)
numbered-more text xs i d h =
    let len : 0 + length (take i xs) ≡ i = omega (arith, length-take-le i xs (omega arith)) in
    sym (ap (numbered text 0) (take_more xs i d h)
    ∙ (numbered-append text 0 (take i xs) (get_or xs i d) ∙ ap (λ (n : ℕ). numbered text 0 (take i xs) ++ text n (get_or xs i d)) len))
