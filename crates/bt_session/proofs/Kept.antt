-- Lists of which each element is a part of another's.
use Rattle.std.proofs.Common.{◌≡◌, ℕ, ◌<◌, List, [], ◌∷◌, ◌++◌, map, length, get_or, sym, ap, ◌∙◌, subst, arith, append_assoc}
use Rattle.std.specs.List.{All}
use Rattle.std.proofs.lemmas.List.Elements.{All-append, All-cons}
use Rattle.std.proofs.lemmas.List.{get_or-map, map-append}

-- an element of a list of parts, where the list is known
pub part_at : {H X : Type 0} (part : H → X) (hs : List H) (xs : List X) → map part hs ≡ xs → (i : ℕ) (h : H) (x : X) → i < length hs →
    h ≡ get_or hs i h → get_or xs i x ≡ part h
part_at part hs xs parts i h x below here =
    sym (ap (λ l. get_or l i x) parts) ∙ (get_or-map part hs i h x below ∙ ap part (sym here))

-- one more element was made of the first of those that are left
pub grown : {H X : Type 0} (part : H → X) (hs hs' : List H) (h : H) (x : X) (rest rest' all : List X) →
    hs' ≡ hs ++ h ∷ [] → rest ≡ x ∷ rest' → part h ≡ x → map part hs ++ rest ≡ all → map part hs' ++ rest' ≡ all
grown part hs hs' h x rest rest' all more left is old =
    ap (λ l. map part l ++ rest') more
    ∙ (ap (λ l. l ++ rest') (map-append part hs (h ∷ []))
    ∙ (append_assoc (map part hs) (part h ∷ []) rest'
    ∙ (ap (λ y. map part hs ++ y ∷ rest') is ∙ (ap (λ l. map part hs ++ l) (sym left) ∙ old))))

-- what holds of each element holds of one more
pub all_grown : {H : Type 0} (P : H → Type 0) (hs hs' : List H) (h : H) → hs' ≡ hs ++ h ∷ [] → P h → All P hs → All P hs'
all_grown P hs hs' h more here old =
    subst (All P) (sym more) (All-append P hs (h ∷ []) old (All-cons P h [] here (λ i d below. absurd (omega arith))))
