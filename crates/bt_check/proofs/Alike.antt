-- Lists of blocks that are equally long, block by block.
use Rattle.std.proofs.Common.{◌≡◌, ℕ, ◌+◌, ◌<◌, List, ◌∷◌, [], ◌++◌, length, get_or, take, ap, ◌∙◌, sym, arith}
use Rattle.std.proofs.lemmas.List.{map_more, get_or-map, length-map}
use Rattle.bt_check.specs.Checked.{lengths}

-- they are equally many
pub alike_many : (a b : List (List ℕ)) → lengths b ≡ lengths a → length b ≡ length a
alike_many a b same =
    sym (length-map b (λ block. length block)) ∙ ap (λ (xs : List ℕ). length xs) same ∙ length-map a (λ block. length block)

-- so a place in one is a place in the other
pub alike_below : (a b : List (List ℕ)) (i : ℕ) → lengths b ≡ lengths a → i < length a → i < length b
alike_below a b i same lt = omega (arith, alike_many a b same, lt)

-- the blocks at one place are equally long
pub alike_at : (a b : List (List ℕ)) (i : ℕ) (x y : List ℕ) → lengths b ≡ lengths a → i < length a → x ≡ get_or a i x → y ≡ get_or b i y →
    length y ≡ length x
alike_at a b i x y same lt is_x is_y =
    let many = alike_many a b same in
    ap (λ (block : List ℕ). length block) is_y
    ∙ sym (get_or-map (λ block. length block) b i y 0 (omega (arith, many, lt)))
    ∙ ap (λ (xs : List ℕ). get_or xs i 0) same
    ∙ get_or-map (λ block. length block) a i x 0 lt
    ∙ ap (λ (block : List ℕ). length block) (sym is_x)
