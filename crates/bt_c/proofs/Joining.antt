-- The first of some blocks are no longer than all.
use Rattle.std.proofs.Common.{ℕ, zero, suc, ◌≤◌, List, [], ◌∷◌, length, length-append, take, arith}
use Rattle.std.specs.List.{concat}

pub joined_most : (blocks : List (List ℕ)) (k : ℕ) → length (concat (take k blocks)) ≤ length (concat blocks)
joined_most [] zero = omega arith
joined_most [] (suc k) = omega arith
joined_most (block ∷ blocks) zero = omega arith
joined_most (block ∷ blocks) (suc k) =
    let rest = joined_most blocks k in
    omega (arith, rest, length-append block (concat (take k blocks)), length-append block (concat blocks))
