-- Sets of numbers below a bound: what contracts see of one, and how it changes.
use Rattle.std.specs.Prelude.{ℕ, ◌≡◌, ◌≢◌, ◌⊎◌, ◌<◌, ◌≤◌, Bool, true, false, List, length}
use Rattle.bt_tables.specs.Orders.{at}

-- the bound, and the numbers of the set, the least first
pub record RisingState : Type 0 where
  pub bound : ℕ
  pub numbers : List ℕ

-- the number at place i is less than the one at a later place j
abbrev pub Rises : List ℕ → ℕ → ℕ → Type 0
Rises xs i j = (at xs i < at xs j) ⊎ ((j ≤ i) ⊎ (length xs ≤ j))

-- the numbers are below the bound, and each is less than those behind it
pub record IsRising (bound : ℕ) (xs : List ℕ) : Type 0 where
  pub below : (i : ℕ) → i < length xs → at xs i < bound
  pub rises : (i j : ℕ) → Rises xs i j

-- the number stands in the list
abbrev pub IsIn : List ℕ → ℕ → Type 0
IsIn xs q = (i : ℕ) × (i < length xs) × (at xs i ≡ q)

-- number p stands in ys or doesn't, as the flag says, and the other numbers of ys are those of xs
pub record Puts (xs : List ℕ) (p : ℕ) (member : Bool) (ys : List ℕ) : Type 0 where
  pub own_in : member ≡ true → IsIn ys p
  pub own_out : member ≡ false → IsIn ys p → ⊥
  pub each : (q : ℕ) → q ≢ p → IsIn ys q → IsIn xs q
  pub all : (q : ℕ) → q ≢ p → IsIn xs q → IsIn ys q
