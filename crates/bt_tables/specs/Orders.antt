-- Numbers in groups: what contracts see of an order, and how its arrays fit together.
use Rattle.std.specs.Prelude.{ℕ, ◌+◌, ◌-◌, ◌≡◌, ◌⊎◌, ◌<◌, ◌≤◌, ◌^◌, ◌&&◌, List, if◌then◌else◌, length, nat_le, nat_lt, slice_index_or}

-- the number at place i of a list
abbrev pub at : List ℕ → ℕ → ℕ
at xs i = slice_index_or xs i 0

-- how many groups there are, and the group of each number
pub record OrderState : Type 0 where
  pub count : ℕ
  pub group_of : List ℕ

-- the list has each number of group n once, and no other
pub record ListsGroup (group_of : List ℕ) (n : ℕ) (found : List ℕ) : Type 0 where
  pub known : (i : ℕ) → i < length found → at found i < length group_of
  pub each : (i : ℕ) → i < length found → at group_of (at found i) ≡ n
  pub all : (p : ℕ) → p < length group_of → at group_of p ≡ n → (i : ℕ) × (i < length found) × (at found i ≡ p)
  pub once : (i j : ℕ) → i < j → j < length found → at found i ≡ at found j → ⊥

-- no number is in the groups from low up to high
abbrev pub NoneBetween : List ℕ → ℕ → ℕ → Type 0
NoneBetween group_of low high = (p : ℕ) → p < length group_of → low ≤ at group_of p → high ≤ at group_of p

-- some number is
abbrev pub SomeBetween : List ℕ → ℕ → ℕ → Type 0
SomeBetween group_of low high = (p : ℕ) × (p < length group_of) × (low ≤ at group_of p) × (at group_of p < high)

-- each number's group is what the function makes of its group before
pub record AreMoved (move : ℕ → ℕ) (before after : List ℕ) : Type 0 where
  pub len : length after ≡ length before
  pub each : (p : ℕ) → p < length before → at after p ≡ move (at before p)

-- a group from low up to high becomes the next one, and another stays
abbrev pub raised_between : ℕ → ℕ → ℕ → ℕ
raised_between low high g = if nat_le low g && nat_lt g high then g + 1 else g

-- a group from low up to high becomes the one before it, and another stays
abbrev pub lowered_between : ℕ → ℕ → ℕ → ℕ
lowered_between low high g = if nat_le low g && nat_lt g high then g - 1 else g

-- ---- the arrays; no public clause cites what follows

-- each place has a number and each number a place, and they tell of each other
pub record AreInverse (numbers places : List ℕ) : Type 0 where
  pub same : length numbers ≡ length places
  pub place : (p : ℕ) → p < length places → at places p < length places
  pub back : (p : ℕ) → p < length places → at numbers (at places p) ≡ p
  pub number : (i : ℕ) → i < length places → at numbers i < length places
  pub forth : (i : ℕ) → i < length places → at places (at numbers i) ≡ i

-- number p stands in front of the end of group n where its own group is that one or an earlier one, and else behind it
abbrev pub Side : List ℕ → List ℕ → List ℕ → ℕ → ℕ → Type 0
Side groups places ends p n = ((at groups p ≤ n) × (at places p < at ends n)) ⊎ ((n < at groups p) × (at ends n ≤ at places p))

-- the ends of the groups part the numbers by their groups
pub record AreSplit (groups places ends : List ℕ) : Type 0 where
  pub same : length groups ≡ length places
  pub few : (length places < 2 ^ 32) × (length ends < 2 ^ 16)
  pub within : (n : ℕ) → n < length ends → at ends n ≤ length places
  pub known : (p : ℕ) → p < length places → at groups p < length ends
  pub side : (p n : ℕ) → p < length places → n < length ends → Side groups places ends p n

-- where group n begins: at the front, or where the group before it ends
abbrev pub Begins : List ℕ → ℕ → ℕ → Type 0
Begins ends n begin = ((n ≡ 0) × (begin ≡ 0)) ⊎ ((m : ℕ) × (n ≡ m + 1) × (begin ≡ at ends m))
