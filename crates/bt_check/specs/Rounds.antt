-- What a run of rounds does in each lane.
use Rattle.std.specs.Prelude.{◌≡◌, ℕ, ◌<◌, List}
use Rattle.sha1.specs.Sha1.{IsRoundsAt, IsWindow, rounds, schedule}
use Rattle.bt_check.specs.Lanes.{lane, variables}
use Rattle.bt_check.specs.declared.words.Variables.{Variables}

-- in each lane the rounds from t on, up to u, of the first 16 lead from the variables v to v', whatever
-- the block, whose words are the window w, and the hash value before it
abbrev pub TakesFirstRounds : List (List ℕ) → Variables → Variables → ℕ → ℕ → Type 0
TakesFirstRounds w v v' t u = (j : ℕ) (b h : List ℕ) → j < 4 → IsWindow (lane j w) (schedule b 64) 16
    → variables j v ≡ rounds h (schedule b 64) t → variables j v' ≡ rounds h (schedule b 64) u

-- in each lane the rounds from t on, up to u, lead from the window w and the variables v to w' and v',
-- whatever the block and the hash value before it
abbrev pub TakesRounds : List (List ℕ) → Variables → List (List ℕ) → Variables → ℕ → ℕ → Type 0
TakesRounds w v w' v' t u = (j : ℕ) (b h : List ℕ) → j < 4
    → IsRoundsAt b h (lane j w) (variables j v) t → IsRoundsAt b h (lane j w') (variables j v') u
