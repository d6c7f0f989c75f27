-- How the rounds of each lane follow one another.
use Rattle.std.proofs.Common.{◌≡◌, ℕ, ◌+◌, List, refl, arith}
use Rattle.sha1.specs.Sha1.{rounds, schedule}
use Rattle.sha1.proofs.Schedule.{IsRoundsAt_at}
use Rattle.bt_check.specs.Lanes.{lane, variables}
use Rattle.bt_check.specs.declared.words.Variables.{Variables}
use Rattle.bt_check.specs.Rounds.{TakesFirstRounds, TakesRounds}

-- rounds, and then further ones
TakesRounds_then : (w : List (List ℕ)) (v : Variables) (w1 : List (List ℕ)) (v1 : Variables) (w2 : List (List ℕ)) (v2 : Variables) (s t t' u : ℕ)
    → TakesRounds w v w1 v1 s t → t ≡ t' → TakesRounds w1 v1 w2 v2 t' u → TakesRounds w v w2 v2 s u
TakesRounds_then w v w1 v1 w2 v2 s t t' u first e second = λ j b h lt held.
    second j b h lt (IsRoundsAt_at b h (lane j w1) (variables j v1) t t' e (first j b h lt held))

-- five rounds, one by one
pub TakesRounds_five : (w0 : List (List ℕ)) (v0 : Variables) (w1 : List (List ℕ)) (v1 : Variables)
    (w2 : List (List ℕ)) (v2 : Variables) (w3 : List (List ℕ)) (v3 : Variables) (w4 : List (List ℕ)) (v4 : Variables)
    (w5 : List (List ℕ)) (v5 : Variables) (t : ℕ)
    → TakesRounds w0 v0 w1 v1 t (t + 1) → TakesRounds w1 v1 w2 v2 (t + 1) (t + 1 + 1)
    → TakesRounds w2 v2 w3 v3 (t + 2) (t + 2 + 1) → TakesRounds w3 v3 w4 v4 (t + 3) (t + 3 + 1)
    → TakesRounds w4 v4 w5 v5 (t + 4) (t + 4 + 1) → TakesRounds w0 v0 w5 v5 t (t + 5)
TakesRounds_five w0 v0 w1 v1 w2 v2 w3 v3 w4 v4 w5 v5 t a b c d e =
    let two = TakesRounds_then w0 v0 w1 v1 w2 v2 t (t + 1) (t + 1) (t + 1 + 1) a (omega arith) b in
    let three = TakesRounds_then w0 v0 w2 v2 w3 v3 t (t + 1 + 1) (t + 2) (t + 2 + 1) two (omega arith) c in
    let four = TakesRounds_then w0 v0 w3 v3 w4 v4 t (t + 2 + 1) (t + 3) (t + 3 + 1) three (omega arith) d in
    let five = TakesRounds_then w0 v0 w4 v4 w5 v5 t (t + 3 + 1) (t + 4) (t + 4 + 1) four (omega arith) e in
    TakesRounds_then w0 v0 w5 v5 w5 v5 t (t + 4 + 1) (t + 5) (t + 5) five (omega arith) (λ j b h lt held. held)

-- first rounds, and then further ones
TakesFirstRounds_then : (w : List (List ℕ)) (v v1 v2 : Variables) (s t t' u : ℕ)
    → TakesFirstRounds w v v1 s t → t ≡ t' → TakesFirstRounds w v1 v2 t' u → TakesFirstRounds w v v2 s u
TakesFirstRounds_then w v v1 v2 s t t' u first e second = λ j b h lt win held.
    second j b h lt win (rw (← e) (first j b h lt win held))

-- four first rounds, one by one
pub TakesFirstRounds_four : (w : List (List ℕ)) (v0 v1 v2 v3 v4 : Variables) (t : ℕ)
    → TakesFirstRounds w v0 v1 t (t + 1) → TakesFirstRounds w v1 v2 (t + 1) (t + 1 + 1)
    → TakesFirstRounds w v2 v3 (t + 2) (t + 2 + 1) → TakesFirstRounds w v3 v4 (t + 3) (t + 3 + 1) → TakesFirstRounds w v0 v4 t (t + 4)
TakesFirstRounds_four w v0 v1 v2 v3 v4 t a b c d =
    let two = TakesFirstRounds_then w v0 v1 v2 t (t + 1) (t + 1) (t + 1 + 1) a (omega arith) b in
    let three = TakesFirstRounds_then w v0 v2 v3 t (t + 1 + 1) (t + 2) (t + 2 + 1) two (omega arith) c in
    let four = TakesFirstRounds_then w v0 v3 v4 t (t + 2 + 1) (t + 3) (t + 3 + 1) three (omega arith) d in
    TakesFirstRounds_then w v0 v4 v4 t (t + 3 + 1) (t + 4) (t + 4) four (omega arith) (λ j b h lt win held. held)

-- no round
pub rounds_none : (h b : List ℕ) → h ≡ rounds h (schedule b 64) 0
unfolding rounds
rounds_none h b = refl
