-- The digests of four messages, in a caller's room.
use Rattle.std.specs.Prelude.{◌≡◌, ◌≢◌, ℕ, List, [], ◌∷◌, length}
use Rattle.std.specs.List.{concat}
use Rattle.std.specs.declared.result.Result.TheVariants.{Ok, Err}
use Rattle.sha1.specs.Sha1.{sha1}
use Rattle.bt_c.specs.declared.fault.Fault.TheVariants.{Room}
use Rattle.bt_c.specs.Outcomes.{Done, status_of}

-- the SHA-1 of each message, one behind the other
abbrev pub digests_of : List ℕ → List ℕ → List ℕ → List ℕ → List ℕ
digests_of a b c d = concat (sha1 a ∷ sha1 b ∷ sha1 c ∷ sha1 d ∷ [])

-- a room of just their 80 bytes gets the digests, and another one stays as it was
abbrev pub PutsDigests : List ℕ → List ℕ → List ℕ → Done → Type 0
PutsDigests digests old new (Ok u) = (length old ≡ 80) × (new ≡ digests)
PutsDigests digests old new (Err Room) = (length old ≢ 80) × (new ≡ old)
PutsDigests digests old new (Err f) = ⊥

-- the status tells it
abbrev pub TellsDigests : List ℕ → List ℕ → List ℕ → ℕ → Type 0
TellsDigests digests old new s = (o : Done) × PutsDigests digests old new o × (s ≡ status_of o)
