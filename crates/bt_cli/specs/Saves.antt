-- A file that was just made, and what it is handed then.
use Rattle.std.specs.Prelude.{◌≡◌, ℕ, List, [], Option, Some, None, Result, IsErr}
use Rattle.std.specs.Io.KnownBytes.{WriteAppends}

-- the file is empty, where what it holds is known
abbrev pub IsBlank : Option (List ℕ) → Type 0
IsBlank None = Unit {0}
IsBlank (Some held) = held ≡ []

-- what the file holds grew by the bytes that are said to be taken, and by nothing else; one that wasn't made takes none
abbrev pub HandsOn : {F E : Type 0} → (F → Option (List ℕ)) → Option F → Option F → Result ℕ E → List ℕ → Type 0
HandsOn contents (Some old) (Some new) result bytes = WriteAppends (contents old) (contents new) result bytes
HandsOn contents None None result bytes = IsErr result
HandsOn contents (Some old) None result bytes = ⊥
HandsOn contents None (Some new) result bytes = ⊥
