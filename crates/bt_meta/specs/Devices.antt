-- What a read or a write says of its device.
use Rattle.std.specs.Prelude.{◌≡◌, ℕ, zero, suc, ◌+◌, ◌-◌, ◌^◌, nat_lt, Bool, true, false, List, ◌++◌, length, min, Option, Result, Ok, Err}
use Rattle.std.specs.Io.KnownBytes.{Appends}

-- one more, up to the largest u64
abbrev pub one_more : ℕ → ℕ
one_more n = min (n + 1) (2 ^ 64 - 1)

-- a read into some room that gave no byte
abbrev pub is_end : {E : Type 0} → Result ℕ E → List ℕ → Bool
is_end (Ok zero) room = nat_lt 0 (length room)
is_end (Ok (suc n)) room = false
is_end (Err e) room = false

-- a write that failed, or took none of some bytes
abbrev pub is_refused : {E : Type 0} → Result ℕ E → List ℕ → Bool
is_refused (Ok zero) bytes = nat_lt 0 (length bytes)
is_refused (Ok (suc n)) bytes = false
is_refused (Err e) bytes = true

-- a front of these bytes was written, and the rest wasn't
pub record WroteFront (old : Option (List ℕ)) (bytes : List ℕ) (new : Option (List ℕ)) : Type 0 where
  pub front : List ℕ
  pub rest : List ℕ
  pub parts : bytes ≡ front ++ rest
  pub wrote : Appends old new front
