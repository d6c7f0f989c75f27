-- Four messages side by side: each word is a vector with one lane for each message.
use Rattle.std.specs.Prelude.{ℕ, List, [], ◌∷◌, map, slice_index, slice_index_or}
use Rattle.bt_check.specs.declared.words.Variables.{Variables}

-- lane j of each vector
abbrev pub lane : ℕ → List (List ℕ) → List ℕ
lane j xs = map (λ x. slice_index x j) xs

-- the working variables of lane j
abbrev pub variables : ℕ → Variables → List ℕ
variables j v = lane j (v.a ∷ v.b ∷ v.c ∷ v.d ∷ v.e ∷ [])

-- the bytes of lane j, of the four that stand side by side
abbrev pub bytes_of : ℕ → List ℕ → List ℕ → List ℕ → List ℕ → List ℕ
bytes_of j a b c d = slice_index_or (a ∷ b ∷ c ∷ d ∷ []) j []
