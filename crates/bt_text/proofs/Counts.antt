-- Lines with too few or too many fields.
use Rattle.std.proofs.Common.{◌≡◌, ◌<◌, ◌≤◌, ℕ, List, [], ◌∷◌, length, None, refl, arith}
use Rattle.bt_text.specs.Lines.{command_in, line_of_fields}

-- only a word with at most three arguments says something
pub command_in-many : (word : List ℕ) (arguments : List (List ℕ)) → 4 ≤ length arguments → command_in word arguments ≡ None
command_in-many word [] h = absurd (omega arith)
command_in-many word (a ∷ []) h = absurd (omega arith)
command_in-many word (a ∷ b ∷ []) h = absurd (omega arith)
command_in-many word (a ∷ b ∷ d ∷ []) h = absurd (omega arith)
command_in-many word (a ∷ b ∷ d ∷ e ∷ more) h = refl

-- a line has a worker and a word
pub line_of_fields-short : (fields : List (List ℕ)) → length fields < 2 → line_of_fields fields ≡ None
line_of_fields-short [] h = refl
line_of_fields-short (a ∷ []) h = refl
line_of_fields-short (a ∷ b ∷ more) h = absurd (omega arith)
