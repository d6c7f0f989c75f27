-- Which finished pieces are news: those that weren't told.
use Rattle.std.specs.Prelude.{◌≡◌, ◌≤◌, ◌<◌, ◌⊎◌, ℕ, Bool, true, false, List, length, slice_index_or, Option, Some, None}

-- the flags have the piece
abbrev pub has_told : List Bool → ℕ → Bool
has_told told piece = slice_index_or told piece false

-- Of the first so many pieces the least that wasn't told; none where each was told, but for numbers that the flags haven't.
abbrev pub FindsUntold : List Bool → List ℕ → ℕ → Option ℕ → Type 0
FindsUntold told pieces count None =
    (k : ℕ) → k < count → slice_index_or pieces k 0 < length told → has_told told (slice_index_or pieces k 0) ≡ true
FindsUntold told pieces count (Some least) =
    (least < length told) × (has_told told least ≡ false) × ((k : ℕ) × (k < count) × (slice_index_or pieces k 0 ≡ least))
    × ((k : ℕ) → k < count → slice_index_or pieces k 0 < least → has_told told (slice_index_or pieces k 0) ≡ true)

-- the first so many of the pieces were told
pub record AreTold (told : List Bool) (count : ℕ) (pieces : List ℕ) : Type 0 where
  pub within : count ≤ length pieces
  pub each : FindsUntold told pieces count None

-- of what was found before and one more piece the lesser, if that wasn't told
abbrev pub IsLesser : List Bool → Option ℕ → ℕ → Option ℕ → Type 0
IsLesser told found piece result =
    ((result ≡ Some piece) × (piece < length told) × (has_told told piece ≡ false) × ((least : ℕ) → found ≡ Some least → piece < least))
    ⊎ ((result ≡ found) × ((piece < length told → has_told told piece ≡ true) ⊎ ((least : ℕ) × (found ≡ Some least) × (least ≤ piece))))
