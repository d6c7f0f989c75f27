-- A download of which each block is of zero bytes.
use Rattle.std.specs.Prelude.{ℕ, ◌*◌, ◌≡◌, List, [], ◌∷◌, length, replicate, ⊤}
use Rattle.bt_meta.specs.Layout.{Layout, piece_count}
use Rattle.bt_history.specs.declared.event.Action.{Action}
use Rattle.bt_history.specs.declared.event.Action.TheVariants.{Arrived}
use Rattle.bt_history.specs.History.{History}

-- so many zero bytes
abbrev pub zeros : ℕ → List ℕ
zeros n = replicate n 0

-- a block that the call brings is of zero bytes
abbrev pub BringsZeros : Action → Type 0
BringsZeros (Arrived p begin bytes) = bytes ≡ zeros (length bytes)
BringsZeros call = ⊤

-- each block that came is of zero bytes
abbrev pub AllZeros : History → Type 0
AllZeros [] = ⊤
AllZeros (e ∷ h) = BringsZeros e.action × AllZeros h

-- each piece is of 256 KiB
pub record IsEven (t : Layout) : Type 0 where
  pub pieces : t.piece_length ≡ 262144
  pub whole : t.total ≡ 262144 * piece_count t
