-- A peer's line of requests, with a flag for each that is late. No public clause of the picker cites this module.
use Rattle.std.specs.Prelude.{ℕ, ◌≤◌, ◌≡◌, Bool, List, [], ◌∷◌, length, if◌then◌else◌}
use Rattle.bt_meta.specs.declared.block.Block.{Block}
use Rattle.bt_history.specs.Peers.{AreApart}

-- what contracts see of a line: for so many blocks it has room, these are asked of the peer, and with these of them it is late
pub record LineState : Type 0 where
  pub room : ℕ
  pub asked : List Block
  pub overdue : List Block

-- the blocks whose flag is set
abbrev pub flagged : List Block → List Bool → List Block
flagged [] flags = []
flagged (b ∷ bs) [] = []
flagged (b ∷ bs) (f ∷ flags) = if f then b ∷ flagged bs flags else flagged bs flags

-- there is room for as many flags as blocks, each block has a flag, no two begin at one place, and so many flags are set
pub record IsLine (room flag_room late : ℕ) (blocks : List Block) (flags : List Bool) : Type 0 where
  pub holds_flags : room ≤ flag_room
  pub each : length flags ≡ length blocks
  pub apart : AreApart blocks
  pub counted : late ≡ length (flagged blocks flags)
