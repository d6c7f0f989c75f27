-- No row knows by how many peers its piece is shown: that stands apart. No public clause of the picker cites this module.
use Rattle.std.specs.Prelude.{ℕ, ◌≡◌, List}
use Rattle.bt_tables.specs.Tables.{PieceState, piece_row}

-- each row says that nobody shows its piece
abbrev pub AreApart : List PieceState → Type 0
AreApart rows = (p : ℕ) → (piece_row rows p).availability ≡ 0
