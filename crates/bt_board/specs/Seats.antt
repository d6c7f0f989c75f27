-- A board, and its seats.
use Rattle.std.specs.Prelude.{◌≡◌, ◌≢◌, ◌<◌, ◌≤◌, ◌^◌, ℕ, List, [], length, replicate}
use Rattle.atomic_table.specs.Seated.{TableId}
use Rattle.atomic_table.specs.Table.{Me}
use Rattle.bt_meta.specs.Layout.{Layout, piece_count}
use Rattle.bt_board.specs.declared.view.BoardView.{BoardView}
use Rattle.bt_board.specs.Story.{IsSet, fresh, words_of}

-- a board: what tells it from others, its torrent, and how many seats it was opened with
pub record BoardState : Type 0 where
  pub table : TableId
  pub torrent : Layout
  pub seats : ℕ

-- a seat: what tells its board from others, what was marked and loaded with it, and the pieces that its news has given, as bits of words
pub record SeatState : Type 0 where
  pub table : TableId
  pub view : BoardView
  pub given : List ℕ

-- the seat of this number, of a new board
abbrev pub new_seat : BoardState → ℕ → SeatState
new_seat board seat = record { table = board.table; view = fresh seat; given = replicate (words_of (piece_count board.torrent)) 0 }

-- the seat with another view
abbrev pub seat_with : SeatState → BoardView → SeatState
seat_with s v = record { table = s.table; view = v; given = s.given }

-- the seat's news has given the piece
abbrev pub Given : SeatState → ℕ → Type 0
Given s p = IsSet s.given p

-- the table of a board: it was told this, has a bit for each of so many pieces, and nothing else
pub record IsTable {A : Type 0} (told about : A) (table : TableId) (pieces : ℕ) : Type 0 where
  pub told_is : told ≡ about
  pub words : table.words ≡ words_of pieces
  pub some : 0 < table.words
  pub few : table.words ≤ 2 ^ 26
  pub slots : table.slots ≡ 0

-- the parts of a seat: it has a bit for each of the table's, holds nothing of the table, and stands for some seat
pub record IsSeat {S : Type 0} (table : TableId) (me : Me S BoardView) (given : List ℕ) : Type 0 where
  pub wide : length given ≡ table.words
  pub bare : me.1 ≡ []
  pub stands : me.0.seats ≢ []
