-- What a row of a piece amounts to among the others: its group, and what is counted of it. No public clause of the picker cites this module.
use Rattle.std.specs.Prelude.{ℕ, ◌+◌, ◌-◌, ◌*◌, ◌%◌, ◌^◌, ◌≡◌, ◌<◌, ◌≤◌, ◌==◌, ◌||◌, ◌&&◌, Bool, false, not, List, [], ◌∷◌, length, map, min, nat_le, nat_lt, true}
use Rattle.std.specs.Prelude.{None, Some, is_some, slice_index_or, slice_set, if◌then◌else◌}
use Rattle.std.specs.List.{count_by, sum_by}
use Rattle.bt_tables.specs.declared.cell.Cell.{Cell}
use Rattle.bt_tables.specs.declared.cell.TheConstants.{HELD}
use Rattle.bt_history.specs.declared.rules.TheConstants.{MOST_LEVEL, USUAL_LEVEL}
use Rattle.bt_tables.specs.declared.piece.Stage.{Stage}
use Rattle.bt_tables.specs.declared.piece.Stage.TheVariants.{AskedOut, Open, Resting, Unbegun}
use Rattle.bt_tables.specs.declared.piece.TheConstants.{CROWD, SPAN, UNBEGUN}
use Rattle.bt_tables.specs.Tables.{CellState, PieceState, empty_cell, one_if, piece_row}
use Rattle.bt_tables.specs.Orders.{at}
use Rattle.bt_tables.specs.Risings.{IsIn}

-- what the word of a cell says: a block that is held is asked of nobody, and the word says who brought it
abbrev pub word_kept : ℕ → CellState
word_kept word =
    if nat_lt word HELD then record { sender = None; askers = word } else record { sender = Some (word - HELD); askers = 0 }

-- what a cell says
abbrev pub cell_kept : Cell → CellState
cell_kept cell = word_kept cell.word

-- the block is held
abbrev pub is_held : CellState → Bool
is_held cell = is_some cell.sender

-- the block is held, or asked of somebody
abbrev pub is_touched : CellState → Bool
is_touched cell = is_some cell.sender || nat_lt 0 cell.askers

-- so many of the blocks are held
abbrev pub held_count : List CellState → ℕ
held_count cells = count_by is_held cells

-- so many of them are held or asked
abbrev pub touched_count : List CellState → ℕ
touched_count cells = count_by is_touched cells

-- the counts of a piece are those of its cells
pub record AreCounts (held touched : ℕ) (cells : List CellState) : Type 0 where
  pub held_is : held ≡ held_count cells
  pub touched_is : touched ≡ touched_count cells
  pub short : length cells < 2 ^ 32

-- each of the first n blocks is held or asked
abbrev pub AreTouched : ℕ → List CellState → Type 0
AreTouched n cells = (i : ℕ) → i < n → i < length cells → is_touched (slice_index_or cells i empty_cell) ≡ true

-- the row without how many peers show the piece, which is kept apart, and the row with it
abbrev pub apart : PieceState → PieceState
apart row = record row { availability = 0 }

-- the row of a piece that so many peers show
abbrev pub shown_row : ℕ → PieceState → PieceState
shown_row n row = record row { availability = n }

-- the rows, each with how many peers show its piece
abbrev pub whole_rows : List PieceState → List ℕ → List PieceState
whole_rows [] shown = []
whole_rows (row ∷ rows) [] = []
whole_rows (row ∷ rows) (n ∷ shown) = shown_row n row ∷ whole_rows rows shown

-- the place of a level among all: the usual one is the first, and pieces of level 0 rest there; then come those above it and those below, the
-- nearest first
abbrev pub slot_of : ℕ → ℕ
slot_of level =
    if (level == 0) || (level == USUAL_LEVEL) then 0
    else if nat_lt USUAL_LEVEL level then min level MOST_LEVEL - USUAL_LEVEL
    else MOST_LEVEL - level

-- the first group of a level
abbrev pub first_group : ℕ → ℕ
first_group level = slot_of level * SPAN

-- where the pieces of a stage stand among the groups of a level: from CROWD on all counts of peers share one
abbrev pub place_of : Stage → ℕ
place_of Resting = 0
place_of AskedOut = 1
place_of Open = 2
place_of (Unbegun n) = UNBEGUN + min n CROWD

-- the number of the group of a level and a stage
abbrev pub group_number : ℕ → Stage → ℕ
group_number level stage = first_group level + place_of stage

-- nothing is left to get of the piece: it is had, or not wanted
abbrev pub is_resting : PieceState → Bool
is_resting row = row.had || (row.level == 0)

-- how far a piece is that is had or not and has this level, with so many blocks held or asked of so many, which n peers show: at rest, unbegun,
-- begun with its lacking blocks all asked (a full one, too), or else open
abbrev pub stage_by : Bool → ℕ → ℕ → ℕ → ℕ → Stage
stage_by had level touched blocks n =
    if had || (level == 0) then Resting
    else if touched == 0 then Unbegun n
    else if touched == blocks then AskedOut
    else Open

-- how far the piece of a row is
abbrev pub stage_of_row : PieceState → Stage
stage_of_row row = stage_by row.had row.level (touched_count row.blocks) (length row.blocks) row.availability

-- the group of a piece
abbrev pub group_of_row : PieceState → ℕ
group_of_row row = group_number row.level (stage_of_row row)

-- where a group stands among those of its level
abbrev pub place_in : ℕ → ℕ
place_in group = group % SPAN

-- the group of a piece of group g once one peer more shows it, n in all, and once one less of n does
abbrev pub raised_group : ℕ → ℕ → ℕ
raised_group n g = if nat_lt CROWD n then g else if nat_lt (place_in g) UNBEGUN then g else g + 1

-- the group of a piece of group g once one peer less shows it, n before
abbrev pub lowered_group : ℕ → ℕ → ℕ
lowered_group n g = if nat_lt CROWD n then g else if nat_lt UNBEGUN (place_in g) then g - 1 else g

-- the same once one peer more shows each piece, and once one less does, where no group is a last one: a group of unbegun pieces of the first
-- so many slots moves
abbrev pub raised_in : ℕ → ℕ → ℕ
raised_in slots g = if nat_lt g (slots * SPAN) && (nat_le UNBEGUN (place_in g) && nat_lt (place_in g) (SPAN - 1)) then g + 1 else g

abbrev pub lowered_in : ℕ → ℕ → ℕ
lowered_in slots g = if nat_lt g (slots * SPAN) && nat_lt UNBEGUN (place_in g) then g - 1 else g

-- no group of the first so many slots is the last of its level
abbrev pub NoneCrowded : ℕ → List ℕ → Type 0
NoneCrowded slots groups = (p : ℕ) → p < length groups → at groups p < slots * SPAN → place_in (at groups p) < SPAN - 1

-- so many blocks are to be had of a piece of this level that has so many
abbrev pub wanted_by : ℕ → ℕ → ℕ
wanted_by level blocks = if level == 0 then 0 else blocks

-- so many blocks are to be had of the piece
abbrev pub wanted_length : PieceState → ℕ
wanted_length row = wanted_by row.level (length row.blocks)

-- what a piece amounts to: its group, how many of its blocks are unasked and aren't held, if it is wanted, whether it is had, and whether
-- something is left to get of it
pub record Amount : Type 0 where
  pub group : ℕ
  pub unasked : ℕ
  pub unheld : ℕ
  pub had : Bool
  pub left : Bool

-- two amounts of a piece that differ in what is unasked and unheld alone
pub record AreGrouped (before after : Amount) : Type 0 where
  pub group : before.group ≡ after.group
  pub had : before.had ≡ after.had
  pub left : before.left ≡ after.left

-- the amount of no piece
abbrev pub no_amount : Amount
no_amount = record { group = 0; unasked = 0; unheld = 0; had = false; left = false }

-- what the row of a piece amounts to
abbrev pub standing_of : PieceState → Amount
standing_of row = record {
  group = group_of_row row;
  unasked = wanted_length row - touched_count row.blocks;
  unheld = wanted_length row - held_count row.blocks;
  had = row.had;
  left = not (is_resting row);
}

-- what is kept of all rows
pub record ShelfState : Type 0 where
  pub groups : List ℕ
  pub unasked : ℕ
  pub unheld : ℕ
  pub had : ℕ
  pub left : ℕ

-- what the rows amount to together
abbrev pub shelf_of : List PieceState → ShelfState
shelf_of rows = record {
  groups = map group_of_row rows;
  unasked = sum_by (λ row. (standing_of row).unasked) rows;
  unheld = sum_by (λ row. (standing_of row).unheld) rows;
  had = count_by (λ row. row.had) rows;
  left = count_by (λ row. not (is_resting row)) rows;
}

-- the answer tells whether nothing is left to get of any piece
pub record TellsRest (rows : List PieceState) (all : Bool) : Type 0 where
  pub each : all ≡ true → (p : ℕ) → p < length rows → is_resting (piece_row rows p) ≡ true
  pub other : all ≡ false → (p : ℕ) × (p < length rows) × (is_resting (piece_row rows p) ≡ false)

-- the list has each open piece once, and no other
pub record ListsOpen (groups found : List ℕ) : Type 0 where
  pub known : (i : ℕ) → i < length found → at found i < length groups
  pub each : (i : ℕ) → i < length found → place_in (at groups (at found i)) ≡ place_of Open
  pub all : (p : ℕ) → p < length groups → place_in (at groups p) ≡ place_of Open → (i : ℕ) × (i < length found) × (at found i ≡ p)

-- the numbers are those of the begun pieces with an unasked block
pub record AreOpen (groups : List ℕ) (bound : ℕ) (numbers : List ℕ) : Type 0 where
  pub bound_is : bound ≡ length groups
  pub each : (p : ℕ) → IsIn numbers p → (p < length groups) × (place_in (at groups p) ≡ place_of Open)
  pub all : (p : ℕ) → p < length groups → place_in (at groups p) ≡ place_of Open → IsIn numbers p

-- a row's part is in the sums, and there is room for the new one
pub record IsFiled (shelf : ShelfState) (before after : Amount) : Type 0 where
  pub unasked : before.unasked ≤ shelf.unasked
  pub unheld : before.unheld ≤ shelf.unheld
  pub had : one_if before.had ≤ shelf.had
  pub left : one_if before.left ≤ shelf.left
  pub unasked_fits : shelf.unasked - before.unasked + after.unasked < 2 ^ 64
  pub unheld_fits : shelf.unheld - before.unheld + after.unheld < 2 ^ 64
  pub had_fits : shelf.had - one_if before.had + one_if after.had < 2 ^ 32
  pub left_fits : shelf.left - one_if before.left + one_if after.left < 2 ^ 32

-- the shelf once a piece that stood one way stands another way
abbrev pub refiled : ShelfState → ℕ → Amount → Amount → ShelfState
refiled shelf piece before after = record {
  groups = slice_set shelf.groups piece after.group;
  unasked = shelf.unasked - before.unasked + after.unasked;
  unheld = shelf.unheld - before.unheld + after.unheld;
  had = shelf.had - one_if before.had + one_if after.had;
  left = shelf.left - one_if before.left + one_if after.left;
}

-- what is kept is what the rows amount to, and the sums fit
pub record AreShelved (shelf : ShelfState) (rows : List PieceState) : Type 0 where
  pub is : shelf ≡ shelf_of rows
  pub short : length rows < 2 ^ 32
  pub fit : sum_by (λ row. length row.blocks) rows < 2 ^ 64
