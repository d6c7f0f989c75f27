-- Rows as they are kept: what is counted of each piece, and the cells of all pieces one behind the other. No public clause of the picker
-- cites this module.
use Rattle.std.specs.Prelude.{ℕ, ◌≡◌, ◌+◌, ◌-◌, ◌*◌, ◌<◌, ◌≤◌, ◌==◌, ◌&&◌, ◌||◌, Bool, false, not, List, [], ◌∷◌, length, map, take, drop, min, slice_index_or, if◌then◌else◌}
use Rattle.bt_history.specs.declared.rules.TheConstants.{USUAL_LEVEL}
use Rattle.bt_tables.specs.declared.cell.Cell.{Cell}
use Rattle.bt_tables.specs.declared.counts.Counts.{Counts}
use Rattle.bt_tables.specs.declared.piece.Standing.{Standing}
use Rattle.bt_tables.specs.Tables.{CellState, PieceState, piece_row}
use Rattle.bt_tables.specs.Standings.{Amount, AreCounts, AreTouched, cell_kept, group_number, held_count, stage_by, touched_count, wanted_by}

-- up to which block each is held or asked, once the one at this index is, or isn't
abbrev pub passed_to : ℕ → ℕ → Bool → ℕ
passed_to first index touched = if touched then (if index == first then first + 1 else first) else min first index

-- what cells say
abbrev pub said : List Cell → List CellState
said cells = map cell_kept cells

-- the row of a piece with these counts and cells, that nobody shows
abbrev pub row_of : Counts → List CellState → PieceState
row_of counts cells = record { had = counts.had; level = counts.level; availability = 0; blocks = cells }

-- the rows of pieces that have so many cells each, but for the last, which has what is left
abbrev pub rows_of : ℕ → List Counts → List Cell → List PieceState
rows_of width [] cells = []
rows_of width (c ∷ counts) cells = row_of c (said (take width cells)) ∷ rows_of width counts (drop width cells)

-- the counts of a piece of the usual level of which no block is held or asked
abbrev pub no_counts : Counts
no_counts = record { had = false; level = USUAL_LEVEL; held = 0; touched = 0; first = 0 }

-- a piece that stands so is wanted and unbegun
abbrev pub is_fresh_by : Standing → Bool
is_fresh_by s = not (s.had || (s.level == 0)) && (s.touched == 0)

-- what a piece amounts to that stands so
abbrev pub amount_of : Standing → Amount
amount_of s = record {
  group = group_number s.level (stage_by s.had s.level s.touched s.blocks s.shown_by);
  unasked = wanted_by s.level s.blocks - s.touched;
  unheld = wanted_by s.level s.blocks - s.held;
  had = s.had;
  left = not (s.had || (s.level == 0));
}

-- the counts of piece p
abbrev pub counts_at : List Counts → ℕ → Counts
counts_at counts p = slice_index_or counts p no_counts

-- the counts are those of the row
pub record AreOf (counts : Counts) (row : PieceState) : Type 0 where
  pub had : counts.had ≡ row.had
  pub level : counts.level ≡ row.level
  pub held : counts.held ≡ held_count row.blocks
  pub touched : counts.touched ≡ touched_count row.blocks

-- the counts are those of the cells
pub record Keeps (counts : Counts) (cells : List CellState) : Type 0 where
  pub are : AreCounts counts.held counts.touched cells
  pub passed : AreTouched counts.first cells

-- each piece but the last has all its cells, and each has its counts
pub record AreKept (width : ℕ) (counts : List Counts) (cells : List Cell) : Type 0 where
  pub filled : length counts * width ≤ length cells + width
  pub each : (p : ℕ) → p < length counts → Keeps (counts_at counts p) (piece_row (rows_of width counts cells) p).blocks
