-- What each atomic step tells the seat that makes it.
use Rattle.std.specs.Prelude.{◌≡◌, ◌<◌, ◌/◌, ◌%◌, ◌⊎◌, ◌↔◌, ℕ, List, slice_index}
use Rattle.std.specs.Int.{bit_at}
use Rattle.atomic_table.specs.Table.{Step, Me}
use Rattle.bt_board.specs.declared.view.Mark.{Mark}
use Rattle.bt_board.specs.declared.view.BoardView.{BoardView}
use Rattle.bt_board.specs.Story.{IsSet, Seen, load, with_load, with_mark}

-- the load of a word by a seat, of a board with so many pieces
pub record Finds (pieces : ℕ) (old : BoardView) (word value : ℕ) (new : BoardView) : Type 0 where
  -- the seat lists the load
  pub lists : new ≡ with_load old (load word value)
  -- each bit that the seat had seen was found
  pub known : (p : ℕ) → p / 64 ≡ word → Seen old p → bit_at value (p % 64) ≡ 1
  -- the bits of pieces alone are set
  pub below : (p : ℕ) → p / 64 ≡ word → bit_at value (p % 64) ≡ 1 → p < pieces

-- a word was loaded
abbrev pub Looks : {S : Type 0} → ℕ → Step S → Me S BoardView → ℕ → Me S BoardView → Type 0
Looks pieces s old found new = Finds pieces old.0 s.word found new.0 × (new.1 ≡ old.1)

-- a bit was set: the seat lists the mark
abbrev pub Announces : {S : Type 0} → Mark → Step S → Me S BoardView → ℕ → Me S BoardView → Type 0
Announces mark s old found new = (new.0 ≡ with_mark old.0 mark) × (new.1 ≡ old.1)

-- The news of one word, where `found` was loaded: each bit was given before
pub record GivesNone (word found : ℕ) (old new : List ℕ) : Type 0 where
  pub same : new ≡ old
  pub all : (i : ℕ) → bit_at found i ≡ 1 → bit_at (slice_index old word) i ≡ 1

-- or this piece is the least that wasn't, and now is
pub record Gives (word found : ℕ) (old new : List ℕ) (piece : ℕ) : Type 0 where
  pub word_is : piece / 64 ≡ word
  pub is_set : bit_at found (piece % 64) ≡ 1
  pub is_new : ¬ IsSet old piece
  pub least : (i : ℕ) → i < piece % 64 → bit_at found i ≡ 1 → bit_at (slice_index old word) i ≡ 1
  pub adds : (q : ℕ) → IsSet new q ↔ (IsSet old q ⊎ (q ≡ piece))
