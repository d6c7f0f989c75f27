-- What the seats of a board know, and the story that all of them tell with its words.
use Rattle.std.specs.Prelude.{◌≡◌, ◌⊎◌, ◌<◌, ◌+◌, ◌/◌, ◌%◌, ℕ, List, [], ◌∷◌, ◌++◌, length, slice_index}
use Rattle.std.specs.Int.{bit_at}
use mathlib.Core.Option.{some}
use lib.ListN.{get_elem?}
use Rattle.bt_meta.specs.Layout.{Layout, hash_of, piece_count}
use Rattle.sha1.specs.Sha1.{sha1}
use Rattle.bt_board.specs.declared.view.Mark.{Mark}
use Rattle.bt_board.specs.declared.view.Load.{Load}
use Rattle.bt_board.specs.declared.view.BoardView.{BoardView}

-- some element of the list has P
abbrev pub Has : {A : Type 0} → (A → Type 0) → List A → Type 0
Has P [] = ⊥
Has P (x ∷ xs) = P x ⊎ Has P xs

-- each element has P
abbrev pub Each : {A : Type 0} → (A → Type 0) → List A → Type 0
Each P [] = Unit {0}
Each P (x ∷ xs) = P x × Each P xs

-- a word has the bits of 64 pieces
abbrev pub words_of : ℕ → ℕ
words_of pieces = (pieces + 63) / 64

-- the bit of the piece p is 1
abbrev pub IsSet : List ℕ → ℕ → Type 0
IsSet words p = bit_at (slice_index words (p / 64)) (p % 64) ≡ 1

-- the piece was marked, with these bytes
abbrev pub mark : ℕ → List ℕ → Mark
mark piece bytes = record { piece = piece; bytes = bytes }

-- the word was loaded, and found to be this number
abbrev pub load : ℕ → ℕ → Load
load word found = record { word = word; found = found }

-- what a seat did, and the seats that it stands for
abbrev pub view : List Mark → List Load → List ℕ → BoardView
view marks loads seats = record { marks = marks; loads = loads; seats = seats }

-- the view with one more mark
abbrev pub with_mark : BoardView → Mark → BoardView
with_mark v m = view (v.marks ++ m ∷ []) v.loads v.seats

-- the view with one more load
abbrev pub with_load : BoardView → Load → BoardView
with_load v l = view v.marks (v.loads ++ l ∷ []) v.seats

-- loads of the words from this one on, in order, and what they found
abbrev pub loads_from : ℕ → List ℕ → List Load
loads_from word [] = []
loads_from word (n ∷ ns) = load word n ∷ loads_from (word + 1) ns

-- the view of a seat whose news loaded the first words, and found these
abbrev pub with_loads : BoardView → List ℕ → BoardView
with_loads v found = view v.marks (v.loads ++ loads_from 0 found) v.seats

-- the view of a new seat
abbrev pub fresh : ℕ → BoardView
fresh seat = view [] [] (seat ∷ [])

-- what is left of the view of a seat that was joined into another
abbrev pub spent : BoardView
spent = view [] [] []

-- the seats but for the first, and the first alone
abbrev pub rest_of : List ℕ → List ℕ
rest_of [] = []
rest_of (x ∷ xs) = xs

-- the first seat alone, if there is one
abbrev pub front_of : List ℕ → List ℕ
front_of [] = []
front_of (x ∷ xs) = x ∷ []

-- the view without the first of its seats, and a new view of that seat
abbrev pub without_first : BoardView → BoardView
without_first v = view v.marks v.loads (rest_of v.seats)

-- a new view, of the first seat that this view stands for
abbrev pub first_of : BoardView → BoardView
first_of v = view [] [] (front_of v.seats)

-- what two seats have marked and loaded, and the seats that either stood for
abbrev pub both : BoardView → BoardView → BoardView
both v w = view (v.marks ++ w.marks) (v.loads ++ w.loads) (v.seats ++ w.seats)

-- the seat has marked the piece
abbrev pub Marked : BoardView → ℕ → Type 0
Marked v p = Has (λ m. m.piece ≡ p) v.marks

-- a load of the seat has found the piece's bit set
abbrev pub Loaded : BoardView → ℕ → Type 0
Loaded v p = Has (λ l. (l.word ≡ p / 64) × (bit_at l.found (p % 64) ≡ 1)) v.loads

-- the seat has seen that the piece is set: by its own mark, or by a load
abbrev pub Seen : BoardView → ℕ → Type 0
Seen v p = Marked v p ⊎ Loaded v p

-- the seat stands for the seat of this number
abbrev pub StandsFor : BoardView → ℕ → Type 0
StandsFor v seat = Has (λ s. s ≡ seat) v.seats

-- the mark is of a piece of the torrent, with bytes that have the piece's hash
abbrev pub IsProven : Layout → Mark → Type 0
IsProven t m = (m.piece < piece_count t) × (sha1 m.bytes ≡ hash_of t m.piece)

-- The story of a board's words and of the views of its seats: the set bits are the pieces that were marked, each with bytes that have its
-- hash, and each bit that a seat has seen is set
pub record Story (t : Layout) (seats : ℕ) (words : List ℕ) (views : List BoardView) : Type 0 where
  -- a bit for each piece
  pub wide : length words ≡ words_of (piece_count t)
  -- each set bit was marked
  pub marked : (p : ℕ) → IsSet words p → (i : ℕ) × (v : BoardView) × (get_elem? views i ≡ some v) × Marked v p
  -- each bit that a seat has seen, its marks among them, is set
  pub seen : (i : ℕ) (v : BoardView) → get_elem? views i ≡ some v → (p : ℕ) → Seen v p → IsSet words p
  -- each mark has bytes with the hash of its piece
  pub proven : (i : ℕ) (v : BoardView) → get_elem? views i ≡ some v → Each (IsProven t) v.marks
  -- no seat stands in two views
  pub apart : (i j : ℕ) (v w : BoardView) (s : ℕ) → get_elem? views i ≡ some v → get_elem? views j ≡ some w → StandsFor v s → StandsFor w s → i ≡ j
  -- the seats are numbered from 0
  pub below : (i : ℕ) (v : BoardView) → get_elem? views i ≡ some v → (s : ℕ) → StandsFor v s → s < seats
  -- a view that stands for no seat is empty
  pub idle : (i : ℕ) (v : BoardView) → get_elem? views i ≡ some v → v.seats ≡ [] → v ≡ spent
