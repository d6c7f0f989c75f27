-- What a seat knows, as truth values: which pieces it has seen, and which its news has given.
use Rattle.std.specs.Prelude.{ℕ, Bool, false, ◌==◌, ◌&&◌, ◌||◌, ◌/◌, ◌%◌, nat_lt, List, [], ◌∷◌, slice_index}
use Rattle.std.specs.Int.{bit_at}
use Rattle.bt_board.specs.declared.view.Mark.{Mark}
use Rattle.bt_board.specs.declared.view.Load.{Load}
use Rattle.bt_board.specs.declared.view.BoardView.{BoardView}

-- one of the marks is of this piece
abbrev pub marks_have : List Mark → ℕ → Bool
marks_have [] p = false
marks_have (m ∷ ms) p = m.piece == p || marks_have ms p

-- the load found this piece set
abbrev pub found_by : Load → ℕ → Bool
found_by l p = l.word == p / 64 && bit_at l.found (p % 64) == 1

-- one of the loads did
abbrev pub loads_have : List Load → ℕ → Bool
loads_have [] p = false
loads_have (l ∷ ls) p = found_by l p || loads_have ls p

-- p is below the number of pieces, and the seat has marked it or found it set
abbrev pub has_seen : ℕ → BoardView → ℕ → Bool
has_seen pieces v p = nat_lt p pieces && (marks_have v.marks p || loads_have v.loads p)

-- the bit of p is set
abbrev pub has_given : List ℕ → ℕ → Bool
has_given given p = bit_at (slice_index given (p / 64)) (p % 64) == 1
