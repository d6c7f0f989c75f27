-- What one entry says. A history is the list of its entries, the newest first, so that a question is answered by the newest entry
-- or, where that doesn't speak of it, by the older ones.
use Rattle.std.specs.Prelude.{ℕ, ◌==◌, Bool, true, false, ◌&&◌, List, [], ◌∷◌, Option, Some, None, if◌then◌else◌}
use Rattle.bt_meta.specs.declared.block.Block.{Block}
use Rattle.bt_history.specs.declared.call.Reply.{Reply}
use Rattle.bt_history.specs.declared.call.Reply.TheVariants.{Cancel, Request, InFlight, Stored, Completed, Had, Failed, Refused}
use Rattle.bt_history.specs.declared.event.Action.{Action}
use Rattle.bt_history.specs.declared.event.Action.TheVariants.{Arrived, Settle, Lose, Discard}
use Rattle.bt_history.specs.declared.event.Event.{Event}

-- the entries of a journal as contracts see them, the newest first
abbrev pub History : Type 0
History = List Event

-- an entry counts if it was not refused
abbrev pub counts : Reply → Bool
counts (Refused reason) = false
counts reply = true

-- the call of the entry, if it counts
abbrev pub counted_call : Event → Option Action
counted_call e = if counts e.reply then Some e.action else None

-- the call of the entry, if it counts and is of worker q
abbrev pub own_call : ℕ → Event → Option Action
own_call q e = if counts e.reply && (e.worker == q) then Some e.action else None

-- both begin at the same byte of one piece
abbrev pub same_begin : Block → Block → Bool
same_begin a b = (a.piece == b.piece) && (a.begin == b.begin)

-- the arrival was stored
abbrev pub stores : Reply → Bool
stores Stored = true
stores Completed = true
stores reply = false

-- the bytes that the call brings for block b
abbrev pub bytes_for : Block → Action → Option (List ℕ)
bytes_for b (Arrived piece begin bytes) = if (piece == b.piece) && (begin == b.begin) then Some bytes else None
bytes_for b action = None

-- the bytes that the entry stored for block b
abbrev pub stored : Event → Block → Option (List ℕ)
stored e b = if stores e.reply then bytes_for b e.action else None

-- the block that the reply asks for, or that it counts as asked, if it does
abbrev pub requested_by : Reply → List Block
requested_by (Request b) = b ∷ []
requested_by (InFlight b) = b ∷ []
requested_by reply = []

-- the blocks that the entry asked of q: one, or none
abbrev pub requested : ℕ → Event → List Block
requested q e = if e.worker == q then requested_by e.reply else []

-- the reply cancels block b
abbrev pub cancelled_by : Reply → Block → Bool
cancelled_by (Cancel a) b = same_begin a b
cancelled_by reply b = false

-- the entry cancelled block b at q
abbrev pub cancelled : ℕ → Event → Block → Bool
cancelled q e b = (e.worker == q) && cancelled_by e.reply b

-- the call tells the check of piece p
abbrev pub settles : Action → ℕ → Bool
settles (Settle piece bytes) p = piece == p
settles action p = false

-- the check found another hash
abbrev pub is_failed : Reply → Bool
is_failed Failed = true
is_failed reply = false

-- the check found the hash of the piece
abbrev pub is_had : Reply → Bool
is_had Had = true
is_had reply = false

-- the call frees block b where its reply is Failed: it tells of the block, or of the whole piece
abbrev pub frees : Action → Block → Bool
frees (Settle piece bytes) b = piece == b.piece
frees (Lose piece) b = piece == b.piece
frees (Discard piece begin) b = (piece == b.piece) && (begin == b.begin)
frees action b = false

-- the entry freed block b: the check of its piece failed, the piece was lost, or the block was discarded
abbrev pub freed : Event → Block → Bool
freed e b = is_failed e.reply && frees e.action b

-- the call tells that piece p is lost
abbrev pub loses : Action → ℕ → Bool
loses (Lose piece) p = piece == p
loses action p = false

-- the entry lost piece p
abbrev pub lost : Event → ℕ → Bool
lost e p = is_failed e.reply && loses e.action p

-- the entry is a check of piece p that passed
abbrev pub passed : Event → ℕ → Bool
passed e p = is_had e.reply && settles e.action p
