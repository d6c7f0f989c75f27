-- What a call does, the numbers that it names tested first.
use Rattle.std.specs.Prelude.{◌≡◌, ◌≢◌, ℕ, ◌<◌, List, Bool, ◌||◌, length, true, false}
use Rattle.std.specs.declared.result.Result.{Result}
use Rattle.std.specs.declared.result.Result.TheVariants.{Ok, Err}
use Rattle.bt_meta.specs.Layout.{piece_count}
use Rattle.bt_meta.specs.WireBits.{HasSpareBit, IsSpelled, wire_len}
use Rattle.bt_history.specs.declared.event.Action.{Action}
use Rattle.bt_history.specs.declared.event.Action.TheVariants.{Arrived}
use Rattle.bt_history.specs.Before.{is_loss, tells_flight}
use Rattle.bt_history.specs.declared.call.Reason.TheVariants.{NoSuchPiece, WrongLength}
use Rattle.bt_history.specs.declared.call.Reply.TheVariants.{Failed, Had, Refused}
use Rattle.bt_history.specs.Pieces.{content}
use Rattle.bt_picker.specs.Checks.{is_right, settling, waits}
use Rattle.bt_picker.specs.Restores.{IsToldOf, Restores as Restores_at}
use Rattle.bt_picker.specs.declared.picker.restoring.Restored.{Restored}
use Rattle.bt_picker.specs.declared.picker.restoring.Restored.TheVariants as restored
use Rattle.sha1.specs.Sha1.{sha1}
use Rattle.bt_picker.specs.Positions.{DeskState, Gains}
use Rattle.bt_c.specs.declared.engine.Keeping.{Keeping}
use Rattle.bt_c.specs.declared.engine.Keeping.TheVariants.{Begun, Journal, Nothing}
use Rattle.bt_c.specs.declared.fault.Fault.{Fault}
use Rattle.bt_c.specs.declared.fault.Fault.TheVariants.{Worker, Piece, BitsLength, SpareBits, NoMemory, NotWaiting, Keeps, Begun, Room}
use Rattle.bt_c.specs.declared.held.Held.{Held}
use Rattle.bt_c.specs.Behind.{keeping, state}
use Rattle.bt_c.specs.Outcomes.{Outcome}

-- w is one of the picker's workers
abbrev pub IsWorker : DeskState → ℕ → Type 0
IsWorker d w = w < d.setting.workers

-- p is a piece of the picker's torrent
abbrev pub IsPiece : DeskState → ℕ → Type 0
IsPiece d p = p < piece_count d.setting.torrent

-- the call takes memory, where this is kept: each one of a journal, and where blocks are kept those that bring one
abbrev pub TakesMemory : Keeping → Action → Type 0
TakesMemory Nothing action = ⊥
TakesMemory Begun (Arrived p begin bytes) = Unit {0}
TakesMemory Begun action = ⊥
TakesMemory Journal action = Unit {0}

-- no journal has the call: it frees blocks with no check, or tells of a request that the picker has not made
abbrev pub is_unjournaled : Action → Bool
is_unjournaled action = is_loss action || tells_flight action

-- worker w makes this call: its reply is one that the rules allow, and the history has gained just that; or nothing changes
abbrev pub Makes : Held → DeskState → ℕ → Action → Outcome → Type 0
Makes h e w action (Ok r) = IsWorker (state h) w × Gains (state h) e (record { worker = w; action = action; reply = r })
Makes h e w action (Err Worker) = (IsWorker (state h) w → ⊥) × (e ≡ state h)
Makes h e w action (Err NoMemory) = TakesMemory (keeping h) action × IsWorker (state h) w × (e ≡ state h)
Makes h e w action (Err Keeps) = (keeping h ≡ Journal) × (is_unjournaled action ≡ true) × IsWorker (state h) w × (e ≡ state h)
Makes h e w action (Err f) = ⊥

-- worker w makes this call, which names piece p
abbrev pub MakesAt : Held → DeskState → ℕ → ℕ → Action → Outcome → Type 0
MakesAt h e w p action (Ok r) = IsPiece (state h) p × Makes h e w action (Ok r)
MakesAt h e w p action (Err Worker) = Makes h e w action (Err Worker)
MakesAt h e w p action (Err Piece) = IsWorker (state h) w × (IsPiece (state h) p → ⊥) × (e ≡ state h)
MakesAt h e w p action (Err NoMemory) = IsPiece (state h) p × Makes h e w action (Err NoMemory)
MakesAt h e w p action (Err Keeps) = IsPiece (state h) p × Makes h e w action (Err Keeps)
MakesAt h e w p action (Err f) = ⊥

-- worker w makes a call with the flags that the bytes spell, as a `bitfield` message does; or nothing changes. The flags take memory
abbrev pub MakesFlags : Held → DeskState → ℕ → List ℕ → (List Bool → Action) → Outcome → Type 0
MakesFlags h e w bytes action (Ok r) = (flags : List Bool)
    × (length flags ≡ piece_count (state h).setting.torrent) × IsSpelled flags bytes × Makes h e w (action flags) (Ok r)
MakesFlags h e w bytes action (Err Worker) = (IsWorker (state h) w → ⊥) × (e ≡ state h)
MakesFlags h e w bytes action (Err BitsLength) =
    IsWorker (state h) w × (length bytes ≢ wire_len (piece_count (state h).setting.torrent)) × (e ≡ state h)
MakesFlags h e w bytes action (Err SpareBits) = IsWorker (state h) w
    × (length bytes ≡ wire_len (piece_count (state h).setting.torrent))
    × HasSpareBit bytes (piece_count (state h).setting.torrent) × (e ≡ state h)
MakesFlags h e w bytes action (Err NoMemory) = IsWorker (state h) w × (e ≡ state h)
MakesFlags h e w bytes action (Err f) = ⊥

-- the flags that the bytes spell for so many pieces, or why they spell none
abbrev pub Spelling : ℕ → List ℕ → Result (List Bool) Fault → Type 0
Spelling pieces bytes (Ok flags) = (length flags ≡ pieces) × IsSpelled flags bytes
Spelling pieces bytes (Err BitsLength) = length bytes ≢ wire_len pieces
Spelling pieces bytes (Err SpareBits) = (length bytes ≡ wire_len pieces) × HasSpareBit bytes pieces
Spelling pieces bytes (Err NoMemory) = Unit {0}
Spelling pieces bytes (Err f) = ⊥

-- a piece that waits is settled by what is held of it, where the picker keeps this; or nothing changes. The entry is worker 0's
abbrev pub Settles : Keeping → Held → DeskState → ℕ → Outcome → Type 0
Settles kept h e p (Ok r) = (keeping h ≡ kept) × (waits (state h).setting (state h).history p ≡ true)
    × Gains (state h) e (settling (state h).setting (state h).history 0 p r)
Settles kept h e p (Err Keeps) = (keeping h ≢ kept) × (e ≡ state h)
Settles kept h e p (Err Piece) = (keeping h ≡ kept) × (IsPiece (state h) p → ⊥) × (e ≡ state h)
Settles kept h e p (Err NotWaiting) = (keeping h ≡ kept) × IsPiece (state h) p
    × (waits (state h).setting (state h).history p ≡ false) × (e ≡ state h)
Settles kept h e p (Err NoMemory) = (kept ≢ Nothing) × (keeping h ≡ kept) × (e ≡ state h)
Settles kept h e p (Err f) = ⊥

-- the digest is that of what arrived of piece p, where this waits at a picker that keeps nothing
abbrev pub Vouches : Held → ℕ → List ℕ → Type 0
Vouches h p digest = keeping h ≡ Nothing → waits (state h).setting (state h).history p ≡ true
    → digest ≡ sha1 (content (state h).setting (state h).history p)

-- it is said of what arrived of piece p whether it has the metainfo's hash, where this waits at a picker that keeps nothing
abbrev pub VouchesThat : Held → ℕ → Bool → Type 0
VouchesThat h p passed = keeping h ≡ Nothing → waits (state h).setting (state h).history p ≡ true
    → passed ≡ is_right (state h).setting (state h).history p

-- worker w's peer brought a block, of which a picker that keeps nothing is told the length; or nothing changes
abbrev pub Receives : Held → DeskState → ℕ → ℕ → ℕ → List ℕ → Outcome → Type 0
Receives h e w p begin bytes (Err Keeps) = (keeping h ≢ Nothing) × (e ≡ state h)
Receives h e w p begin bytes o = (keeping h ≡ Nothing) × MakesAt h e w p (Arrived p begin bytes) o

-- these are as many bytes as piece p has, and it is said whether they have the metainfo's hash, where the picker keeps nothing
abbrev pub VouchesWhole : Held → ℕ → List ℕ → Bool → Type 0
VouchesWhole h p bytes passed = keeping h ≡ Nothing → IsPiece (state h) p → IsToldOf (state h).setting.torrent p bytes passed

-- the digest is that of the bytes, where the picker keeps nothing
abbrev pub VouchesFor : Held → List ℕ → List ℕ → Type 0
VouchesFor h bytes digest = keeping h ≡ Nothing → digest ≡ sha1 bytes

-- what comes of a restore, as a reply or a fault
abbrev pub outcome_of : Restored → Outcome
outcome_of restored.Had = Ok Had
outcome_of restored.Failed = Ok Failed
outcome_of restored.Begun = Err Begun
outcome_of (restored.Refused NoSuchPiece) = Err Piece
outcome_of (restored.Refused WrongLength) = Err Room
outcome_of (restored.Refused reason) = Ok (Refused reason)

-- a whole piece is there, which worker w's peer brings to a picker that keeps nothing; or nothing changes
abbrev pub Restores : Held → DeskState → ℕ → ℕ → List ℕ → Outcome → Type 0
Restores h e w p bytes (Err Keeps) = (keeping h ≢ Nothing) × (e ≡ state h)
Restores h e w p bytes (Err Worker) = (keeping h ≡ Nothing) × (IsWorker (state h) w → ⊥) × (e ≡ state h)
Restores h e w p bytes o = (keeping h ≡ Nothing) × IsWorker (state h) w
    × ((r : Restored) × Restores_at (state h) e w p bytes r × (o ≡ outcome_of r))
