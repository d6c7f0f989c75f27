-- What is kept of the peers, with the pieces that they show in a table of their own. No public clause of the picker cites this module.
use Rattle.std.specs.List.{filter}
use Rattle.std.specs.Prelude.{Option, Some, ℕ, ◌<◌, ◌≡◌, Bool, true, false, not, List, [], ◌∷◌, length, map, slice_index_or}
use Rattle.bt_meta.specs.declared.block.Block.{Block}
use Rattle.bt_meta.specs.WireBits.{IsPayload, flags_of}
use Rattle.bt_history.specs.History.{same_begin}
use Rattle.bt_tables.specs.declared.peer.Dealing.{Dealing}
use Rattle.bt_tables.specs.declared.peer.Dealing.TheVariants.{Heard, Choke, Unchoke, Depth, Reach, Cancelled}
use Rattle.bt_tables.specs.Stripes.{stripe}
use Rattle.bt_tables.specs.Tables.{PeerState}

-- what is kept of a peer beside the pieces that it shows
pub record Dealings : Type 0 where
  pub room : ℕ
  pub joined : Bool
  pub late : Bool
  pub told : Option ℕ
  pub reach : ℕ
  pub alone : Bool
  pub is_open : Bool
  pub asked : List Block
  pub overdue : List Block
  pub due : List Block

-- the row without the pieces that the peer shows
abbrev pub dealings : PeerState → Dealings
dealings row = record {
  room = row.room;
  joined = row.joined;
  late = row.late;
  told = row.told;
  reach = row.reach;
  alone = row.alone;
  is_open = row.is_open;
  asked = row.asked;
  overdue = row.overdue;
  due = row.due;
}

-- what is kept of a peer after what came to pass with it
abbrev pub noted : Dealing → Dealings → Dealings
noted Heard row = record row { late = true }
noted Choke row = record row { late = true; is_open = false; asked = []; overdue = []; due = [] }
noted Unchoke row = record row { late = true; is_open = true }
noted (Depth n) row = record row { told = Some n }
noted (Reach n) row = record row { reach = n }
noted (Cancelled a) row = record row { due = filter (λ b. not (same_begin a b)) row.due }

-- the row of a peer that shows these pieces
abbrev pub showing : List Bool → Dealings → PeerState
showing flags row = record {
  room = row.room;
  joined = row.joined;
  late = row.late;
  told = row.told;
  reach = row.reach;
  alone = row.alone;
  is_open = row.is_open;
  shows = flags;
  asked = row.asked;
  overdue = row.overdue;
  due = row.due;
}

-- the rows of all peers, each with the pieces that it shows
abbrev pub showing_rows : List Dealings → List (List Bool) → List PeerState
showing_rows [] shows = []
showing_rows (row ∷ rows) [] = []
showing_rows (row ∷ rows) (flags ∷ shows) = showing flags row ∷ showing_rows rows shows

-- no peer is late with a block
abbrev pub NoneLate : List Dealings → Type 0
NoneLate rows = (worker : ℕ) (row : Dealings) → worker < length rows → (slice_index_or rows worker row).overdue ≡ []

-- no peer works alone
abbrev pub NoneAlone : List Dealings → Type 0
NoneAlone rows = (worker : ℕ) (row : Dealings) → worker < length rows → (slice_index_or rows worker row).alone ≡ false

-- what is kept of all peers: the pieces that each shows, and no peer is late, or works alone, unless one was told to
pub record ArePeers (rows : List Dealings) (shows : List (List Bool)) (delayed apart : Bool) : Type 0 where
  pub each : length shows ≡ length rows
  pub prompt : delayed ≡ false → NoneLate rows
  pub together : apart ≡ false → NoneAlone rows

-- each flag is set
abbrev pub AreSet : List Bool → Type 0
AreSet flags = (p : ℕ) → p < length flags → slice_index_or flags p false ≡ true

-- no flag is set
abbrev pub AreUnset : List Bool → Type 0
AreUnset flags = (p : ℕ) → slice_index_or flags p false ≡ false

-- the pieces that the worker's peer shows
abbrev pub flags_at : List (List Bool) → ℕ → List Bool
flags_at shows worker = slice_index_or shows worker []

-- the pieces that rows of bytes spell, a bit each, for so many pieces
abbrev pub spelled_rows : ℕ → List (List ℕ) → List (List Bool)
spelled_rows pieces rows = map (flags_of pieces) rows

-- each row is the payload of a bitfield for so many pieces
abbrev pub ArePayloads : ℕ → List (List ℕ) → Type 0
ArePayloads pieces rows = (worker : ℕ) → worker < length rows → IsPayload pieces (stripe rows worker)

-- what is kept of the pieces that peers show: payloads, and a peer that is said to show nothing shows none
pub record AreShown (pieces : ℕ) (rows : List (List ℕ)) (empty : List Bool) : Type 0 where
  pub payloads : ArePayloads pieces rows
  pub each : length empty ≡ length rows
  pub none : (worker : ℕ) (d : Bool) → worker < length rows → slice_index_or empty worker d ≡ true → AreUnset (flags_of pieces (stripe rows worker))
