-- The rows of the peers and of the pieces, and what each call makes of them. Nothing here knows a history.
use Rattle.std.specs.Prelude.{ℕ, zero, suc, ◌+◌, ◌-◌, ◌*◌, ◌/◌, ◌^◌, ◌≡◌, ◌<◌, ◌≤◌, ◌==◌, ◌&&◌, ◌||◌, Bool, true, false, not, List, [], ◌∷◌, ◌++◌}
use Rattle.std.specs.Prelude.{map, length, Option, None, Some, is_some, if◌then◌else◌, replicate, slice_index_or, slice_set, EachIndex, ⊤}
use Rattle.std.specs.List.{filter, list_any}
use Rattle.bt_meta.specs.declared.block.Block.{Block}
use Rattle.bt_meta.specs.Layout.{block_size}
use Rattle.bt_history.specs.declared.call.Reply.{Reply}
use Rattle.bt_history.specs.declared.call.Reply.TheVariants.{Request, InFlight, Cancel}
use Rattle.bt_history.specs.Counting.{count_below, table}
use Rattle.bt_history.specs.Setting.{Setting}
use Rattle.bt_history.specs.History.{stores, is_had, same_begin}
use Rattle.bt_history.specs.Legal.{place_at}
use Rattle.bt_history.specs.Peers.{has_place}
use Rattle.bt_tables.specs.declared.cell.TheConstants.{HELD}
use Rattle.bt_tables.specs.declared.peer.Dealing.{Dealing}
use Rattle.bt_tables.specs.declared.peer.Dealing.TheVariants.{Heard, Choke, Unchoke, Depth, Reach, Cancelled}
use Rattle.bt_tables.specs.declared.piece.Change.{Change}
use Rattle.bt_history.specs.declared.rules.TheConstants.{MOST_LEVEL, USUAL_LEVEL}
use Rattle.bt_tables.specs.declared.piece.Change.TheVariants.{Raise, Lower, Store, Pass, Fail, Level, Lose, Discard}

-- 1 for a test that passes
abbrev pub one_if : Bool → ℕ
one_if b = if b then 1 else 0

-- ---- a peer's row

-- what is kept of a peer; for so many blocks each of its two lines has room
pub record PeerState : Type 0 where
  pub room : ℕ
  pub joined : Bool
  pub late : Bool
  pub told : Option ℕ
  pub reach : ℕ
  pub alone : Bool
  pub is_open : Bool
  pub shows : List Bool
  pub asked : List Block
  pub overdue : List Block
  pub due : List Block

-- the row of a peer that told nothing
abbrev pub fresh_peer : ℕ → ℕ → PeerState
fresh_peer room pieces = record {
  room = room;
  joined = false;
  late = false;
  told = None;
  reach = MOST_LEVEL;
  alone = false;
  is_open = false;
  shows = replicate pieces false;
  asked = [];
  overdue = [];
  due = [];
}

-- what each call makes of the row of its peer: after Join
abbrev pub join_row : PeerState → PeerState
join_row row = record row {
  joined = true;
  late = false;
  told = None;
  reach = MOST_LEVEL;
  alone = false;
  is_open = false;
  shows = replicate (length row.shows) false;
  asked = [];
  overdue = [];
  due = [];
}

-- after Bits
abbrev pub bits_row : List Bool → PeerState → PeerState
bits_row flags row = record row { late = true; shows = flags }

-- after Have
abbrev pub have_row : ℕ → PeerState → PeerState
have_row piece row = record row { late = true; shows = slice_set row.shows piece true }

-- after Lack
abbrev pub lack_row : ℕ → PeerState → PeerState
lack_row piece row = record row {
  late = true;
  shows = slice_set row.shows piece false;
  asked = filter (λ b. not (piece == b.piece)) row.asked;
  overdue = filter (λ b. not (piece == b.piece)) row.overdue;
}

-- after Choke
abbrev pub choke_row : PeerState → PeerState
choke_row row = record row { late = true; is_open = false; asked = []; overdue = []; due = [] }

-- after Unchoke
abbrev pub unchoke_row : PeerState → PeerState
unchoke_row row = record row { late = true; is_open = true }

-- after Depth
abbrev pub depth_row : ℕ → PeerState → PeerState
depth_row n row = record row { told = Some n }

-- after Reach
abbrev pub reach_row : ℕ → PeerState → PeerState
reach_row n row = record row { reach = n }

-- after Alone
abbrev pub alone_row : Bool → PeerState → PeerState
alone_row alone row = record row { alone = alone }

-- after an arrival
abbrev pub late_row : PeerState → PeerState
late_row row = record row { late = true }

-- after Next, where block a is cancelled
abbrev pub cancel_row : Block → PeerState → PeerState
cancel_row a row = record row { due = filter (λ b. not (same_begin a b)) row.due }

-- after what came to pass with the peer, and changed nothing that it shows
abbrev pub noted_row : Dealing → PeerState → PeerState
noted_row Heard row = late_row row
noted_row Choke row = choke_row row
noted_row Unchoke row = unchoke_row row
noted_row (Depth n) row = depth_row n row
noted_row (Reach n) row = reach_row n row
noted_row (Cancelled b) row = cancel_row b row

-- after Next, where block b is asked for
abbrev pub request_row : Block → PeerState → PeerState
request_row b row = record row { asked = row.asked ++ b ∷ [] }

-- after Leave
abbrev pub leave_row : PeerState → PeerState
leave_row row = record row {
  joined = false;
  is_open = false;
  shows = replicate (length row.shows) false;
  asked = [];
  overdue = [];
  due = [];
}

-- after Late, where the block at this place is asked of the peer
abbrev pub delay_row : ℕ → ℕ → PeerState → PeerState
delay_row piece begin row = record row {
  overdue = filter (λ b. ((piece == b.piece) && (begin == b.begin)) || has_place b row.overdue) row.asked;
}

-- the blocks that the peer is asked for and isn't late with
abbrev pub prompt_line : PeerState → List Block
prompt_line row = filter (λ b. not (has_place b row.overdue)) row.asked

-- the row once the block at this place was stored: asked of the peer no more, and a cancel is due if another peer brought it
abbrev pub without_block : ℕ → ℕ → Bool → PeerState → PeerState
without_block piece begin own row = record row {
  asked = filter (λ b. not ((piece == b.piece) && (begin == b.begin))) row.asked;
  overdue = filter (λ b. not ((piece == b.piece) && (begin == b.begin))) row.overdue;
  due = row.due ++ (if own then [] else filter (λ b. (piece == b.piece) && (begin == b.begin)) row.asked);
}

-- ---- a piece's row

-- what is kept of a block: the worker whose peer brought it, if it is held, and of how many peers it is asked that aren't late with it
pub record CellState : Type 0 where
  pub sender : Option ℕ
  pub askers : ℕ

-- what is kept of a piece
pub record PieceState : Type 0 where
  pub had : Bool
  pub level : ℕ
  pub availability : ℕ
  pub blocks : List CellState

-- the cell of a block that is neither held nor asked
abbrev pub empty_cell : CellState
empty_cell = record { sender = None; askers = 0 }

-- the cell with one peer more asked for its block
abbrev pub one_more : CellState → CellState
one_more cell = record { sender = cell.sender; askers = cell.askers + 1 }

-- with one peer less
abbrev pub one_less : CellState → CellState
one_less cell = record { sender = cell.sender; askers = cell.askers - 1 }

-- no longer held
abbrev pub unheld : CellState → CellState
unheld cell = record { sender = None; askers = cell.askers }

-- the row of a piece of which nothing is known
abbrev pub fresh_piece : ℕ → PieceState
fresh_piece blocks = record { had = false; level = USUAL_LEVEL; availability = 0; blocks = replicate blocks empty_cell }

-- the row at place p, or an empty one
abbrev pub piece_row : List PieceState → ℕ → PieceState
piece_row rows p = slice_index_or rows p (fresh_piece 0)

-- the row of the list at place q, or an empty one
abbrev pub peer_row : List PeerState → ℕ → PeerState
peer_row rows q = slice_index_or rows q (fresh_peer 0 0)

-- one peer less shows the piece, if the flag is set
abbrev pub less_available : Bool → PieceState → PieceState
less_available shown row = record row { availability = row.availability - one_if shown }

-- one peer more shows it, if the flag is set
abbrev pub more_available : Bool → PieceState → PieceState
more_available shown row = record row { availability = row.availability + one_if shown }

-- the list with its element at place i changed
abbrev pub edit : {A : Type 0} → List A → ℕ → (A → A) → List A
edit [] i f = []
edit (x ∷ xs) zero f = f x ∷ xs
edit (x ∷ xs) (suc i) f = x ∷ edit xs i f

-- the lines of the peer have room for all that is asked and due
abbrev pub HasShortLines : PeerState → Type 0
HasShortLines row = length row.asked + length row.due ≤ row.room

-- the block at this place has one peer more asked for it
abbrev pub raised : Block → List PieceState → List PieceState
raised b rows = edit rows b.piece (λ row. record row { blocks = edit row.blocks (b.begin / block_size) one_more })

-- the block was stored, brought by this worker's peer, so it is asked of nobody
abbrev pub stored_row : ℕ → ℕ → PieceState → PieceState
stored_row sender index row = record row { blocks = slice_set row.blocks index (record { sender = Some sender; askers = 0 }) }

-- the check of the piece passed
abbrev pub had_row : PieceState → PieceState
had_row row = record row { had = true }

-- the check of the piece found another hash: its blocks are lacking again
abbrev pub failed_row : PieceState → PieceState
failed_row row = record row { blocks = map unheld row.blocks }

-- the piece is lost: it isn't had, and its blocks are lacking
abbrev pub lost_row : PieceState → PieceState
lost_row row = record (failed_row row) { had = false }

-- the block was discarded: it is held no more
abbrev pub discarded_row : ℕ → PieceState → PieceState
discarded_row index row = record row { blocks = edit row.blocks index unheld }

-- the piece has this level
abbrev pub level_row : ℕ → PieceState → PieceState
level_row n row = record row { level = n }

-- what a change makes of the row
abbrev pub changed_row : Change → PieceState → PieceState
changed_row (Raise index) row = record row { blocks = edit row.blocks index one_more }
changed_row (Lower index) row = record row { blocks = edit row.blocks index one_less }
changed_row (Store index sender) row = stored_row sender index row
changed_row Pass row = had_row row
changed_row Fail row = failed_row row
changed_row (Level n) row = level_row n row
changed_row Lose row = lost_row row
changed_row (Discard index) row = discarded_row index row

-- the row has room for the change: it has the block that is asked or stored, one that is asked isn't held, and its counts fit their 32 bits
abbrev pub HasRoomOf : Change → PieceState → Type 0
HasRoomOf (Raise index) row =
    (index < length row.blocks)
    × (is_some (slice_index_or row.blocks index empty_cell).sender ≡ false)
    × ((slice_index_or row.blocks index empty_cell).askers + 1 < HELD)
HasRoomOf (Store index sender) row = (index < length row.blocks) × (sender < HELD)
HasRoomOf change row = ⊤

-- one peer less is asked for the block at this place
abbrev pub lowered : Block → List PieceState → List PieceState
lowered b rows = edit rows b.piece (λ row. record row {
  blocks = edit row.blocks (b.begin / block_size) one_less;
})

-- the blocks of a line are freed one after the other
abbrev pub lowered_by : List Block → List PieceState → List PieceState
lowered_by [] rows = rows
lowered_by (b ∷ bs) rows = lowered_by bs (lowered b rows)

-- ---- the tables

-- what contracts within the crate see of the tables
pub record TablesState : Type 0 where
  pub setting : Setting
  pub order_from : ℕ
  pub peers : List PeerState
  pub pieces : List PieceState

-- there is a cell of this block
pub record HasBlock (t : TablesState) (piece index : ℕ) : Type 0 where
  pub has_piece : piece < length t.pieces
  pub has_cell : index < length (piece_row t.pieces piece).blocks

-- the worker's peer can be asked for block b
pub record HasRoomFor (t : TablesState) (w : ℕ) (b : Block) : Type 0 where
  pub cell : HasBlock t b.piece (b.begin / block_size)
  pub free : is_some (slice_index_or (piece_row t.pieces b.piece).blocks (b.begin / block_size) empty_cell).sender ≡ false
  pub few : (slice_index_or (piece_row t.pieces b.piece).blocks (b.begin / block_size) empty_cell).askers + 1 < HELD
  pub room : length (peer_row t.peers w).asked < (peer_row t.peers w).room
  pub new : has_place b (peer_row t.peers w).asked ≡ false

-- the row of the worker's peer is changed
abbrev pub with_peer : TablesState → ℕ → (PeerState → PeerState) → TablesState
with_peer t w change = record t { peers = edit t.peers w change }

-- what was asked of the worker's peer is freed
abbrev pub released : TablesState → ℕ → TablesState
released t w = record t { pieces = lowered_by (prompt_line (peer_row t.peers w)) t.pieces }

-- the blocks of the piece that the peer is asked for and isn't late with
abbrev pub prompt_of_piece : ℕ → PeerState → List Block
prompt_of_piece piece row = filter (λ b. (piece == b.piece) && not (has_place b row.overdue)) row.asked

-- the worker's peer shows the piece no more, and is asked for none of its blocks
abbrev pub lacked : TablesState → ℕ → ℕ → TablesState
lacked t w piece =
    with_peer (record t {
      pieces = edit (lowered_by (prompt_of_piece piece (peer_row t.peers w)) t.pieces) piece
          (less_available (slice_index_or (peer_row t.peers w).shows piece false));
    }) w (lack_row piece)

-- the peer is late with the block at this place
abbrev pub is_late_at : ℕ → ℕ → PeerState → Bool
is_late_at piece begin row = list_any (λ b. (piece == b.piece) && (begin == b.begin)) row.overdue

-- the block that begins there is expected from the worker's peer no more: where that was late with it, it wasn't before
abbrev pub unexpected : TablesState → ℕ → ℕ → ℕ → TablesState
unexpected t w piece begin = record t {
  pieces = if is_late_at piece begin (peer_row t.peers w) then t.pieces else lowered (place_at piece begin) t.pieces;
}

-- the block is asked of the worker's peer no more, and no cancel comes due
abbrev pub given_up : TablesState → ℕ → ℕ → ℕ → TablesState
given_up t w piece begin = with_peer (unexpected t w piece begin) w (without_block piece begin true)

-- the worker's peer is late with the block
abbrev pub delayed : TablesState → ℕ → ℕ → ℕ → TablesState
delayed t w piece begin = with_peer (unexpected t w piece begin) w (delay_row piece begin)

-- a peer that showed the pieces of the one list shows those of the other in their place
abbrev pub recounted : List PieceState → List Bool → List Bool → List PieceState
recounted rows before after = table (length rows) (λ p.
    more_available (slice_index_or after p false) (less_available (slice_index_or before p false) (piece_row rows p)))

-- the pieces of the one list and those of the other
abbrev pub joint : List Bool → List Bool → List Bool
joint flags shows = table (length shows) (λ p. slice_index_or flags p false || slice_index_or shows p false)

-- a peer shows the pieces of the list no more
abbrev pub hidden_rows : List Bool → List PieceState → List PieceState
hidden_rows flags rows = table (length rows) (λ p. less_available (slice_index_or flags p false) (piece_row rows p))

-- a peer shows the pieces of the list too
abbrev pub shown_rows : List Bool → List PieceState → List PieceState
shown_rows flags rows = table (length rows) (λ p. more_available (slice_index_or flags p false) (piece_row rows p))

-- each availability fits its 16 bits
abbrev pub AreCounted : List PieceState → Type 0
AreCounted rows = EachIndex rows (λ p. (piece_row rows p).availability < 2 ^ 16)

-- the worker's peer shows these pieces in place of those that it showed
abbrev pub reshown : TablesState → ℕ → List Bool → TablesState
reshown t w flags = record t { pieces = recounted t.pieces (peer_row t.peers w).shows flags }

-- the worker's peer shows this piece too
abbrev pub announced : TablesState → ℕ → ℕ → TablesState
announced t w piece =
    let is_new = not (slice_index_or (peer_row t.peers w).shows piece false) in
    with_peer (record t {
      pieces = edit t.pieces piece (λ row. more_available is_new (less_available false row));
    }) w (have_row piece)

-- the block is held: nobody is asked for it, and a cancel is due at each other peer that was
abbrev pub with_block : TablesState → ℕ → ℕ → ℕ → TablesState
with_block t w piece index = record t {
  peers = table (length t.peers) (λ q. without_block piece (block_size * index) (w == q) (peer_row t.peers q));
  pieces = edit t.pieces piece (stored_row w index);
}

-- the block is asked of the peer
abbrev pub with_request : TablesState → ℕ → Block → TablesState
with_request t w b = record t { peers = edit t.peers w (request_row b); pieces = raised b t.pieces }

-- what the reply makes of the tables, of Next or of a request in flight
abbrev pub after_next : TablesState → ℕ → Reply → TablesState
after_next t w (Request b) = with_request t w b
after_next t w (InFlight b) = with_request t w b
after_next t w (Cancel b) = with_peer t w (cancel_row b)
after_next t w reply = t

-- what an arrival's reply makes of them
abbrev pub after_arrival : TablesState → ℕ → ℕ → ℕ → Reply → TablesState
after_arrival t w piece begin reply =
    with_peer (if stores reply then with_block t w piece (begin / block_size) else t) w late_row

-- what a check's reply makes of them
abbrev pub after_check : TablesState → ℕ → Reply → TablesState
after_check t piece reply = record t {
  pieces = edit t.pieces piece (if is_had reply then had_row else failed_row);
}

-- the block that begins at this place is asked of the peer
abbrev pub asks_at : ℕ → ℕ → PeerState → Bool
asks_at piece begin row = list_any (λ b. (piece == b.piece) && (begin == b.begin)) row.asked

-- and the peer isn't late with it
abbrev pub expects_at : ℕ → ℕ → PeerState → Bool
expects_at piece begin row = asks_at piece begin row && not (is_late_at piece begin row)

-- as many peers are asked for the block, and aren't late with it, as its cell says
abbrev pub AreAskers : TablesState → ℕ → ℕ → Type 0
AreAskers t piece index =
    (slice_index_or (piece_row t.pieces piece).blocks index empty_cell).askers
    ≡ count_below (length t.peers) (λ q. expects_at piece (block_size * index) (peer_row t.peers q))

-- each piece has the level that the function gives it
abbrev pub levelled_by : (ℕ → ℕ) → List PieceState → List PieceState
levelled_by level rows = table (length rows) (λ p. level_row (level p) (piece_row rows p))

-- the level of a piece whose flag says whether it is wanted
abbrev pub wanted_level : List Bool → ℕ → ℕ
wanted_level flags p = if slice_index_or flags p false then USUAL_LEVEL else 0

-- the tables once each piece has such a level
abbrev pub relevelled : TablesState → (ℕ → ℕ) → TablesState
relevelled t level = record t { pieces = levelled_by level t.pieces }

-- and once one piece has
abbrev pub levelled : TablesState → ℕ → ℕ → TablesState
levelled t piece n = record t { pieces = edit t.pieces piece (level_row n) }

-- once one piece is lost
abbrev pub lost : TablesState → ℕ → TablesState
lost t piece = record t { pieces = edit t.pieces piece lost_row }

-- once the block that begins there is discarded
abbrev pub discarded : TablesState → ℕ → ℕ → TablesState
discarded t piece begin = record t { pieces = edit t.pieces piece (discarded_row (begin / block_size)) }

-- the tables once pieces of this level and of higher ones come in order
abbrev pub ordered : TablesState → ℕ → TablesState
ordered t n = record t { order_from = n }
