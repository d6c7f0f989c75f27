-- From which level, and from how few peers on, the search for a rarest piece has to look. No public clause of the picker cites this module.
use Rattle.std.specs.Prelude.{ℕ, ◌+◌, ◌-◌, ◌*◌, ◌≡◌, ◌≢◌, ◌<◌, ◌≤◌, ◌==◌, ◌&&◌, ◌⊎◌, ⊤, Bool, true, false, not, List, length, map, nat_le, slice_index_or}
use Rattle.bt_tables.specs.Orders.{at}
use Rattle.std.specs.List.{count_by}
use Rattle.bt_history.specs.declared.call.Reply.{Reply}
use Rattle.bt_history.specs.declared.call.Reply.TheVariants.{Idle, NothingLeft, Request}
use Rattle.bt_tables.specs.Tables.{PeerState, PieceState, TablesState, peer_row, piece_row}
use Rattle.bt_tables.specs.Risings.{Rises}
use Rattle.bt_tables.specs.Standings.{ListsOpen, group_of_row, is_resting, touched_count}
use Rattle.bt_history.specs.declared.rules.TheConstants.{MOST_LEVEL}
use Rattle.bt_tables.specs.declared.piece.TheConstants.{RANKS}

-- the piece is wanted and unbegun
abbrev pub is_fresh : PieceState → Bool
is_fresh row = not (is_resting row) && (touched_count row.blocks == 0)

-- no piece before this one is wanted and unbegun
abbrev pub NoneFresh : ℕ → List PieceState → Type 0
NoneFresh front rows = (p : ℕ) → p < front → p < length rows → is_fresh (piece_row rows p) ≡ false

-- how a piece ranks among the unbegun ones: by its level, the highest first, and then by how many peers show it
abbrev pub rank_of_row : PieceState → ℕ
rank_of_row row = (MOST_LEVEL - row.level) * RANKS + row.availability

-- each unbegun wanted piece that the peer shows ranks so far behind, or farther
abbrev pub IsFloor : List PieceState → PeerState → ℕ → Type 0
IsFloor rows peer n = (p : ℕ) → p < length rows → slice_index_or peer.shows p false ≡ true → is_fresh (piece_row rows p) ≡ true
    → n ≤ rank_of_row (piece_row rows p)

-- there is such a number for each peer
pub record AreFloors (floors : List ℕ) (peers : List PeerState) (rows : List PieceState) : Type 0 where
  pub len : length floors ≡ length peers
  pub each : (q : ℕ) → q < length peers → IsFloor rows (peer_row peers q) (at floors q)

-- the same, but for one piece, of which nothing is said
abbrev pub IsFloorBeside : ℕ → List PieceState → PeerState → ℕ → Type 0
IsFloorBeside piece rows peer n = (p : ℕ) → p ≢ piece → p < length rows → slice_index_or peer.shows p false ≡ true
    → is_fresh (piece_row rows p) ≡ true → n ≤ rank_of_row (piece_row rows p)

-- there is such a number for each peer
pub record AreFloorsBeside (piece : ℕ) (floors : List ℕ) (peers : List PeerState) (rows : List PieceState) : Type 0 where
  pub len : length floors ≡ length peers
  pub each : (q : ℕ) → q < length peers → IsFloorBeside piece rows (peer_row peers q) (at floors q)

-- no floor is higher than before, and of those of the first k peers that show the piece none is higher than n
pub record AreLowered (before after : List ℕ) (peers : List PeerState) (k piece n : ℕ) : Type 0 where
  pub len : length after ≡ length before
  pub most : (q : ℕ) → at after q ≤ at before q
  pub shown : (q : ℕ) → q < k → slice_index_or (peer_row peers q).shows piece false ≡ true → at after q ≤ n

-- these are the open pieces, and no more than may be before begun ones come first
pub record FewOpen (t : TablesState) (found : List ℕ) : Type 0 where
  pub lists : ListsOpen (map group_of_row t.pieces) found
  pub rise : (i j : ℕ) → Rises found i j
  pub few : length found ≤ t.setting.most_open

-- a block of the piece is asked for as one of a rarest piece: the rarest of its level come first, enough pieces are had to tell which they are, and the piece
-- begins, or begun ones don't come first
pub record AsksRarest (t : TablesState) (piece : ℕ) : Type 0 where
  pub unordered : nat_le t.order_from (piece_row t.pieces piece).level ≡ false
  pub settled : t.setting.random ≤ count_by (λ row. row.had) t.pieces
  pub within : piece < length t.pieces
  pub leads : (is_fresh (piece_row t.pieces piece) ≡ true) ⊎ ((found : List ℕ) × FewOpen t found)

-- a request for a block of the piece tells this floor: that of a rarest piece, or by the level of another
abbrev pub RequestTells : TablesState → ℕ → ℕ → Type 0
RequestTells t piece n = (AsksRarest t piece × (n ≡ rank_of_row (piece_row t.pieces piece)))
    ⊎ ((piece < length t.pieces) × (n ≡ (MOST_LEVEL - (piece_row t.pieces piece).level) * RANKS))

-- the reply to Next tells this floor: by the request, or since nothing may begin
abbrev pub TellsFloor : TablesState → Reply → ℕ → Type 0
TellsFloor t (Request b) n = RequestTells t b.piece n
TellsFloor t Idle n = ⊤
TellsFloor t NothingLeft n = ⊤
TellsFloor t reply n = ⊥
