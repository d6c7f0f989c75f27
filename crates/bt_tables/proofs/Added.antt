-- The rows of a peer and of the pieces, as the peer shows those of a set too, one after the other.
use Rattle.std.proofs.Common.{◌≡◌, ℕ, ◌+◌, ◌-◌, ◌<◌, ◌≤◌, ◌||◌, Bool, true, false, not, List, length, set, ap, sym, ◌∙◌, arith, refl}
use Rattle.std.specs.Prelude.{slice_index_or}
use Rattle.bt_history.specs.Counting.{table}
use Rattle.bt_tables.specs.Tables.{PeerState, PieceState, bits_row, edit, fresh_peer, fresh_piece, have_row, joint, late_row, less_available}
use Rattle.bt_tables.specs.Tables.{more_available, one_if, peer_row, piece_row, recounted}
use Rattle.bt_tables.specs.Floors.{AreFloors, is_fresh, rank_of_row}
use Rattle.bt_tables.proofs.Tabled.{edit_none, edit_same, edit_twice, get_or_edit_same, get_or_table, length_edit, length_table, rows_edit, rows_init}
use Rattle.bt_tables.proofs.Tabled.{rows_more, same_table, upto, upto_above, rows_done}

-- a row of the table stays as it is
kept : {A : Type 0} (ys : List A) (n i : ℕ) (g f : ℕ → A) (d : A) → ys ≡ table n (upto i g f) → i < n → f i ≡ g i → ys ≡ table n (upto (i + 1) g f)
kept ys n i g f d is lt same = sym (edit_none ys i (λ x. x) (λ x. refl)) ∙ rows_edit ys n i g f (λ x. x) d is lt same

-- a peer that showed the piece, and shows it still, is counted for it as before
still_counted : (a : ℕ) (shown : Bool) → (shown ≡ true → 1 ≤ a) → a - one_if shown + one_if shown ≡ a
still_counted a false some = omega arith
still_counted a true some = (let one = some refl in omega (arith, one))

counted_still : (row : PieceState) (shown : Bool) → (shown ≡ true → 1 ≤ row.availability)
    → more_available shown (less_available shown row) ≡ row
counted_still row shown some = ap (λ (n : ℕ). record row { availability = n }) (still_counted row.availability shown some)

-- one that shows it from now on is counted once
once_counted : (a : ℕ) (shown : Bool) → (shown ≡ true → 1 ≤ a) → a - one_if false + one_if (not shown) ≡ a - one_if shown + one_if true
once_counted a false some = omega arith
once_counted a true some = (let one = some refl in omega (arith, one))

pub counted_once : (row : PieceState) (shown : Bool) → (shown ≡ true → 1 ≤ row.availability)
    → more_available (not shown) (less_available false row) ≡ more_available true (less_available shown row)
counted_once row shown some = ap (λ (n : ℕ). record row { availability = n }) (once_counted row.availability shown some)

module _ (flags shows : List Bool) where
  abbrev pub either : ℕ → Bool
  either p = slice_index_or flags p false || slice_index_or shows p false

  -- what the peer shows, once it told the pieces below n
  abbrev pub shown_upto : ℕ → List Bool
  shown_upto n = table (length shows) (upto n either (λ p. slice_index_or shows p false))

  pub shown_none : shows ≡ shown_upto 0
  shown_none = rows_init shows either false

  pub shown_more : (n : ℕ) → n < length shows → either n ≡ true → set (shown_upto n) n true ≡ shown_upto (n + 1)
  shown_more n lt told = rows_more (shown_upto n) (length shows) n either (λ p. slice_index_or shows p false) true refl lt (sym told)

  pub shown_kept : (n : ℕ) → n < length shows → either n ≡ slice_index_or shows n false → shown_upto n ≡ shown_upto (n + 1)
  shown_kept n lt same = kept (shown_upto n) (length shows) n either (λ p. slice_index_or shows p false) false refl lt (sym same)

  pub shown_all : (n : ℕ) → length shows ≤ n → shown_upto n ≡ joint flags shows
  shown_all n past = rows_done (shown_upto n) (length shows) n either (λ p. slice_index_or shows p false) refl past

  module _ (rows : List PieceState) where
    abbrev pub recounted_row : ℕ → PieceState
    recounted_row p = more_available (either p) (less_available (slice_index_or shows p false) (piece_row rows p))

    -- the pieces' rows, once the peer told the pieces below n
    abbrev pub rows_upto : ℕ → List PieceState
    rows_upto n = table (length rows) (upto n recounted_row (piece_row rows))

    pub rows_none : rows ≡ rows_upto 0
    rows_none = rows_init rows recounted_row (fresh_piece 0)

    pub rows_told : (n : ℕ) → n < length rows → either n ≡ true
        → edit (rows_upto n) n (λ row. more_available true (less_available (slice_index_or shows n false) row)) ≡ rows_upto (n + 1)
    rows_told n lt told =
        rows_edit (rows_upto n) (length rows) n recounted_row (piece_row rows)
        (λ row. more_available true (less_available (slice_index_or shows n false) row)) (fresh_piece 0) refl lt
        (ap (λ (b : Bool). more_available b (less_available (slice_index_or shows n false) (piece_row rows n))) (sym told))

    pub rows_kept : (n : ℕ) → n < length rows → slice_index_or flags n false ≡ false
        → (slice_index_or shows n false ≡ true → 1 ≤ (piece_row rows n).availability) → rows_upto n ≡ rows_upto (n + 1)
    rows_kept n lt told counted =
        kept (rows_upto n) (length rows) n recounted_row (piece_row rows) (fresh_piece 0) refl lt
        (sym (ap (λ (b : Bool). more_available (b || slice_index_or shows n false)
        (less_available (slice_index_or shows n false) (piece_row rows n))) told
        ∙ counted_still (piece_row rows n) (slice_index_or shows n false) counted))

    pub rows_all : (n : ℕ) → length rows ≤ n → length shows ≡ length rows → rows_upto n ≡ recounted rows shows (joint flags shows)
    rows_all n past same =
        rows_done (rows_upto n) (length rows) n recounted_row (piece_row rows) refl past
        ∙ same_table (length rows) recounted_row
        (λ p. more_available (slice_index_or (joint flags shows) p false) (less_available (slice_index_or shows p false) (piece_row rows p)))
        (λ k lk. ap (λ (b : Bool). more_available b (less_available (slice_index_or shows k false) (piece_row rows k)))
        (sym (get_or_table (length shows) either k false (omega (arith, lk, same)))))

    pub row_upto : (n : ℕ) → n < length rows → piece_row (rows_upto n) n ≡ piece_row rows n
    row_upto n lt = get_or_table (length rows) (upto n recounted_row (piece_row rows)) n (fresh_piece 0) lt
        ∙ upto_above n recounted_row (piece_row rows) n (omega arith)

-- a piece that is shown too is counted no less
pub no_less_jointly : (a : ℕ) (told shown : Bool) → a ≤ a - one_if shown + one_if (told || shown)
no_less_jointly a true true = omega arith
no_less_jointly a true false = omega arith
no_less_jointly a false true = omega arith
no_less_jointly a false false = omega arith

-- so the floors are of these rows too
pub joint_floors : (floors : List ℕ) (peers : List PeerState) (rows : List PieceState) (flags shows : List Bool) → AreFloors floors peers rows
    → length shows ≡ length rows → AreFloors floors peers (recounted rows shows (joint flags shows))
joint_floors floors peers rows flags shows are same = record {
  len = are.len;
  each = λ q lq p lp shown fresh.
      let reseen : ℕ → PieceState =
      λ k. more_available (slice_index_or (joint flags shows) k false) (less_available (slice_index_or shows k false) (piece_row rows k)) in
      let within : p < length rows = omega (arith, lp, length_table (length rows) reseen) in
      let row : piece_row (recounted rows shows (joint flags shows)) p ≡ recounted_row flags shows rows p =
      get_or_table (length rows) reseen p (fresh_piece 0) within
      ∙ ap (λ (b : Bool). more_available b (less_available (slice_index_or shows p false) (piece_row rows p)))
      (get_or_table (length shows) (either flags shows) p false (omega (arith, within, same))) in
      let low = are.each q lq p within shown (ap is_fresh (sym row) ∙ fresh) in
      let more = no_less_jointly (piece_row rows p).availability (slice_index_or flags p false) (slice_index_or shows p false) in
      let is = ap rank_of_row row in
      omega (arith, low, more, is);
}

-- ---- the peer's row

-- what the worker's peer shows, where its row is with these flags
pub shows_of : (peers : List PeerState) (w : ℕ) (flags : List Bool) → w < length peers
    → (peer_row (edit peers w (bits_row flags)) w).shows ≡ flags
shows_of peers w flags lt = ap (λ (r : PeerState). r.shows) (get_or_edit_same peers w (bits_row flags) (fresh_peer 0 0) lt)

-- it told something
pub late_bits : (peers : List PeerState) (w : ℕ) (flags : List Bool) → w < length peers → (peer_row peers w).shows ≡ flags
    → edit peers w late_row ≡ edit peers w (bits_row flags)
late_bits peers w flags lt is = edit_same peers w late_row (bits_row flags) (fresh_peer 0 0) lt
    (ap (λ (l : List Bool). bits_row l (peer_row peers w)) is)

-- it shows one piece more
pub have_bits : (peers : List PeerState) (w n : ℕ) (flags now : List Bool) → set flags n true ≡ now
    → edit (edit peers w (bits_row flags)) w (have_row n) ≡ edit peers w (bits_row now)
have_bits peers w n flags now is = edit_twice peers w (bits_row flags) (have_row n) ∙ ap (λ (l : List Bool). edit peers w (bits_row l)) is

-- the peer is late, and shows what it did
pub late_worker : (peers now : List PeerState) (w : ℕ) → w < length peers → now ≡ edit peers w late_row → w < length now
late_worker peers now w lt is = let long = ap length is ∙ length_edit peers w late_row in omega (arith, lt, long)

pub late_shows : (peers now : List PeerState) (w : ℕ) → w < length peers → now ≡ edit peers w late_row
    → (peer_row now w).shows ≡ (peer_row peers w).shows
late_shows peers now w lt is =
    ap (λ (l : List PeerState). (peer_row l w).shows) is ∙ ap (λ (r : PeerState). r.shows) (get_or_edit_same peers w late_row (fresh_peer 0 0) lt)

pub late_then_bits : (peers now : List PeerState) (w : ℕ) (flags : List Bool) → now ≡ edit peers w late_row
    → edit now w (bits_row flags) ≡ edit peers w (bits_row flags)
late_then_bits peers now w flags is = ap (λ (l : List PeerState). edit l w (bits_row flags)) is ∙ edit_twice peers w late_row (bits_row flags)

-- ---- the loop

-- the rows of the peers and of the pieces, once the worker's peer told the pieces below n
pub record HaveTold (flags : List Bool) (before : List PeerState) (rows : List PieceState) (w n : ℕ) (peers : List PeerState)
    (pieces : List PieceState)
    : Type 0 where
  pub pieces_are : pieces ≡ rows_upto flags (peer_row before w).shows rows n
  pub peers_are : peers ≡ edit before w (bits_row (shown_upto flags (peer_row before w).shows n))

-- it told none
pub told_none : (flags : List Bool) (peers now : List PeerState) (rows : List PieceState) (w : ℕ) → w < length peers → now ≡ edit peers w late_row
    → HaveTold flags now rows w 0 now rows
told_none flags peers now rows w lt is = record {
  pieces_are = rows_none flags (peer_row now w).shows rows;
  peers_are =
      let told = shown_none flags (peer_row now w).shows in
      is ∙ late_bits peers w (shown_upto flags (peer_row now w).shows 0) lt (sym (late_shows peers now w lt is) ∙ told)
      ∙ sym (late_then_bits peers now w (shown_upto flags (peer_row now w).shows 0) is);
}

module _ (flags : List Bool) (before : List PeerState) (rows : List PieceState) (w n : ℕ) (peers : List PeerState) (pieces : List PieceState)
    (lw : w < length before) (told : HaveTold flags before rows w n peers pieces) where
  abbrev shows : List Bool
  shows = (peer_row before w).shows

  abbrev now_shown : Bool
  now_shown = slice_index_or (peer_row peers w).shows n false

  pub told_peers : length peers ≡ length before
  told_peers = ap length told.peers_are ∙ length_edit before w (bits_row (shown_upto flags shows n))

  pub told_pieces : length pieces ≡ length rows
  told_pieces = ap length told.pieces_are ∙ length_table (length rows) (upto n (recounted_row flags shows rows) (piece_row rows))

  told_shows : (peer_row peers w).shows ≡ shown_upto flags shows n
  told_shows = ap (λ (l : List PeerState). (peer_row l w).shows) told.peers_are ∙ shows_of before w (shown_upto flags shows n) lw

  pub told_length : length (peer_row peers w).shows ≡ length shows
  told_length = ap length told_shows ∙ length_table (length shows) (upto n (either flags shows) (λ p. slice_index_or shows p false))

  pub told_row : n < length rows → piece_row pieces n ≡ piece_row rows n
  told_row lt = ap (λ (l : List PieceState). piece_row l n) told.pieces_are ∙ row_upto flags shows rows n lt

  -- what the peer shows of the next piece is what it showed before
  pub told_shown : n < length shows → now_shown ≡ slice_index_or shows n false
  told_shown lt = ap (λ (l : List Bool). slice_index_or l n false) told_shows
      ∙ (get_or_table (length shows) (upto n (either flags shows) (λ p. slice_index_or shows p false)) n false lt
      ∙ upto_above n (either flags shows) (λ p. slice_index_or shows p false) n (omega arith))

  -- it tells the next piece
  pub told_more : n < length shows → n < length rows → slice_index_or flags n false ≡ true
      → HaveTold flags before rows w (n + 1) (edit peers w (have_row n)) (edit pieces n (λ row. more_available true (less_available now_shown row)))
  told_more ls lr is =
      let either_one = ap (λ (b : Bool). b || slice_index_or shows n false) is in record {
        pieces_are = ap (λ (s : Bool). edit pieces n (λ row. more_available true (less_available s row))) (told_shown ls)
            ∙ (ap (λ (l : List PieceState). edit l n (λ row. more_available true (less_available (slice_index_or shows n false) row))) told.pieces_are
            ∙ rows_told flags shows rows n lr either_one);
        peers_are = ap (λ (l : List PeerState). edit l w (have_row n)) told.peers_are
            ∙ have_bits before w n (shown_upto flags shows n) (shown_upto flags shows (n + 1)) (shown_more flags shows n ls either_one);
      }

  -- it doesn't
  pub told_kept : n < length shows → n < length rows → slice_index_or flags n false ≡ false
      → (slice_index_or shows n false ≡ true → 1 ≤ (piece_row rows n).availability) → HaveTold flags before rows w (n + 1) peers pieces
  told_kept ls lr is counted = record {
    pieces_are = told.pieces_are ∙ rows_kept flags shows rows n lr is counted;
    peers_are = told.peers_are
        ∙ ap (λ (l : List Bool). edit before w (bits_row l)) (shown_kept flags shows n ls (ap (λ (b : Bool). b || slice_index_or shows n false) is));
  }
