-- The floors of all peers, as a row of a peer or of a piece changes.
use Rattle.std.proofs.Common.{Some, is_some, ◌≡◌, ℕ, zero, suc, ◌+◌, ◌<◌, ◌≤◌, ◌&&◌, ◌||◌, Bool, true, false, not, List, length, get_or, set}
use Rattle.std.proofs.Common.{replicate, refl, ap, sym, ◌∙◌, subst, arith, length-set, cond, ◌-◌, ◌*◌}
use Rattle.std.specs.Prelude.{slice_index_or}
use Rattle.std.proofs.lemmas.Bool.{false≢true, ne_eqb, lt-ltb, and_right, or_right}
use Rattle.std.proofs.lemmas.List.Sums.{get_or-le-sum_by}
use Rattle.std.proofs.lemmas.List.{set-get_or, get_or-set_same, get_or-set_other, get_or-replicate, length-replicate}
use Rattle.bt_tables.specs.Orders.{at}
use Rattle.bt_tables.specs.Tables.{CellState, PeerState, PieceState, changed_row, edit, empty_cell, fresh_peer, fresh_piece, have_row, one_if}
use Rattle.bt_tables.specs.Tables.{less_available, more_available, one_more, peer_row, piece_row, recounted, stored_row}
use Rattle.bt_tables.specs.declared.piece.Change.TheVariants.{Raise}
use Rattle.bt_tables.specs.Standings.{is_resting, is_touched, touched_count}
use Rattle.bt_tables.proofs.Tabled.{edit_none, edit_read, get_or_edit_other, get_or_edit_same, get_or_table, length_edit, length_table}
use Rattle.bt_tables.specs.Floors.{AreFloors, AreFloorsBeside, AreLowered, IsFloor, is_fresh, rank_of_row}
use mathlib.Core.Logic.{dite}
use native.Mathlib.Decide.{ℕ_discrete}

-- ---- no floor at all

pub no_floor : (rows : List PieceState) (peer : PeerState) → IsFloor rows peer 0
no_floor rows peer p lp shown fresh = omega arith

pub no_floors : (n : ℕ) (peers : List PeerState) (rows : List PieceState) → length peers ≡ n → AreFloors (replicate n 0) peers rows
no_floors n peers rows is = record {
  len = length-replicate n 0 ∙ sym is;
  each = λ q lq p lp shown fresh. (let none : at (replicate n 0) q ≡ 0 = get_or-replicate n q 0 0 (omega (arith, is, lq)) in omega (arith, none));
}

-- ---- a peer's row changes

-- its floor is another one, which holds of the new row
pub new_floor : (floors : List ℕ) (peers : List PeerState) (rows : List PieceState) (w n : ℕ) (change : PeerState → PeerState)
    → AreFloors floors peers rows → w < length peers → IsFloor rows (change (peer_row peers w)) n
    → AreFloors (set floors w n) (edit peers w change) rows
new_floor floors peers rows w n change are lw here = record {
  len = length-set floors w n ∙ (are.len ∙ sym (length_edit peers w change));
  each = λ q lq. (let within : q < length peers = omega (arith, lq, length_edit peers w change) in dite (ℕ_discrete q w)
      (λ same. subst (λ (m : ℕ). IsFloor rows (peer_row (edit peers w change) m) (at (set floors w n) m)) (sym same)
      (subst (λ (r : PeerState). IsFloor rows r (at (set floors w n) w)) (sym (get_or_edit_same peers w change (fresh_peer 0 0) lw))
      (subst (IsFloor rows (change (peer_row peers w))) (sym (get_or-set_same floors w n 0 (omega (arith, are.len, lw)))) here)))
      (λ other. subst (λ (r : PeerState). IsFloor rows r (at (set floors w n) q)) (sym (get_or_edit_other peers w q change (fresh_peer 0 0) other))
      (subst (IsFloor rows (peer_row peers q)) (sym (get_or-set_other floors w q n 0 other)) (are.each q within))));
}

-- its floor holds of the new row too
pub edit_peer : (floors : List ℕ) (peers : List PeerState) (rows : List PieceState) (w : ℕ) (change : PeerState → PeerState)
    → AreFloors floors peers rows → w < length peers
    → (IsFloor rows (peer_row peers w) (at floors w) → IsFloor rows (change (peer_row peers w)) (at floors w))
    → AreFloors floors (edit peers w change) rows
edit_peer floors peers rows w change are lw keeps =
    subst (λ (fs : List ℕ). AreFloors fs (edit peers w change) rows) (set-get_or floors w 0)
    (new_floor floors peers rows w (at floors w) change are lw (keeps (are.each w lw)))

-- a floor alone is another
pub raise_floor : (floors : List ℕ) (peers : List PeerState) (rows : List PieceState) (w n : ℕ) → AreFloors floors peers rows → w < length peers
    → IsFloor rows (peer_row peers w) n → AreFloors (set floors w n) peers rows
raise_floor floors peers rows w n are lw here =
    subst (λ (l : List PeerState). AreFloors (set floors w n) l rows) (edit_none peers w (λ row. row) (λ row. refl))
    (new_floor floors peers rows w n (λ row. row) are lw here)

-- a peer that shows nothing has any floor
pub shows_none : (rows : List PieceState) (row : PeerState) (k n : ℕ) → row.shows ≡ replicate k false → IsFloor rows row n
shows_none rows row k n none p lp shown fresh = absurd (false≢true
    (sym (ap (λ (flags : List Bool). slice_index_or flags p false) none ∙ clear k p) ∙ shown)) where
      clear : (m i : ℕ) → slice_index_or (replicate m false) i false ≡ false
      clear zero i = refl
      clear (suc m) zero = refl
      clear (suc m) (suc i) = clear m i

-- the floors are of what the peers show alone
pub same_shows : (floors : List ℕ) (peers now : List PeerState) (rows : List PieceState) → AreFloors floors peers rows → length now ≡ length peers
    → ((q : ℕ) → q < length peers → (peer_row now q).shows ≡ (peer_row peers q).shows) → AreFloors floors now rows
same_shows floors peers now rows are len same = record {
  len = are.len ∙ sym len;
  each = λ q lq p lp shown fresh. (let within : q < length peers = omega (arith, lq, len) in
      are.each q within p lp (ap (λ (flags : List Bool). slice_index_or flags p false) (sym (same q within)) ∙ shown) fresh);
}

-- ---- a piece's row changes

pub set_piece : (floors : List ℕ) (peers : List PeerState) (rows : List PieceState) (p : ℕ) (row : PieceState) → AreFloors floors peers rows →
    p < length rows
    → (is_fresh row ≡ true → (is_fresh (piece_row rows p) ≡ true) × (rank_of_row (piece_row rows p) ≤ rank_of_row row)) →
    AreFloors floors peers (set rows p row)
set_piece floors peers rows p row are lp grows = record {
  len = are.len;
  each = λ q lq r lr shown fresh. dite (ℕ_discrete r p)
      (λ same.
      let now : piece_row (set rows p row) r ≡ row = ap (piece_row (set rows p row)) same ∙ get_or-set_same rows p row (fresh_piece 0) lp in
      let more = grows (ap is_fresh (sym now) ∙ fresh) in
      let low = are.each q lq p lp (ap (λ (m : ℕ). slice_index_or (peer_row peers q).shows m false) (sym same) ∙ shown) more.0 in
      let is = ap rank_of_row now in
      omega (arith, low, more.1, is))
      (λ other.
      let now : piece_row (set rows p row) r ≡ piece_row rows r = get_or-set_other rows p r row (fresh_piece 0) other in
      let low = are.each q lq r (omega (arith, lr, length-set rows p row)) shown (ap is_fresh (sym now) ∙ fresh) in
      let is = ap rank_of_row now in
      omega (arith, low, is));
}

pub edit_piece : (floors : List ℕ) (peers : List PeerState) (rows : List PieceState) (p : ℕ) (f : PieceState → PieceState) →
    AreFloors floors peers rows → p < length rows
    → (is_fresh (f (piece_row rows p)) ≡ true → (is_fresh (piece_row rows p) ≡ true) ×
    (rank_of_row (piece_row rows p) ≤ rank_of_row (f (piece_row rows p))))
    → AreFloors floors peers (edit rows p f)
edit_piece floors peers rows p f are lp grows =
    subst (AreFloors floors peers) (edit_read rows p f (piece_row rows p) (fresh_piece 0) lp refl)
    (set_piece floors peers rows p (f (piece_row rows p)) are lp grows)

pub edit_stale : (floors : List ℕ) (peers : List PeerState) (rows : List PieceState) (p : ℕ) (f : PieceState → PieceState) →
    AreFloors floors peers rows → p < length rows
    → is_fresh (f (piece_row rows p)) ≡ false → AreFloors floors peers (edit rows p f)
edit_stale floors peers rows p f are lp stale = edit_piece floors peers rows p f are lp (λ fresh. absurd (false≢true (sym stale ∙ fresh)))

-- a piece with a block that is held or asked isn't fresh
touched_stale : (row : PieceState) (i : ℕ) → i < length row.blocks → is_touched (get_or row.blocks i empty_cell) ≡ true → is_fresh row ≡ false
touched_stale row i li touched =
    let counts : Bool → ℕ = λ x. cond x 1 0 in
    let one : counts (is_touched (get_or row.blocks i empty_cell)) ≡ 1 = ap counts touched in
    let part = get_or-le-sum_by (λ (c : CellState). cond (is_touched c) 1 0) row.blocks i empty_cell li in
    ap (λ (x : Bool). not (is_resting row) && x) (ne_eqb (touched_count row.blocks) 0 (λ none. omega (arith, one, part, none)))
    ∙ and_right (not (is_resting row)) false refl

pub raised_stale : (row : PieceState) (i : ℕ) → i < length row.blocks → is_fresh (changed_row (Raise i) row) ≡ false
raised_stale row i li =
    let cell = get_or row.blocks i empty_cell in
    let is : set row.blocks i (one_more cell) ≡ edit row.blocks i one_more = edit_read row.blocks i one_more cell empty_cell li refl in
    let here : get_or (edit row.blocks i one_more) i empty_cell ≡ one_more cell =
    ap (λ (cells : List CellState). get_or cells i empty_cell) (sym is) ∙ get_or-set_same row.blocks i (one_more cell) empty_cell li in
    touched_stale (changed_row (Raise i) row) i (omega (arith, li, ap length is, length-set row.blocks i (one_more cell)))
    (ap is_touched here ∙ (ap (λ (x : Bool). is_some cell.sender || x) (lt-ltb 0 (cell.askers + 1) (omega arith)) ∙
    or_right (is_some cell.sender) true refl))

pub stored_stale : (row : PieceState) (sender i : ℕ) → i < length row.blocks → is_fresh (stored_row sender i row) ≡ false
stored_stale row sender i li =
    let cell : CellState = record { sender = Some sender; askers = 0 } in
    touched_stale (stored_row sender i row) i (omega (arith, li, length-set row.blocks i cell))
    (ap is_touched (get_or-set_same row.blocks i cell empty_cell li))

-- ---- a peer's row as the calls change it

-- its lines of blocks change, and not what it shows
pub kept_peer : (floors : List ℕ) (peers : List PeerState) (rows : List PieceState) (w : ℕ) (change : PeerState → PeerState)
    → AreFloors floors peers rows → w < length peers → ((row : PeerState) → (change row).shows ≡ row.shows)
    → AreFloors floors (edit peers w change) rows
kept_peer floors peers rows w change are lw same = edit_peer floors peers rows w change are lw
    (λ floor p lp shown fresh. floor p lp (ap (λ (flags : List Bool). slice_index_or flags p false) (sym (same (peer_row peers w))) ∙ shown) fresh)

-- it shows nothing
pub silent_peer : (floors : List ℕ) (peers : List PeerState) (rows : List PieceState) (w : ℕ) (change : PeerState → PeerState)
    → AreFloors floors peers rows → w < length peers → ((row : PeerState) → (change row).shows ≡ replicate (length row.shows) false)
    → AreFloors floors (edit peers w change) rows
silent_peer floors peers rows w change are lw none = edit_peer floors peers rows w change are lw
    (λ floor. shows_none rows (change (peer_row peers w)) (length (peer_row peers w).shows) (at floors w) (none (peer_row peers w)))

-- a fresh piece that is shown too may lower the floor
pub have_floor : (rows : List PieceState) (row : PeerState) (p n : ℕ) → (is_fresh (piece_row rows p) ≡ true → n ≤ rank_of_row (piece_row rows p)) →
    IsFloor rows row n
    → IsFloor rows (have_row p row) n
have_floor rows row p n low floor r lr shown fresh = dite (ℕ_discrete r p)
    (λ same. subst (λ (m : ℕ). n ≤ rank_of_row (piece_row rows m)) (sym same) (low (ap (λ (m : ℕ). is_fresh (piece_row rows m)) (sym same) ∙ fresh)))
    (λ other. floor r lr (sym (get_or-set_other row.shows p r true false other) ∙ shown) fresh)

pub less_floor : (rows : List PieceState) (row : PeerState) (n m : ℕ) → m ≤ n → IsFloor rows row n → IsFloor rows row m
less_floor rows row n m le floor p lp shown fresh = (let low = floor p lp shown fresh in omega (arith, low, le))

-- a piece that one peer more shows, or none, ranks no farther in front
pub farther : (row : PieceState) (x : Bool) → rank_of_row row ≤ rank_of_row (more_available x (less_available false row))
farther row true = omega arith
farther row false = omega arith

-- ---- a piece is unbegun that wasn't

-- where one row changes the floors are of the others as before
pub edit_beside : (floors : List ℕ) (peers : List PeerState) (rows : List PieceState) (p : ℕ) (f : PieceState → PieceState) →
    AreFloors floors peers rows → AreFloorsBeside p floors peers (edit rows p f)
edit_beside floors peers rows p f are = record {
  len = are.len;
  each = λ q lq r other lr shown fresh.
      let now : piece_row (edit rows p f) r ≡ piece_row rows r = get_or_edit_other rows p r f (fresh_piece 0) other in
      let low = are.each q lq r (omega (arith, lr, length_edit rows p f)) shown (ap is_fresh (sym now) ∙ fresh) in
      let is = ap rank_of_row now in
      omega (arith, low, is);
}

-- they are of all, where the one isn't fresh, or where each peer that shows it has a floor that is low enough
pub stale_beside : (floors : List ℕ) (peers : List PeerState) (rows : List PieceState) (p : ℕ) → AreFloorsBeside p floors peers rows
    → is_fresh (piece_row rows p) ≡ false → AreFloors floors peers rows
stale_beside floors peers rows p beside stale = record {
  len = beside.len;
  each = λ q lq r lr shown fresh. dite (ℕ_discrete r p)
      (λ same. absurd (false≢true (sym (ap (λ (m : ℕ). is_fresh (piece_row rows m)) same ∙ stale) ∙ fresh)))
      (λ other. beside.each q lq r other lr shown fresh);
}

pub lowered_beside : (floors now : List ℕ) (peers : List PeerState) (rows : List PieceState) (p : ℕ) → AreFloorsBeside p floors peers rows
    → AreLowered floors now peers (length peers) p (rank_of_row (piece_row rows p)) → AreFloors now peers rows
lowered_beside floors now peers rows p beside low = record {
  len = low.len ∙ beside.len;
  each = λ q lq r lr shown fresh. dite (ℕ_discrete r p)
      (λ same.
      let most = low.shown q lq (ap (λ (m : ℕ). slice_index_or (peer_row peers q).shows m false) (sym same) ∙ shown) in
      let is = ap (λ (m : ℕ). rank_of_row (piece_row rows m)) same in
      omega (arith, most, is))
      (λ other. (let least = beside.each q lq r other lr shown fresh in omega (arith, least, low.most q)));
}

-- ---- one peer less may show each piece

pub eased_floors : (floors now : List ℕ) (peers : List PeerState) (rows : List PieceState) (before after : List Bool) → AreFloors floors peers rows
    → length now ≡ length floors → ((q : ℕ) → q < length floors → at now q ≡ at floors q - 1) → AreFloors now peers (recounted rows before after)
eased_floors floors now peers rows before after are len less = record {
  len = len ∙ are.len;
  each = λ q lq p lp shown fresh.
      let x = slice_index_or after p false in
      let y = slice_index_or before p false in
      let within : p < length rows = omega (arith, lp, length_table (length rows) (reseen rows before after)) in
      let row : piece_row (recounted rows before after) p ≡ more_available x (less_available y (piece_row rows p)) =
      get_or_table (length rows) (reseen rows before after) p (fresh_piece 0) within in
      let low = are.each q lq p within shown (ap is_fresh (sym row) ∙ fresh) in
      one_less_at (at floors q) (piece_row rows p).level (piece_row rows p).availability x y (at now q) _ (less q (omega (arith, lq, are.len)))
      (ap rank_of_row row) low;
} where
  reseen : List PieceState → List Bool → List Bool → ℕ → PieceState
  reseen rows before after p = more_available (slice_index_or after p false) (less_available (slice_index_or before p false) (piece_row rows p))

  one_less_at : (n l a : ℕ) (x y : Bool) (m b : ℕ) → m ≡ n - 1 → b ≡ (7 - l) * 65536 + (a - one_if y + one_if x) → n ≤ (7 - l) * 65536 + a → m ≤ b
  one_less_at n l a true true m b is sum low = omega (arith, is, sum, low)
  one_less_at n l a true false m b is sum low = omega (arith, is, sum, low)
  one_less_at n l a false true m b is sum low = omega (arith, is, sum, low)
  one_less_at n l a false false m b is sum low = omega (arith, is, sum, low)
