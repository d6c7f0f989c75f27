-- Rows beside how many peers show each piece: what is read of both, and what a change of one leaves of the rows with these counts in them.
use Rattle.std.proofs.Common.{◌≡◌, ℕ, zero, suc, ◌+◌, ◌-◌, ◌*◌, ◌<◌, ◌≤◌, Bool, true, false, List, [], ◌∷◌, length, get_or, set, replicate, min, refl}
use Rattle.std.proofs.Common.{ap, sym, ◌∙◌, arith, inl, inr, subst, ◌==◌, ◌⊎◌, ⊎_elim}
use Rattle.std.specs.Prelude.{nat_lt, if◌then◌else◌}
use Rattle.std.proofs.lemmas.Bool.{cases_eq, cases_lt, lt-ltb, le-ltb, ne_eqb}
use Rattle.std.proofs.lemmas.List.{set-get_or, get_or-map, get_or-set_same, get_or-set_other, get_or_past, set_past, length-map, get_or_default}
use Rattle.std.proofs.lemmas.List.{get_or-replicate, length-replicate}
use Rattle.bt_history.specs.Counting.{table}
use Rattle.bt_tables.specs.Orders.{at}
use Rattle.bt_tables.specs.declared.piece.Change.{Change}
use Rattle.bt_tables.specs.declared.piece.Change.TheVariants.{Raise, Lower, Store, Pass, Fail, Level, Lose, Discard}
use Rattle.bt_tables.specs.Tables.{HasRoomOf, PieceState, changed_row, edit, fresh_piece, less_available, more_available, one_if, piece_row}
use Rattle.bt_tables.specs.Standings.{Amount, AreShelved, IsFiled, ShelfState, apart, group_of_row, is_resting, lowered_group, raised_group, refiled}
use Rattle.bt_tables.specs.Standings.{shown_row, slot_of, place_in, place_of, standing_of, touched_count, whole_rows}
use Rattle.bt_tables.specs.declared.piece.Stage.{Stage}
use Rattle.bt_tables.specs.declared.piece.Stage.TheVariants.{AskedOut, Open, Resting, Unbegun}
use Rattle.bt_tables.specs.Apart.{AreApart}
use Rattle.bt_tables.specs.declared.counts.Counts.{Counts}
use Rattle.bt_tables.specs.declared.piece.Standing.{Standing}
use Rattle.bt_tables.specs.Rows.{AreOf, amount_of}
use Rattle.bt_tables.proofs.Rowed.{amount_is}
use Rattle.bt_tables.proofs.Shelves.{can_file, files, same_length}
use Rattle.bt_tables.proofs.Tabled.{edit_set, get_or_edit_same, get_or_table, length_table, table_from}
use Rattle.bt_tables.specs.declared.piece.TheConstants.{CROWD, GROUPS, SPAN, UNBEGUN}

-- ---- the rows with the counts

pub length_whole : (rows : List PieceState) (shown : List ℕ) → length shown ≡ length rows → length (whole_rows rows shown) ≡ length rows
length_whole [] shown len = refl
length_whole (row ∷ rows) [] len = absurd (omega arith)
length_whole (row ∷ rows) (n ∷ shown) len = ap suc (length_whole rows shown (omega arith))

pub whole_at : (rows : List PieceState) (shown : List ℕ) (p : ℕ) (d r : PieceState) (e : ℕ) → length shown ≡ length rows → p < length rows
    → get_or (whole_rows rows shown) p d ≡ shown_row (get_or shown p e) (get_or rows p r)
whole_at [] shown p d r e len lp = absurd (omega arith)
whole_at (row ∷ rows) [] p d r e len lp = absurd (omega arith)
whole_at (row ∷ rows) (n ∷ shown) zero d r e len lp = refl
whole_at (row ∷ rows) (n ∷ shown) (suc p) d r e len lp = whole_at rows shown p d r e (omega arith) (omega arith)

pub whole_set : (rows : List PieceState) (shown : List ℕ) (p n : ℕ) (row : PieceState) → length shown ≡ length rows
    → whole_rows (set rows p row) (set shown p n) ≡ set (whole_rows rows shown) p (shown_row n row)
whole_set [] shown p n row len = refl
whole_set (r ∷ rows) [] p n row len = absurd (omega arith)
whole_set (r ∷ rows) (m ∷ shown) zero n row len = refl
whole_set (r ∷ rows) (m ∷ shown) (suc p) n row len = ap (λ l. shown_row m r ∷ l) (whole_set rows shown p n row (omega arith))

-- a row alone changes, and a count alone
pub whole_row : (rows : List PieceState) (shown : List ℕ) (p : ℕ) (row : PieceState) → length shown ≡ length rows
    → whole_rows (set rows p row) shown ≡ set (whole_rows rows shown) p (shown_row (at shown p) row)
whole_row rows shown p row len =
    ap (whole_rows (set rows p row)) (sym (set-get_or shown p 0)) ∙ whole_set rows shown p (at shown p) row len

pub whole_count : (rows : List PieceState) (shown : List ℕ) (p n : ℕ) → length shown ≡ length rows
    → whole_rows rows (set shown p n) ≡ set (whole_rows rows shown) p (shown_row n (piece_row rows p))
whole_count rows shown p n len =
    ap (λ (l : List PieceState). whole_rows l (set shown p n)) (sym (set-get_or rows p (fresh_piece 0))) ∙
    whole_set rows shown p n (piece_row rows p) len

-- no peer shows a piece of a torrent of which nothing is known
pub whole_fresh : (n : ℕ) (blocks : ℕ → ℕ) (rows : List PieceState) → rows ≡ table n (λ p. fresh_piece (blocks p))
    → whole_rows rows (replicate n 0) ≡ table n (λ p. fresh_piece (blocks p))
whole_fresh n blocks rows is =
    let fresh = table n (λ p. fresh_piece (blocks p)) in
    let long : length fresh ≡ n = length_table n (λ p. fresh_piece (blocks p)) in
    let same : length (replicate n 0) ≡ length fresh = length-replicate {A = ℕ} n 0 ∙ sym long in
    ap (λ (l : List PieceState). whole_rows l (replicate n 0)) is
    ∙ table_from n (λ p. fresh_piece (blocks p)) (whole_rows fresh (replicate n 0)) (length_whole fresh (replicate n 0) same ∙ long)
    (λ k d lt. whole_at fresh (replicate n 0) k d (fresh_piece 0) 0 same (omega (arith, long, lt))
    ∙ (ap (λ (m : ℕ). shown_row m (get_or fresh k (fresh_piece 0))) (get_or-replicate n k 0 0 lt)
    ∙ ap (shown_row 0) (get_or_table n (λ p. fresh_piece (blocks p)) k (fresh_piece 0) lt)))

-- ---- a change that leaves the count

pub same_room : (change : Change) (n : ℕ) (row : PieceState) → HasRoomOf change (shown_row n row) → HasRoomOf change (apart row)
same_room (Raise index) n row room = room
same_room (Store index sender) n row room = room
same_room change n row room = room

pub changed_apart : (change : Change) (n : ℕ) (row : PieceState) → shown_row n (changed_row change row) ≡ changed_row change (shown_row n row)
changed_apart (Raise index) n row = refl
changed_apart (Lower index) n row = refl
changed_apart (Store index sender) n row = refl
changed_apart Pass n row = refl
changed_apart Fail n row = refl
changed_apart (Level m) n row = refl
changed_apart Lose n row = refl
changed_apart (Discard index) n row = refl

-- ---- a count that changes: the group of the piece goes with it, and no sum

either : (b : Bool) (n : ℕ) → n ≡ (if b then n else n)
either true n = refl
either false n = refl

-- the stage of a piece by three tests: it rests, it is unbegun, and its lacking blocks are all asked
abbrev pub staged : Bool → Bool → Bool → ℕ → Stage
staged resting unbegun asked n = if resting then Resting else if unbegun then Unbegun n else if asked then AskedOut else Open

-- each stage has a place among the groups of a level
pub place_few : (stage : Stage) → place_of stage < SPAN
place_few Resting = omega arith
place_few AskedOut = omega arith
place_few Open = omega arith
place_few (Unbegun n) = omega arith

-- and no other stage has that of the open pieces
pub place_open : (stage : Stage) → place_of stage ≡ place_of Open → stage ≡ Open
place_open Resting is = absurd (omega (arith, is))
place_open AskedOut is = absurd (omega (arith, is))
place_open Open is = refl
place_open (Unbegun n) is = absurd (omega (arith, is))

-- the place of a group in the slot of a level
pub place_in_slot : (b k : ℕ) → k < SPAN → place_in (b * SPAN + k) ≡ k
place_in_slot b k lt = omega (arith, lt)

-- a group that isn't one of unbegun pieces stays
stays : (n b k : ℕ) → k < UNBEGUN → b * SPAN + k ≡ raised_group n (b * SPAN + k)
stays n b k low = rw (place_in_slot b k (omega (arith, low)), lt-ltb k UNBEGUN low) (either (nat_lt CROWD n) (b * SPAN + k))

stays_too : (n b k : ℕ) → k < UNBEGUN → b * SPAN + k ≡ lowered_group n (b * SPAN + k)
stays_too n b k low = rw (place_in_slot b k (omega (arith, low)), le-ltb UNBEGUN k (omega (arith, low))) (either (nat_lt CROWD n) (b * SPAN + k))

raised_by : (b : ℕ) (resting unbegun asked : Bool) (n : ℕ)
    → b * SPAN + place_of (staged resting unbegun asked (n + 1))
    ≡ raised_group (n + 1) (b * SPAN + place_of (staged resting unbegun asked n))
raised_by b true unbegun asked n = stays (n + 1) b 0 (omega arith)
raised_by b false false true n = stays (n + 1) b 1 (omega arith)
raised_by b false false false n = stays (n + 1) b 2 (omega arith)
raised_by b false true asked n =
    elim (cases_lt CROWD (n + 1)) [
      | inl crowd ↦ rw (lt-ltb CROWD (n + 1) crowd) (omega arith)
      | inr few ↦ rw (
        le-ltb CROWD (n + 1) few,
        place_in_slot b (UNBEGUN + min n CROWD) (omega arith),
        le-ltb (UNBEGUN + min n CROWD) UNBEGUN
            (omega arith),
      ) (omega arith)
    ]

lowered_by : (b : ℕ) (resting unbegun asked : Bool) (n : ℕ)
    → b * SPAN + place_of (staged resting unbegun asked (n - 1))
    ≡ lowered_group n (b * SPAN + place_of (staged resting unbegun asked n))
lowered_by b true unbegun asked n = stays_too n b 0 (omega arith)
lowered_by b false false true n = stays_too n b 1 (omega arith)
lowered_by b false false false n = stays_too n b 2 (omega arith)
lowered_by b false true asked n =
    elim (cases_lt CROWD n) [
      | inl crowd ↦ rw (lt-ltb CROWD n crowd) (omega arith)
      | inr few ↦ elim (cases_lt UNBEGUN (UNBEGUN + min n CROWD)) [
        | inl some ↦ rw (le-ltb CROWD n few, place_in_slot b (UNBEGUN + min n CROWD) (omega arith), lt-ltb UNBEGUN (UNBEGUN + min n CROWD) some)
            (omega arith)
        | inr none ↦ rw (le-ltb CROWD n few, place_in_slot b (UNBEGUN + min n CROWD) (omega arith), le-ltb UNBEGUN (UNBEGUN + min n CROWD) none)
            (omega arith)
      ]
    ]

-- which slot a level has
pub slot_usual : (level : ℕ) → (level ≡ 0) ⊎ (level ≡ 4) → slot_of level ≡ 0
slot_usual level (inl none) = ap slot_of none
slot_usual level (inr usual) = ap slot_of usual

pub slot_above : (level : ℕ) → 4 < level → slot_of level ≡ min level 7 - 4
slot_above level more =
    rw (ne_eqb level 0 (λ none. omega (arith, none, more)), ne_eqb level 4 (λ usual. omega (arith, usual, more)), lt-ltb 4 level more) refl

pub slot_below : (level : ℕ) → 0 < level → level < 4 → slot_of level ≡ 7 - level
slot_below level some less =
    rw (
      ne_eqb level 0 (λ none. omega (arith, none, some)),
      ne_eqb level 4 (λ usual. omega (arith, usual, less)),
      le-ltb 4 level (omega (arith, less)),
    ) refl

-- a level is usual, higher or lower
pub level_cases : (level : ℕ) → ((level ≡ 0) ⊎ (level ≡ 4)) ⊎ ((4 < level) ⊎ ((0 < level) × (level < 4)))
level_cases level = ⊎_elim
    (λ (more : 4 < level). inr (inl more))
    (λ (few : level ≤ 4). ⊎_elim
    (λ (usual : level ≡ 4). inl (inr usual))
    (λ (other : level ≡ 4 → ⊥). ⊎_elim
    (λ (none : level ≡ 0). inl (inl none))
    (λ (some : level ≡ 0 → ⊥). inr (inr (omega (arith, some), omega (arith, few, other))))
    (cases_eq level 0))
    (cases_eq level 4))
    (cases_lt 4 level)

-- a level has one of seven slots
pub slot_few : (level : ℕ) → slot_of level ≤ 6
slot_few level = ⊎_elim
    (λ (usual : (level ≡ 0) ⊎ (level ≡ 4)). omega (arith, slot_usual level usual))
    (λ rest. ⊎_elim
    (λ (more : 4 < level). omega (arith, slot_above level more, more))
    (λ (less : (0 < level) × (level < 4)). omega (arith, slot_below level less.0 less.1, less.0))
    rest)
    (level_cases level)

-- where one peer more may be counted (up to CROWD, 1025), the group behind a row's is a group too (below GROUPS, 7203)
next_room : (b : ℕ) (resting unbegun asked : Bool) (n : ℕ) → b ≤ 6 → n + 1 ≤ CROWD →
    b * SPAN + place_of (staged resting unbegun asked n) + 1 < GROUPS
next_room b true unbegun asked n low few = omega (arith, low)
next_room b false true asked n low few = omega (arith, low, few)
next_room b false false true n low few = omega (arith, low)
next_room b false false false n low few = omega (arith, low)

-- ---- what is read

-- the row of a piece is one that it can be read as
pub own_row : (rows : List PieceState) (p : ℕ) → p < length rows → piece_row rows p ≡ get_or rows p (piece_row rows p)
own_row rows p lp = get_or_default rows p (fresh_piece 0) (piece_row rows p) lp

-- a row is that of the piece but for the count
pub read_row : (rows : List PieceState) (shown : List ℕ) (p : ℕ) (row : PieceState) → length shown ≡ length rows → AreApart rows → p < length rows
    → row ≡ get_or rows p row → row ≡ apart (piece_row (whole_rows rows shown) p)
read_row rows shown p row len are lp read =
    let is : row ≡ piece_row rows p = read ∙ get_or_default rows p row (fresh_piece 0) lp in
    let none : row.availability ≡ 0 = ap (λ (r : PieceState). r.availability) is ∙ are p in
    let whole : apart (piece_row (whole_rows rows shown) p) ≡ apart row =
    ap apart (whole_at rows shown p (fresh_piece 0) row 0 len lp) ∙ ap apart (sym read) in
    (λ i. record { had = row.had; level = row.level; availability = none i; blocks = row.blocks }) ∙ sym whole

pub lent_row : (rows : List PieceState) (shown : List ℕ) (p : ℕ) (row : PieceState) → length shown ≡ length rows → AreApart rows → p < length rows
    → row ≡ piece_row rows p → row ≡ apart (piece_row (whole_rows rows shown) p)
lent_row rows shown p row len are lp is =
    is ∙ read_row rows shown p (piece_row rows p) len are lp (own_row rows p lp)

-- the rows once the row of the piece is changed, and what that row is then
pub edited_rows : (rows : List PieceState) (p : ℕ) (change : Change) → p < length rows
    → edit rows p (changed_row change) ≡ set rows p (changed_row change (piece_row rows p))
edited_rows rows p change lp = sym (edit_set rows p (changed_row change) (piece_row rows p) lp (own_row rows p lp))

pub edited_row : (rows : List PieceState) (p : ℕ) (change : Change) → p < length rows
    → piece_row (edit rows p (changed_row change)) p ≡ changed_row change (piece_row rows p)
edited_row rows p change lp = get_or_edit_same rows p (changed_row change) (fresh_piece 0) lp

pub still_apart : (rows : List PieceState) (p : ℕ) (row : PieceState) → AreApart rows → row.availability ≡ 0 → AreApart (set rows p row)
still_apart rows p row are none q =
    elim (cases_lt p (length rows)) [
      | inl within ↦ ⊎_elim
          (λ (same : q ≡ p). ap (λ (k : ℕ). (piece_row (set rows p row) k).availability) same
          ∙ (ap (λ (r : PieceState). r.availability) (get_or-set_same rows p row (fresh_piece 0) within) ∙ none))
          (λ (other : q ≡ p → ⊥). ap (λ (r : PieceState). r.availability) (get_or-set_other rows p q row (fresh_piece 0) other) ∙ are q)
          (cases_eq q p)
      | inr past ↦ ap (λ (l : List PieceState). (piece_row l q).availability) (set_past rows p row past) ∙ are q
    ]

pub fresh_apart : (n : ℕ) (blocks : ℕ → ℕ) → AreApart (table n (λ p. fresh_piece (blocks p)))
fresh_apart n blocks p =
    elim (cases_lt p n) [
      | inl within ↦ ap (λ (r : PieceState). r.availability) (get_or_table n (λ k. fresh_piece (blocks k)) p (fresh_piece 0) within)
      | inr past ↦ ap (λ (r : PieceState). r.availability)
          (get_or_past (table n (λ k. fresh_piece (blocks k))) p (fresh_piece 0) (omega (arith, length_table n (λ k. fresh_piece (blocks k)))))
    ]

same_count : (change : Change) (row : PieceState) → (changed_row change row).availability ≡ row.availability
same_count (Raise index) row = refl
same_count (Lower index) row = refl
same_count (Store index sender) row = refl
same_count Pass row = refl
same_count Fail row = refl
same_count (Level n) row = refl
same_count Lose row = refl
same_count (Discard index) row = refl

-- ---- one piece of all

-- the rows beside the counts, what is kept of both, and one piece of theirs
pub record IsKept (shelf : ShelfState) (rows : List PieceState) (shown : List ℕ) (p : ℕ) : Type 0 where
  pub are : AreShelved shelf (whole_rows rows shown)
  pub len : length shown ≡ length rows
  pub within : p < length rows

pub kept_piece : (shelf : ShelfState) (rows : List PieceState) (shown : List ℕ) (now : List PieceState) (p : ℕ) →
    AreShelved shelf (whole_rows rows shown)
    → length shown ≡ length rows → whole_rows rows shown ≡ now → p < length now → IsKept shelf rows shown p
kept_piece shelf rows shown now p are len is lp = record {
  are = are;
  len = len;
  within = omega (arith, lp, ap length is, length_whole rows shown len);
}

-- a change of the row, as it was read: how many peers show the piece, and how it stands before and after
pub record IsChange (rows : List PieceState) (shown : List ℕ) (p : ℕ) (change : Change) (m : ℕ) (before after : Amount) : Type 0 where
  pub count : m ≡ at shown p
  pub before_is : before ≡ standing_of (shown_row m (piece_row rows p))
  pub after_is : after ≡ standing_of (shown_row m (changed_row change (piece_row rows p)))

-- what the piece amounts to by its counts once it was changed
pub amount_after : (rows now : List PieceState) (p n blocks : ℕ) (change : Change) (counts : Counts) (after : Standing) → p < length rows
    → now ≡ edit rows p (changed_row change) → blocks ≡ length (piece_row rows p).blocks → AreOf counts (piece_row now p)
    → after ≡ record { had = counts.had; level = counts.level; held = counts.held; touched = counts.touched; blocks = blocks; shown_by = n }
    → amount_of after ≡ standing_of (shown_row n (piece_row now p))
amount_after rows now p n blocks change counts after lp now_is long are is =
    ap amount_of is
    ∙ amount_is counts (piece_row now p) n blocks are
    (long ∙ sym (ap (λ (l : List PieceState). length (piece_row l p).blocks) now_is
    ∙ ap (λ (r : PieceState). length r.blocks) (edited_row rows p change lp)
    ∙ same_length change (piece_row rows p)))

pub is_change : (rows now : List PieceState) (shown : List ℕ) (p : ℕ) (change : Change) (m n : ℕ) (row new : PieceState) (before after : Amount)
    → p < length rows → p < length shown → m ≡ n → n ≡ get_or shown p n → row ≡ piece_row rows p → now ≡ edit rows p (changed_row change)
    → new ≡ piece_row now p → before ≡ standing_of (shown_row m row) → after ≡ standing_of (shown_row m new)
    → IsChange rows shown p change m before after
is_change rows now shown p change m n row new before after lp ls same read row_is now_is new_is before_is after_is = record {
  count = same ∙ (read ∙ get_or_default shown p n 0 ls);
  before_is = before_is ∙ ap (λ (r : PieceState). standing_of (shown_row m r)) row_is;
  after_is = after_is ∙ ap (λ (r : PieceState). standing_of (shown_row m r))
      (new_is ∙ (ap (λ (l : List PieceState). piece_row l p) now_is ∙ edited_row rows p change lp));
}

module _ (shelf : ShelfState) (rows : List PieceState) (shown : List ℕ) (p : ℕ) (kept : IsKept shelf rows shown p) where
  abbrev whole : List PieceState
  whole = whole_rows rows shown

  -- the row of the piece, with the count
  abbrev old : PieceState
  old = shown_row (at shown p) (piece_row rows p)

  pub in_whole : p < length whole
  in_whole = omega (arith, length_whole rows shown kept.len, kept.within)

  old_is : old ≡ get_or whole p old
  old_is = sym (whole_at rows shown p old (fresh_piece 0) 0 kept.len kept.within)

  pub count_is : (piece_row whole p).availability ≡ at shown p
  count_is = ap (λ (r : PieceState). r.availability) (whole_at rows shown p (fresh_piece 0) (fresh_piece 0) 0 kept.len kept.within)

  pub in_groups : p < length shelf.groups
  in_groups = omega (arith, in_whole, ap (λ (s : ShelfState). length s.groups) kept.are.is, length-map whole group_of_row)

  group_is : at shelf.groups p ≡ group_of_row old
  group_is =
      ap (λ (s : ShelfState). at s.groups p) kept.are.is
      ∙ (get_or-map group_of_row whole p old 0 in_whole ∙ ap group_of_row (sym old_is))

  -- the row alone changes
  pub row_is : (row : PieceState) (m : ℕ) → row ≡ get_or rows p row → m ≡ at shown p → shown_row m row ≡ get_or whole p (shown_row m row)
  row_is row m read count = (λ i. shown_row (count i) (read i)) ∙ sym (whole_at rows shown p (shown_row m row) row 0 kept.len kept.within)

  pub set_is : (row : PieceState) (m : ℕ) → m ≡ at shown p → whole_rows (set rows p row) shown ≡ set whole p (shown_row m row)
  set_is row m count = whole_row rows shown p row kept.len ∙ ap (λ (n : ℕ). set whole p (shown_row n row)) (sym count)

  pub edit_is : (change : Change) (row new : PieceState) (m : ℕ) → row ≡ get_or rows p row → m ≡ at shown p → new ≡ changed_row change row
      → whole_rows (set rows p new) shown ≡ edit whole p (changed_row change)
  edit_is change row new m read count is =
      set_is new m count
      ∙ (ap (set whole p) (ap (shown_row m) is ∙ changed_apart change m row) ∙
      edit_set whole p (changed_row change) (shown_row m row) in_whole (row_is row m read count))

  pub changed_counts : AreApart rows → (change : Change) (row new : PieceState) → row ≡ get_or rows p row → new ≡ changed_row change row →
      AreApart (set rows p new)
  changed_counts apart_are change row new read is =
      let here : row ≡ piece_row rows p = read ∙ get_or_default rows p row (fresh_piece 0) kept.within in
      still_apart rows p new apart_are
      (ap (λ (r : PieceState). r.availability) is ∙ (same_count change row ∙ (ap (λ (r : PieceState). r.availability) here ∙ apart_are p)))

  -- the group that the row tells is the one in which its piece stands
  pub stands_in : (row : PieceState) (m : ℕ) → row ≡ get_or rows p row → m ≡ at shown p → group_of_row (shown_row m row) ≡ at shelf.groups p
  stands_in row m read count =
      let here : row ≡ piece_row rows p = read ∙ get_or_default rows p row (fresh_piece 0) kept.within in
      (λ i. group_of_row (shown_row (count i) (here i))) ∙ sym group_is

  -- the change can be put on the shelf, and then the shelf is that of the rows again
  pub can_change : (change : Change) (m : ℕ) (before after : Amount) → IsChange rows shown p change m before after → IsFiled shelf before after
  can_change change m before after is =
      let row = piece_row rows p in
      can_file shelf whole p (shown_row m row) (shown_row m (changed_row change row)) before after kept.are in_whole
      (row_is row m (own_row rows p kept.within) is.count) is.before_is is.after_is (same_length change row)

  pub changes : (now : ShelfState) (change : Change) (m : ℕ) (before after : Amount) → IsChange rows shown p change m before after
      → now ≡ refiled shelf p before after → AreShelved now (whole_rows (set rows p (changed_row change (piece_row rows p))) shown)
  changes now change m before after is put =
      let row = piece_row rows p in
      let new = changed_row change row in
      subst (AreShelved now) (sym (set_is new m is.count))
      (files shelf now whole p (shown_row m row) (shown_row m new) before after kept.are in_whole
      (row_is row m (own_row rows p kept.within) is.count) is.before_is is.after_is (same_length change row) put)

  regrouped : (now : ShelfState) (n : ℕ) → now ≡ record shelf { groups = set shelf.groups p (group_of_row (shown_row n old)) }
      → AreShelved now (whole_rows rows (set shown p n))
  regrouped now n is =
      let new = shown_row n old in
      let filed = can_file shelf whole p old new (standing_of old) (standing_of new) kept.are in_whole old_is refl refl refl in
      let unasked : shelf.unasked ≡ shelf.unasked - (standing_of old).unasked + (standing_of new).unasked = omega (arith, filed.unasked) in
      let unheld : shelf.unheld ≡ shelf.unheld - (standing_of old).unheld + (standing_of new).unheld = omega (arith, filed.unheld) in
      let had : shelf.had ≡ shelf.had - one_if (standing_of old).had + one_if (standing_of new).had = omega (arith, filed.had) in
      let left : shelf.left ≡ shelf.left - one_if (standing_of old).left + one_if (standing_of new).left = omega (arith, filed.left) in
      subst (AreShelved now) (sym (whole_count rows shown p n kept.len))
      (files shelf now whole p old new (standing_of old) (standing_of new) kept.are in_whole old_is refl refl refl
      (is ∙ (λ i. record { groups = set shelf.groups p (group_of_row new); unasked = unasked i; unheld = unheld i; had = had i; left = left i })))

  -- one peer more shows the piece
  pub has_next : (n : ℕ) → n ≡ at shown p + 1 → n ≤ CROWD → at shelf.groups p + 1 < GROUPS
  has_next n is few =
      let room = next_room (slot_of old.level) (is_resting old) (touched_count old.blocks == 0) (touched_count old.blocks == length old.blocks)
      (at shown p)
      (slot_few old.level) (omega (arith, is, few)) in
      omega (arith, group_is, room)

  pub shown_more : (now : ShelfState) (n : ℕ) → n ≡ at shown p + 1 →
      now ≡ record shelf { groups = set shelf.groups p (raised_group n (at shelf.groups p)) }
      → AreShelved now (whole_rows rows (set shown p n))
  shown_more now n more is =
      let by = raised_by (slot_of old.level) (is_resting old) (touched_count old.blocks == 0) (touched_count old.blocks == length old.blocks)
      (at shown p) in
      let group : raised_group n (at shelf.groups p) ≡ group_of_row (shown_row n old) =
      ap (raised_group n) group_is ∙ (ap (λ (m : ℕ). raised_group m (group_of_row old)) more ∙
      (sym by ∙ ap (λ (m : ℕ). group_of_row (shown_row m old)) (sym more))) in
      regrouped now n (is ∙ ap (λ (g : ℕ). record shelf { groups = set shelf.groups p g }) group)

  pub counted_more : (n : ℕ) → n ≡ at shown p + 1 → whole_rows rows (set shown p n) ≡ edit whole p (more_available true)
  counted_more n more =
      whole_count rows shown p n kept.len
      ∙ (ap (λ (m : ℕ). set whole p (shown_row m old)) more ∙ edit_set whole p (more_available true) old in_whole old_is)

  -- one peer less shows it
  pub shown_less : (now : ShelfState) (m n : ℕ) → m ≡ at shown p → n ≡ m - 1 →
      now ≡ record shelf { groups = set shelf.groups p (lowered_group m (at shelf.groups p)) }
      → AreShelved now (whole_rows rows (set shown p n))
  shown_less now m n many less is =
      let by = lowered_by (slot_of old.level) (is_resting old) (touched_count old.blocks == 0) (touched_count old.blocks == length old.blocks)
      (at shown p) in
      let fewer : n ≡ at shown p - 1 = omega arith in
      let group : lowered_group m (at shelf.groups p) ≡ group_of_row (shown_row n old) =
      ap (lowered_group m) group_is ∙ (ap (λ (k : ℕ). lowered_group k (group_of_row old)) many ∙
      (sym by ∙ ap (λ (k : ℕ). group_of_row (shown_row k old)) (sym fewer))) in
      regrouped now n (is ∙ ap (λ (g : ℕ). record shelf { groups = set shelf.groups p g }) group)

  pub counted_less : (n : ℕ) → n ≡ at shown p - 1 → whole_rows rows (set shown p n) ≡ edit whole p (less_available true)
  counted_less n less =
      whole_count rows shown p n kept.len
      ∙ (ap (λ (m : ℕ). set whole p (shown_row m old)) less ∙ edit_set whole p (less_available true) old in_whole old_is)
