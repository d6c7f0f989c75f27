-- The tables after a peer has a piece no more are those of the history with that.
use Rattle.std.proofs.Common.{◌≡◌, ℕ, ◌+◌, ◌-◌, ◌<◌, ◌==◌, Bool, true, false, not, ◌&&◌, List, ◌∷◌, refl, ap, sym, ◌∙◌, arith, ⊎_elim}
use Rattle.std.specs.Prelude.{if◌then◌else◌, slice_set}
use Rattle.std.specs.List.{filter}
use Rattle.std.proofs.lemmas.Bool.{cases_eq, eq-eqb, ne_eqb}
use Rattle.std.proofs.lemmas.List.{get_or-set_same, get_or-set_other}
use Rattle.std.proofs.lemmas.Map.Views.{any-filter_same}
use Rattle.bt_meta.specs.declared.block.Block.{Block}
use Rattle.bt_meta.specs.Layout.{piece_count, block_count, block}
use Rattle.bt_history.specs.declared.call.Reply.TheVariants.{Noted}
use Rattle.bt_history.specs.declared.event.Action.TheVariants.{Lack}
use Rattle.bt_history.specs.declared.event.Event.{Event}
use Rattle.bt_history.specs.Counting.{table}
use Rattle.bt_history.specs.History.{History, same_begin}
use Rattle.bt_history.specs.Peers.{joined, outstanding, has_place, flag}
use Rattle.bt_history.specs.Pieces.{availability, had, level}
use Rattle.bt_history.specs.Legal.{IsAllowed}
use Rattle.bt_history.specs.Setting.{Setting}
use Rattle.bt_history.proofs.SameBegin.{same_but_len}
use Rattle.bt_history.proofs.Lines.{place_resized}
use Rattle.bt_history.proofs.LineLaws.{apart_filter, blocks_filter, outstanding_apart, outstanding_blocks}
use Rattle.bt_tables.specs.Tables.{one_if, edit, lack_row, lacked, less_available, lowered_by, prompt_of_piece, PeerState, PieceState, TablesState}
use Rattle.bt_tables.proofs.Tabled.{edit_table}
use Rattle.bt_picker.specs.Tables.{askers, cell_of, overdue_line, peer_of, piece_of, AreTables}
use Rattle.bt_picker.proofs.Overdue.{expects_row}
use Rattle.bt_picker.proofs.PeerSteps.{lack_step, shows_length}
use Rattle.bt_picker.proofs.PieceSteps.{piece_same, piece_with, released_table, row_shows}
use Rattle.bt_picker.proofs.Entering.{tables_from, one_peer, askers_change, availability_change, counted, peer_row_is}

-- what a line lists of the piece, and what else it lists
place_of_piece : (p : ℕ) (b : Block) (row : PeerState) → has_place b (prompt_of_piece p row) ≡ ((p == b.piece) && expects_row b row)
place_of_piece p b row =
    any-filter_same (λ (a : Block). same_begin a b) (λ a. (p == a.piece) && not (has_place a row.overdue)) ((p == b.piece) && not (has_place b row.overdue))
    (λ a same. λ i. ap (λ (c : Block). p == c.piece) (sym (same_but_len a b same)) i && not (sym (place_resized row.overdue a b same) i)) row.asked
    ∙ by_parts (p == b.piece) (has_place b row.overdue) (has_place b row.asked)
  where
    by_parts : (x late listed : Bool) → ((x && not late) && listed) ≡ (x && (listed && not late))
    by_parts true true true = refl
    by_parts true true false = refl
    by_parts true false true = refl
    by_parts true false false = refl
    by_parts false late listed = refl

place_of_others : (p : ℕ) (b : Block) (bs : List Block) → has_place b (filter (λ a. not (p == a.piece)) bs) ≡ (not (p == b.piece) && has_place b bs)
place_of_others p b bs =
    any-filter_same (λ (a : Block). same_begin a b) (λ a. not (p == a.piece)) (not (p == b.piece))
    (λ a same. ap (λ (c : Block). not (p == c.piece)) (sym (same_but_len a b same))) bs

-- the askers of a block, once one peer's line lacks what is of the piece
fewer : (new old : ℕ) (here listed : Bool) → new + one_if listed ≡ old + one_if (not here && listed) → old - one_if (here && listed) ≡ new
fewer new old true listed is = omega (arith, is)
fewer new old false listed is = omega (arith, is)

-- how many show a piece, once one peer shows it no more, and where it shows another as before
count_less : (new old : ℕ) (was : Bool) → new + one_if was ≡ old + 0 → old - one_if was ≡ new
count_less new old was is = omega (arith, is)

count_same : (new old : ℕ) (was : Bool) → new + one_if was ≡ old + one_if was → old - 0 ≡ new
count_same new old was is = omega (arith, is)

nothing_less : (n : ℕ) → n ≡ n - 0
nothing_less n = omega arith

module _ (t : TablesState) (h : History) (w p : ℕ) (x : Bool) (are : AreTables t h)
    (allowed : IsAllowed t.setting h (record { worker = w; action = Lack p; reply = Noted x })) (lt : w < t.setting.workers)
    (inside : joined h w ≡ true) (lp : p < piece_count t.setting.torrent) where
  abbrev s : Setting
  s = t.setting

  abbrev e : Event
  e = record { worker = w; action = Lack p; reply = Noted x }

  abbrev flags : List Bool
  flags = (peer_of s h w).shows

  abbrev line : List Block
  line = prompt_of_piece p (peer_of s h w)

  row : lack_row p (peer_of s h w) ≡ peer_of s (e ∷ h) w
  row = lack_step s h w p x lp

  -- one peer less shows the piece, if this one did
  abbrev shown : ℕ → ℕ
  shown r = availability s h r - (if r == p then one_if (flag flags p) else 0)

  shown_row : (r : ℕ) → row_shows r (peer_of s (e ∷ h) w) ≡ flag (slice_set flags p false) r
  shown_row r = ap (row_shows r) (sym row) ∙ ap (λ (y : Bool). y && flag (slice_set flags p false) r) inside

  change : (r : ℕ) → r < piece_count s.torrent
      → availability s (e ∷ h) r + one_if (flag flags r) ≡ availability s h r + one_if (flag (slice_set flags p false) r)
  change r lr =
      ap (λ (y : Bool). availability s (e ∷ h) r + one_if (y && flag flags r)) (sym inside)
      ∙ (availability_change s h e lt refl r lr ∙ ap (λ (y : Bool). availability s h r + one_if y) (shown_row r))

  shows_less : (r : ℕ) → r < piece_count s.torrent → shown r ≡ availability s (e ∷ h) r
  shows_less r lr = ⊎_elim
      (λ (here : r ≡ p).
      let none : flag (slice_set flags p false) r ≡ false =
      ap (flag (slice_set flags p false)) here ∙ get_or-set_same flags p false false (omega (arith, shows_length s h w, lp)) in
      ap (λ (y : Bool). availability s h r - (if y then one_if (flag flags p) else 0)) (eq-eqb r p here)
      ∙ (ap (λ (j : ℕ). availability s h r - one_if (flag flags j)) (sym here)
      ∙ count_less (availability s (e ∷ h) r) (availability s h r) (flag flags r)
      (change r lr ∙ ap (λ (y : Bool). availability s h r + one_if y) none)))
      (λ (there : r ≡ p → ⊥).
      ap (λ (y : Bool). availability s h r - (if y then one_if (flag flags p) else 0)) (ne_eqb r p there)
      ∙ count_same (availability s (e ∷ h) r) (availability s h r) (flag flags r)
      (change r lr ∙ ap (λ (y : Bool). availability s h r + one_if y) (get_or-set_other flags p r false false there)))
      (cases_eq r p)

  -- one peer less is asked for each block of the piece that this one was asked for
  asked_less : (b : Block) → askers s h b - one_if (has_place b line) ≡ askers s (e ∷ h) b
  asked_less b =
      ap (λ (y : Bool). askers s h b - one_if y) (place_of_piece p b (peer_of s h w))
      ∙ fewer (askers s (e ∷ h) b) (askers s h b) (p == b.piece) (expects_row b (peer_of s h w))
      (askers_change s h e lt refl b
      ∙ ap (λ (y : Bool). askers s h b + one_if y)
      (ap (expects_row b) (sym row)
      ∙ ((λ i. place_of_others p b (outstanding h w) i && not (place_of_others p b (overdue_line h w) i))
      ∙ by_place (p == b.piece) (has_place b (outstanding h w)) (has_place b (overdue_line h w)))))
    where
      by_place : (here listed late : Bool) → ((not here && listed) && not (not here && late)) ≡ (not here && (listed && not late))
      by_place true listed late = refl
      by_place false listed late = refl

  freed : lowered_by line t.pieces ≡ table (piece_count s.torrent) (piece_with s h (availability s h) (λ b. askers s h b - one_if (has_place b line)))
  freed = ap (lowered_by line) are.pieces_are
      ∙ released_table s h (availability s h) (askers s h) line
      (blocks_filter s.torrent (λ b. (p == b.piece) && not (has_place b (overdue_line h w))) (outstanding h w) (outstanding_blocks s h w are.legal))
      (apart_filter (λ b. (p == b.piece) && not (has_place b (overdue_line h w))) (outstanding h w) (outstanding_apart s h w are.legal))

  pieces_are : (lacked t w p).pieces ≡ table (piece_count s.torrent) (piece_of s (e ∷ h))
  pieces_are =
      let n = piece_count s.torrent in
      let fewer_asked : Block → ℕ = λ b. askers s h b - one_if (has_place b line) in
      ap (λ (r : PeerState). edit (lowered_by (prompt_of_piece p r) t.pieces) p (less_available (flag r.shows p))) (peer_row_is t h w are lt)
      ∙ (ap (λ (rows : List PieceState). edit rows p (less_available (flag flags p))) freed
      ∙ (edit_table n (piece_with s h (availability s h) fewer_asked) (piece_with s h shown fewer_asked) p (less_available (flag flags p)) lp
      (λ i. record {
        had = had h p;
        level = level h p;
        availability = ap (λ (y : Bool). availability s h p - (if y then one_if (flag flags p) else 0)) (eq-eqb p p refl) i;
        blocks = table (block_count s.torrent p) (λ k. record { sender = (cell_of s h (block s.torrent p k)).sender; askers = fewer_asked (block s.torrent p k) });
      })
      (λ r lr apart. piece_same s h h r (availability s h) shown fewer_asked fewer_asked refl refl
      (nothing_less (availability s h r)
      ∙ sym (ap (λ (y : Bool). availability s h r - (if y then one_if (flag flags p) else 0)) (ne_eqb r p apart)))
      (λ k lk. refl) (λ k lk. refl))
      ∙ counted s h e shown fewer_asked refl refl refl refl shows_less asked_less))

  pub entered_lack : AreTables (lacked t w p) (e ∷ h)
  entered_lack =
      tables_from t h e (edit t.peers w (lack_row p)) (lacked t w p).pieces are allowed refl (one_peer t h e (lack_row p) are lt refl row) pieces_are
