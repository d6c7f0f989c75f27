-- The tables after a block is given up, or its request is told late, are those of the history with that.
use Rattle.std.proofs.Common.{◌≡◌, ℕ, ◌+◌, ◌-◌, ◌<◌, Bool, true, false, not, ◌&&◌, ◌||◌, List, [], ◌∷◌, refl, ap, sym, ◌∙◌, arith, ⊎_elim}
use Rattle.std.specs.Prelude.{if◌then◌else◌}
use Rattle.std.proofs.lemmas.Bool.{and_right, false≢true, or_cases}
use Rattle.std.proofs.lemmas.Map.Views.{any-filter_same}
use Rattle.bt_meta.specs.declared.block.Block.{Block}
use Rattle.bt_meta.specs.Layout.{Layout, piece_count}
use Rattle.bt_history.specs.declared.call.Reply.TheVariants.{Quiet}
use Rattle.bt_history.specs.declared.event.Action.{Action}
use Rattle.bt_history.specs.declared.event.Action.TheVariants.{Late, Release}
use Rattle.bt_history.specs.declared.event.Event.{Event}
use Rattle.bt_history.specs.Counting.{table}
use Rattle.bt_history.specs.Setting.{Setting, is_block}
use Rattle.bt_history.specs.History.{History, same_begin}
use Rattle.bt_history.specs.Peers.{asked, outstanding, has_place}
use Rattle.bt_history.specs.Pieces.{availability}
use Rattle.bt_history.specs.Legal.{IsAllowed, place_at}
use Rattle.bt_history.proofs.SameBegin.{same_but_len}
use Rattle.bt_history.proofs.Lines.{asked_outstanding, place_resized}
use Rattle.bt_history.proofs.LineLaws.{AreBlocks, outstanding_blocks}
use Rattle.bt_tables.specs.Tables.{one_if, delay_row, delayed, edit, given_up, is_late_at, lowered, PeerState, TablesState, unexpected, with_peer}
use Rattle.bt_tables.specs.Tables.{without_block}
use Rattle.bt_picker.specs.Tables.{askers, overdue_line, peer_of, piece_of, AreTables}
use Rattle.bt_picker.proofs.Overdue.{expects_row, place_here}
use Rattle.bt_picker.proofs.PeerSteps.{begins_at, is_levelling, is_ordering, late_step, release_step}
use Rattle.bt_picker.proofs.PieceSteps.{row_shows, lowered_table}
use Rattle.bt_picker.proofs.Entering.{tables_from, one_peer, askers_change, availability_stays, counted, peer_row_is, reorders, relevels}
use Rattle.bt_picker.proofs.EnteringBlocks.{place_filtered}

-- a place that a line of blocks of the torrent lists is that of a block of the torrent
listed_block : (t : Layout) (bs : List Block) (b : Block) → AreBlocks t bs → has_place b bs ≡ true
    → (c : Block) × (is_block t c ≡ true) × (same_begin c b ≡ true)
unfolding AreBlocks
listed_block t [] b are is = absurd (cc is)
listed_block t (c ∷ bs) b are is = ⊎_elim
    (λ (here : same_begin c b ≡ true). (c, are.0, here))
    (λ (there : has_place b bs ≡ true). listed_block t bs b are.1 there)
    (or_cases (same_begin c b) (has_place b bs) is)

-- the askers of a block, once it is expected from one peer no more
fewer_askers : (new old : ℕ) (was here : Bool) → (here ≡ true → was ≡ true) → new + one_if was ≡ old + one_if (not here && was)
    → old - one_if here ≡ new
fewer_askers new old true true has is = omega (arith, is)
fewer_askers new old false true has is = absurd (false≢true (has refl))
fewer_askers new old true false has is = omega (arith, is)
fewer_askers new old false false has is = omega (arith, is)

-- and where it wasn't before
same_askers : (new old : ℕ) (was here : Bool) → (here ≡ true → was ≡ false) → new + one_if was ≡ old + one_if (not here && was) → old ≡ new
same_askers new old true true has is = absurd (false≢true (sym (has refl)))
same_askers new old false true has is = omega (arith, is)
same_askers new old true false has is = omega (arith, is)
same_askers new old false false has is = omega (arith, is)

-- a block that begins at a place does where the place's block does
begins_same : (p begin : ℕ) (x : Block) → begins_at p begin x ≡ true → same_begin (place_at p begin) x ≡ true
begins_same p begin x here = here

-- an entry after which the block at a place is expected from its peer no more
module _ (t : TablesState) (h : History) (w p begin : ℕ) (call : Action) (change : PeerState → PeerState) (are : AreTables t h)
    (allowed : IsAllowed t.setting h (record { worker = w; action = call; reply = Quiet })) (lt : w < t.setting.workers)
    (is : asked h w (place_at p begin) ≡ true)
    (unlevelled : is_levelling call ≡ false) (unordered : is_ordering call ≡ false)
    (row : change (peer_of t.setting h w) ≡ peer_of t.setting (record { worker = w; action = call; reply = Quiet } ∷ h) w)
    (expects : (x : Block) → expects_row x (change (peer_of t.setting h w)) ≡ (not (begins_at p begin x) && expects_row x (peer_of t.setting h w)))
    (shown : (r : ℕ) → row_shows r (change (peer_of t.setting h w)) ≡ row_shows r (peer_of t.setting h w)) where
  abbrev s : Setting
  s = t.setting

  abbrev e : Event
  e = record { worker = w; action = call; reply = Quiet }

  abbrev b : Block
  b = place_at p begin

  unrelevels : relevels e ≡ false
  unrelevels = ap (λ (x : Bool). x && true) unlevelled

  unreorders : reorders e ≡ false
  unreorders = ap (λ (x : Bool). x && true) unordered

  available : (r : ℕ) → r < piece_count s.torrent → availability s h r ≡ availability s (e ∷ h) r
  available r lr = availability_stays s h e lt refl r lr (ap (λ (q : PeerState). row_shows r q) (sym row) ∙ shown r)

  change_is : (x : Block) → askers s (e ∷ h) x + one_if (expects_row x (peer_of s h w)) ≡ askers s h x + one_if
      (not (begins_at p begin x) && expects_row x (peer_of s h w))
  change_is x = askers_change s h e lt refl x
      ∙ ap (λ (y : Bool). askers s h x + one_if y) (ap (expects_row x) (sym row) ∙ expects x)

  -- where the peer was late with the block already
  late_before : has_place b (overdue_line h w) ≡ true → t.pieces ≡ table (piece_count s.torrent) (piece_of s (e ∷ h))
  late_before was =
      are.pieces_are ∙ counted s h e (availability s h) (askers s h) refl refl refl unrelevels available (λ x.
      same_askers (askers s (e ∷ h) x) (askers s h x) (expects_row x (peer_of s h w)) (begins_at p begin x)
      (λ here. ap (λ (y : Bool). has_place x (outstanding h w) && not y) (place_resized (overdue_line h w) b x (begins_same p begin x here) ∙ was)
      ∙ and_right (has_place x (outstanding h w)) false refl)
      (change_is x))

  -- where it wasn't
  late_now : has_place b (overdue_line h w) ≡ false → lowered b t.pieces ≡ table (piece_count s.torrent) (piece_of s (e ∷ h))
  late_now prompt =
      let line = outstanding h w in
      let listed : has_place b line ≡ true = sym (asked_outstanding h w b) ∙ is in
      let found = listed_block s.torrent line b (outstanding_blocks s h w are.legal) listed in
      let c = found.0 in
      let resized = same_but_len c b found.2 in
      ap (lowered b) are.pieces_are
      ∙ (ap (λ (x : Block). lowered x (table (piece_count s.torrent) (piece_of s h))) resized
      ∙ (lowered_table s h (availability s h) (askers s h) c found.1
      ∙ counted s h e (availability s h) (λ x. askers s h x - one_if (same_begin c x)) refl refl refl unrelevels available
      (λ x.
      let same : same_begin b x ≡ same_begin c x = ap (λ (y : Block). same_begin y x) resized in
      ap (λ (y : Bool). askers s h x - one_if y) (sym same)
      ∙ fewer_askers (askers s (e ∷ h) x) (askers s h x) (expects_row x (peer_of s h w)) (same_begin b x)
      (λ here. (λ i. (place_resized line b x here ∙ listed) i && not ((place_resized (overdue_line h w) b x here ∙ prompt) i)))
      (change_is x))))

  pub entered_unexpected : AreTables (with_peer (unexpected t w p begin) w change) (e ∷ h)
  entered_unexpected =
      tables_from t h e (edit t.peers w change) (unexpected t w p begin).pieces are allowed unreorders (one_peer t h e change are lt refl row)
      (ap (λ (r : PeerState). if is_late_at p begin r then t.pieces else lowered b t.pieces) (peer_row_is t h w are lt)
      ∙ (ap (λ (y : Bool). if y then t.pieces else lowered b t.pieces) (place_here p begin (overdue_line h w))
      ∙ by_late (has_place b (overdue_line h w)) refl))
    where
      by_late : (x : Bool) → has_place b (overdue_line h w) ≡ x
          → (if x then t.pieces else lowered b t.pieces) ≡ table (piece_count s.torrent) (piece_of s (e ∷ h))
      by_late true was = late_before was
      by_late false prompt = late_now prompt

pub entered_release : (t : TablesState) (h : History) (w p begin : ℕ) → AreTables t h
    → IsAllowed t.setting h (record { worker = w; action = Release p begin; reply = Quiet }) → w < t.setting.workers
    → asked h w (place_at p begin) ≡ true
    → AreTables (given_up t w p begin) (record { worker = w; action = Release p begin; reply = Quiet } ∷ h)
entered_release t h w p begin are allowed lt is =
    entered_unexpected t h w p begin (Release p begin) (without_block p begin true) are allowed lt is refl refl (release_step t.setting h w p begin)
    (λ x. (λ i. sym (place_filtered p begin x (outstanding h w)) i && not (sym (place_filtered p begin x (overdue_line h w)) i))
    ∙ by_place (begins_at p begin x) (has_place x (outstanding h w)) (has_place x (overdue_line h w)))
    (λ r. refl)
  where
    by_place : (here listed late : Bool) → ((not here && listed) && not (not here && late)) ≡ (not here && (listed && not late))
    by_place true listed late = refl
    by_place false listed late = refl

pub entered_late : (t : TablesState) (h : History) (w p begin : ℕ) → AreTables t h
    → IsAllowed t.setting h (record { worker = w; action = Late p begin; reply = Quiet }) → w < t.setting.workers
    → asked h w (place_at p begin) ≡ true
    → AreTables (delayed t w p begin) (record { worker = w; action = Late p begin; reply = Quiet } ∷ h)
entered_late t h w p begin are allowed lt is =
    entered_unexpected t h w p begin (Late p begin) (delay_row p begin) are allowed lt is refl refl (late_step t.setting h w p begin)
    (λ x. ap (λ (y : Bool). has_place x (outstanding h w) && not y)
    (any-filter_same (λ (a : Block). same_begin a x) (λ a. begins_at p begin a || has_place a (overdue_line h w))
    (begins_at p begin x || has_place x (overdue_line h w))
    (λ a same. λ i. (ap (begins_at p begin) (sym (same_but_len a x same)) i) || sym (place_resized (overdue_line h w) a x same) i) (outstanding h w))
    ∙ by_place (begins_at p begin x) (has_place x (outstanding h w)) (has_place x (overdue_line h w)))
    (λ r. refl)
  where
    by_place : (here listed late : Bool) → (listed && not ((here || late) && listed)) ≡ (not here && (listed && not late))
    by_place true true late = refl
    by_place true false late = refl
    by_place false true true = refl
    by_place false true false = refl
    by_place false false late = refl
