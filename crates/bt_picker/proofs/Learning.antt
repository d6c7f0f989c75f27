-- Floors by the history: no candidate ranks before; and what a reply tells of it.
use Rattle.std.proofs.Common.{◌==◌, ◌≡◌, ◌⊎◌, ℕ, ◌-◌, ◌*◌, ◌<◌, ◌≤◌, Bool, true, false, not, ◌&&◌, ◌||◌, refl, ap, sym, ◌∙◌, subst, inl, inr, ⊎_elim}
use Rattle.std.proofs.Common.{arith, List, [], length, map, set}
use Rattle.std.specs.Prelude.{nat_le, nat_lt, slice_index_or}
use Rattle.std.proofs.lemmas.Bool.{and_from, and_parts, cases_eq, eq-eqb, eqb-true, false_from_ne_true, false≢true, le-leb, le-ltb, or_left}
use Rattle.std.proofs.lemmas.Bool.{or_right}
use Rattle.std.proofs.lemmas.List.{get_or-set_other, get_or-set_same}
use mathlib.Core.Logic.{dite}
use native.Mathlib.Decide.{ℕ_discrete}
use Rattle.bt_meta.specs.declared.block.Block.{Block}
use Rattle.bt_meta.specs.Layout.{Layout, IsLayout, piece_count, block, block_count}
use Rattle.bt_history.specs.declared.call.Reply.{Reply}
use Rattle.bt_history.specs.declared.call.Reply.TheVariants.{Request, Idle, NothingLeft}
use Rattle.bt_history.specs.declared.event.Action.TheVariants.{Have, Next}
use Rattle.bt_history.specs.declared.event.Event.{Event}
use Rattle.bt_history.specs.Setting.{Setting, is_block, some_block, some_block_of}
use Rattle.bt_history.specs.History.{History}
use Rattle.bt_history.specs.Peers.{joined, overdue, reach, shows}
use Rattle.bt_history.specs.Pieces.{begun, chosen, comes_in_order, gives, had, had_count, held_or_asked, is_open_piece, level, open_count, unbegun}
use Rattle.bt_history.specs.Pieces.{offers, unasked, wanted}
use Rattle.bt_history.specs.declared.call.Reply.TheVariants as said
use Rattle.bt_history.specs.Legal.{IsAllowed, IsLegal, Permits, interesting_after}
use Rattle.bt_history.specs.Next.{continues, goes_first, is_candidate, is_rarest, is_strict, none_rarer, resumes, starts, tops, usable}
use Rattle.bt_history.proofs.Levels.{higher_first, level_bounded, none_in_order, top_above}
use Rattle.bt_history.specs.declared.rules.TheConstants.{MOST_LEVEL}
use Rattle.bt_history.proofs.Allowed.{answered, no_cause, top_usable}
use Rattle.bt_history.proofs.Below.{any_fails, count_found, count_most}
use Rattle.bt_history.proofs.LineLaws.{block_index, block_is_block, some_found}
use Rattle.bt_history.proofs.NextCases.{next_cases, next_is, next_request}
use Rattle.bt_history.proofs.Opening.{rarer_than, usable_resumes}
use Rattle.bt_tables.specs.Floors.{FewOpen, IsFloor, NoneFresh, TellsFloor, is_fresh, rank_of_row}
use Rattle.bt_tables.specs.Standings.{ListsOpen, group_of_row}
use Rattle.bt_picker.specs.Search.{NoneBefore, NoneBegins, rank_at}
use Rattle.std.specs.List.{count_by}
use Rattle.bt_picker.specs.Tables.{AreTables, groups_of, peer_of, piece_of}
use Rattle.bt_tables.specs.Tables.{PeerState, PieceState, TablesState, announced, edit, fresh_peer, fresh_piece, have_row, less_available}
use Rattle.bt_tables.specs.Tables.{more_available, peer_row, piece_row}
use Rattle.bt_picker.proofs.Leading.{open_length}
use Rattle.bt_picker.proofs.Overdue.{none_overdue, spent_with_nothing}
use Rattle.bt_picker.proofs.Stages.{candidate_parts}
use Rattle.bt_picker.proofs.Telling.{had_rows, unchosen, untouched_row, wanted_chosen}
use Rattle.bt_picker.proofs.Scans.{first_block, lacks_found}
use Rattle.bt_tables.proofs.Tabled.{edit_read, get_or_is_table, get_or_table, length_edit, map_table}
use Rattle.bt_history.specs.Pieces.{is_free_for}
use Rattle.bt_history.proofs.Owning.{unbegun_free}

-- ---- a fresh piece that the peer shows is a candidate, where the peer is late with nothing, and there are no others

fresh_is : (s : Setting) (h : History) (p : ℕ) → is_fresh (piece_of s h p)
    ≡ (not (had h p || not (chosen h p)) && not (some_block_of s.torrent p (held_or_asked s h)))
fresh_is s h p = λ i. not (had h p || unchosen s h p i) && untouched_row s h p i

fresh_parts : (d c t : Bool) → (not (d || not c) && not t) ≡ true → (d ≡ false) × (c ≡ true) × (t ≡ false)
fresh_parts true c t is = absurd (cc is)
fresh_parts false false t is = absurd (cc is)
fresh_parts false true true is = absurd (cc is)
fresh_parts false true false is = (refl, refl, refl)

fresh_unbegun : (s : Setting) (h : History) (p : ℕ) → is_fresh (piece_of s h p) ≡ true → unbegun s h p ≡ true
fresh_unbegun s h p fresh =
    let parts = fresh_parts (had h p) (chosen h p) (some_block_of s.torrent p (held_or_asked s h)) (sym (fresh_is s h p) ∙ fresh) in
    and_from (not (had h p)) _ (ap not parts.0) (ap not parts.2)

fresh_candidate : (s : Setting) (h : History) (q p : ℕ) → ((b : Block) → overdue h q b ≡ false) → p < piece_count s.torrent → shows h q p ≡ true
    → is_fresh (piece_of s h p) ≡ true → is_candidate s h q p ≡ true
fresh_candidate s h q p prompt lp shown fresh =
    let parts = fresh_parts (had h p) (chosen h p) (some_block_of s.torrent p (held_or_asked s h)) (sym (fresh_is s h p) ∙ fresh) in
    and_from (wanted s h p) _ (wanted_chosen s h p lp ∙ parts.1)
    (and_from (offers s h q p) _ (and_from (shows h q p) _ shown (ap not (spent_with_nothing s h q p prompt)))
    (and_from (not (had h p)) _ (ap not parts.0) (ap not parts.2)))

candidate_fresh : (s : Setting) (h : History) (q p : ℕ) → p < piece_count s.torrent → is_candidate s h q p ≡ true →
    (shows h q p ≡ true) × (is_fresh (piece_of s h p) ≡ true)
candidate_fresh s h q p lp is =
    let parts = candidate_parts s h q p is in
    let picked : chosen h p ≡ true = sym (wanted_chosen s h p lp) ∙ parts.0 in
    (parts.1, fresh_is s h p ∙ (λ i. not (parts.2 i || not (picked i)) && not (parts.3 i)))

module _ (t : TablesState) (h : History) (w : ℕ) (are : AreTables t h) (lw : w < t.setting.workers) where
  row_is : (p : ℕ) → p < piece_count t.setting.torrent → piece_row t.pieces p ≡ piece_of t.setting h p
  row_is p lp = get_or_is_table t.pieces (piece_count t.setting.torrent) (piece_of t.setting h) p (fresh_piece 0) are.pieces_are lp

  flag_is : (p : ℕ) → p < piece_count t.setting.torrent → slice_index_or (peer_row t.peers w).shows p false ≡ shows h w p
  flag_is p lp =
      ap (λ (r : _). slice_index_or r.shows p false) (get_or_is_table t.peers t.setting.workers (peer_of t.setting h) w (fresh_peer 0 0) are.peers_are
      lw)
      ∙ get_or_table (piece_count t.setting.torrent) (shows h w) p false lp

  pub floor_before : (n : ℕ) → IsFloor t.pieces (peer_row t.peers w) n → NoneBefore t.setting h w n
  floor_before n floor p lp fits =
      let known = candidate_fresh t.setting h w p lp fits in
      let row = row_is p lp in
      let low = floor p (subst (λ (m : ℕ). p < m) (sym are.pieces_len) lp) (flag_is p lp ∙ known.0) (ap is_fresh row ∙ known.1) in
      subst (λ (r : PieceState). n ≤ rank_of_row r) row low

  pub before_floor : (n : ℕ) → ((b : Block) → overdue h w b ≡ false) → NoneBefore t.setting h w n → IsFloor t.pieces (peer_row t.peers w) n
  before_floor n prompt none p lp shown fresh =
      let within : p < piece_count t.setting.torrent = subst (λ (m : ℕ). p < m) are.pieces_len lp in
      let row = row_is p within in
      let fits = fresh_candidate t.setting h w p prompt within (sym (flag_is p within) ∙ shown) (ap is_fresh (sym row) ∙ fresh) in
      subst (λ (r : PieceState). n ≤ rank_of_row r) (sym row) (none p within fits)

-- before the front no piece may be begun
pub front_begins : (t : TablesState) (h : History) (n : ℕ) → AreTables t h → NoneFresh n t.pieces → NoneBegins t.setting h n
front_begins t h n are none q p before lp = false_from_ne_true (is_candidate t.setting h q p) (λ may.
    let row = get_or_is_table t.pieces (piece_count t.setting.torrent) (piece_of t.setting h) p (fresh_piece 0) are.pieces_are lp in
    false≢true (sym (none p before (subst (λ (m : ℕ). p < m) (sym are.pieces_len) lp))
    ∙ (ap is_fresh row ∙ (candidate_fresh t.setting h q p lp may).1)))

-- ---- what a reply to Next tells

-- the reach of w is full, so it reaches each piece, and w is late with nothing
abbrev pub TakesAll : History → ℕ → Type 0
TakesAll h w = ((p : ℕ) → level h p ≤ reach h w) × ((b : Block) → overdue h w b ≡ false)

-- a candidate's first block is usable then
candidate_block : (s : Setting) (h : History) (w p : ℕ) → TakesAll h w → IsLayout s.torrent → p < piece_count s.torrent → is_candidate s h w p ≡ true
    → (is_block s.torrent (block s.torrent p 0) ≡ true) × (usable s h w (block s.torrent p 0) ≡ true)
candidate_block s h w p takes layout lp fits =
    let some = first_block s.torrent p layout lp in
    let parts = candidate_parts s h w p fits in (
      block_is_block s.torrent p 0 lp some,
      and_from (unasked s h (block s.torrent p 0)) _
          (ap not (any_fails (block_count s.torrent p) (λ k. held_or_asked s h (block s.torrent p k)) 0 parts.3 some))
          (and_from (wanted s h p) _ parts.0 (and_from (gives h w p) _
          (and_from (shows h w p) (nat_le (level h p) (reach h w)) parts.1 (le-leb (level h p) (reach h w) (takes.0 p)))
          (and_from (not (overdue h w (block s.torrent p 0))) (is_free_for s h w p) (ap not (takes.1 (block s.torrent p 0)))
          (unbegun_free s h w p (and_from (not (had h p)) _ (ap not parts.2) (ap not parts.3)))))),
    )

-- without a usable block there is no candidate
pub none_usable : (s : Setting) (h : History) (w n : ℕ) → TakesAll h w → IsLayout s.torrent → some_block s.torrent (usable s h w) ≡ false → NoneBefore s h w n
none_usable s h w n near layout none p lp fits =
    let own = candidate_block s h w p near layout lp fits in
    absurd (false≢true (sym none ∙ some_found s.torrent (usable s h w) (block s.torrent p 0) own.0 own.1))

-- where nothing is to be asked nothing is usable
idle_cases : (t : Layout) (has_due opened full rises_one goes_on starts_one doubles_one waits : Bool)
    (cancels risings ons firsts seconds : Block → Bool) (reply : Reply) → (reply ≡ Idle) ⊎ (reply ≡ NothingLeft)
    → Permits t (next_cases has_due opened full rises_one goes_on starts_one doubles_one waits cancels risings ons firsts seconds) reply
    → starts_one ≡ false
unfolding next_cases
idle_cases t true _ _ _ _ _ _ _ cancels risings ons firsts seconds reply (inl is) h = absurd (cc (is, h.1))
idle_cases t true _ _ _ _ _ _ _ cancels risings ons firsts seconds reply (inr is) h = absurd (cc (is, h.1))
idle_cases t false false _ _ _ _ _ _ cancels risings ons firsts seconds reply (inl is) h = absurd (cc (is, h))
idle_cases t false false _ _ _ _ _ _ cancels risings ons firsts seconds reply (inr is) h = absurd (cc (is, h))
idle_cases t false true true _ _ _ _ _ cancels risings ons firsts seconds reply (inl is) h = absurd (cc (is, h))
idle_cases t false true true _ _ _ _ _ cancels risings ons firsts seconds reply (inr is) h = absurd (cc (is, h))
idle_cases t false true false true _ _ _ _ cancels risings ons firsts seconds reply (inl is) h = absurd (cc (is, h.1))
idle_cases t false true false true _ _ _ _ cancels risings ons firsts seconds reply (inr is) h = absurd (cc (is, h.1))
idle_cases t false true false false true _ _ _ cancels risings ons firsts seconds reply (inl is) h = absurd (cc (is, h.1))
idle_cases t false true false false true _ _ _ cancels risings ons firsts seconds reply (inr is) h = absurd (cc (is, h.1))
idle_cases t false true false false false true _ _ cancels risings ons firsts seconds reply (inl is) h = absurd (cc (is, h.1))
idle_cases t false true false false false true _ _ cancels risings ons firsts seconds reply (inr is) h = absurd (cc (is, h.1))
idle_cases t false true false false false false _ _ cancels risings ons firsts seconds reply why h = refl

-- a piece of the highest level that has a candidate, none of which is rarer, ranks before all others
rarest_first : (s : Setting) (h : History) (w : ℕ) (b : Block) → TakesAll h w → IsLegal s h → IsLayout s.torrent → s.workers < 65536 → tops s h w b ≡ true
    → is_rarest s h w b.piece ≡ true → NoneBefore s h w (rank_at s h b.piece)
rarest_first s h w b near legal layout few top rare r lr fits =
    let own = candidate_block s h w r near layout lr fits in
    let low = top_above s h w b (block s.torrent r 0) top own.0 own.1 in
    let most = count_most s.workers (λ q. joined h q && shows h q b.piece) in
    let bound = level_bounded s h b.piece legal in
    ⊎_elim
    (λ (same : level h r ≡ level h b.piece).
    let less = rarer_than s h (is_candidate s h w) b.piece r rare lr fits same in
    let slot : (7 - level h r) * 65536 ≡ (7 - level h b.piece) * 65536 = ap (λ (m : ℕ). (7 - m) * 65536) same in
    omega (arith, slot, less))
    (λ (apart : level h r ≡ level h b.piece → ⊥). omega (arith, low, apart, most, bound, few))
    (cases_eq (level h r) (level h b.piece))

-- a request tells that no candidate is of a higher level
level_before : (s : Setting) (h : History) (w word : ℕ) (b : Block) → TakesAll h w → IsLayout s.torrent
    → IsAllowed s h (record { worker = w; action = Next word; reply = Request b }) → NoneBefore s h w ((7 - level h b.piece) * 65536)
level_before s h w word b near layout allowed r lr fits =
    let own = candidate_block s h w r near layout lr fits in
    let low = higher_first s h (record { worker = w; action = Next word; reply = Request b }) b allowed refl (block s.torrent r 0) own.0 own.1 in
    omega (arith, low)

never_both : (d t : Bool) → (not d && t) ≡ true → (not d && not t) ≡ true → ⊥
never_both true t is other = cc is
never_both false true is other = cc other
never_both false false is other = cc is

-- where no more pieces are open than may be, one that goes on is a rarest one
going_rarest : (s : Setting) (h : History) (w : ℕ) (b : Block) → is_block s.torrent b ≡ true → continues s h w b ≡ true
    → nat_lt (had_count s h) s.random ≡ false → open_count s h ≤ s.most_open → is_rarest s h w b.piece ≡ true
going_rarest s h w b inside on settled few = by_bound (s.most_open == 0) refl goes.1 where
  parts : (tops s h w b ≡ true) × ((begun s h b.piece && goes_first s h w b.piece) ≡ true)
  parts = and_parts (tops s h w b) _ on

  goes : (begun s h b.piece ≡ true) × (goes_first s h w b.piece ≡ true)
  goes = and_parts (begun s h b.piece) (goes_first s h w b.piece) parts.1

  loose : is_strict s h ≡ false
  loose = λ i. le-ltb s.most_open (open_count s h) few i || settled i

  by_bound : (x : Bool) → (s.most_open == 0) ≡ x
      → (x || (none_rarer s h (resumes s h w) b.piece && (is_strict s h || is_rarest s h w b.piece))) ≡ true → is_rarest s h w b.piece ≡ true
  by_bound true is first =
      let resumed = usable_resumes s h w b inside (top_usable s h w b parts.0) goes.0 in
      let some = count_found (piece_count s.torrent) (is_open_piece s h) b.piece (block_index s.torrent b inside).piece
      (and_parts (is_open_piece s h b.piece) _ resumed).0 in
      let none = eqb-true s.most_open 0 is in
      absurd (omega (arith, some, none, few))
  by_bound false is first =
      sym (ap (λ (x : Bool). x || is_rarest s h w b.piece) loose)
      ∙ (and_parts (none_rarer s h (resumes s h w) b.piece) (is_strict s h || is_rarest s h w b.piece) first).1

module _ (s : Setting) (h : History) (w word : ℕ) (near : TakesAll h w) (legal : IsLegal s h) (layout : IsLayout s.torrent) (few : s.workers < 65536) where
  -- once enough pieces are had, and while pieces don't come in order, a piece that begins ranks first, and so does one that goes on while no more
  -- are open than may be
  pub asked_first : (b : Block) → IsAllowed s h (record { worker = w; action = Next word; reply = Request b }) →
      comes_in_order h b.piece ≡ false → nat_lt (had_count s h) s.random ≡ false
      → (unbegun s h b.piece ≡ true) ⊎ (open_count s h ≤ s.most_open) → NoneBefore s h w (rank_at s h b.piece)
  asked_first b allowed unordered settled leads =
      let e : Event = record { worker = w; action = Next word; reply = Request b } in
      let permitted = answered s h e (no_cause s h e (λ reason refused. absurd (cc refused)) allowed) allowed in
      let facts = next_request s.torrent _ _ _ _ _ _ _ _ _ _ _ _ _ b (subst (λ (a : _). Permits s.torrent a (Request b)) (next_is s h w) permitted) in
      ⊎_elim
      (λ (on : continues s h w b ≡ true). rarest_first s h w b near legal layout few (and_parts (tops s h w b) _ on).0 (⊎_elim
      (λ (fresh : unbegun s h b.piece ≡ true). absurd (never_both (had h b.piece) (some_block_of s.torrent b.piece (held_or_asked s h))
      (and_parts (begun s h b.piece) _ (and_parts (tops s h w b) _ on).1).0 fresh))
      (λ (room : open_count s h ≤ s.most_open). going_rarest s h w b facts.block on settled room)
      leads))
      (λ rest. ⊎_elim
      (λ (first : (some_block s.torrent (continues s h w) ≡ false) × (starts s h w b ≡ true)).
      let parts = and_parts (tops s h w b) _ first.1 in
      rarest_first s h w b near legal layout few parts.0 (sym (ap (λ (x : Bool). x || is_rarest s h w b.piece) settled)
      ∙ (and_parts (unbegun s h b.piece) (nat_lt (had_count s h) s.random || is_rarest s h w b.piece) parts.1).1))
      (λ (none : some_block s.torrent (usable s h w) ≡ false). none_usable s h w (rank_at s h b.piece) near layout none)
      rest)
      (facts.unordered (none_in_order s h w b permitted unordered))

  -- where nothing is to be asked there is no candidate
  pub idle_before : (n : ℕ) (reply : Reply) → (reply ≡ Idle) ⊎ (reply ≡ NothingLeft) →
      IsAllowed s h (record { worker = w; action = Next word; reply = reply }) → NoneBefore s h w n
  idle_before n reply why allowed =
      let e : Event = record { worker = w; action = Next word; reply = reply } in
      let permitted = answered s h e (no_cause s h e (λ reason refused. unrefused reply reason why refused) allowed) allowed in
      none_usable s h w n near layout (idle_cases s.torrent _ _ _ _ _ _ _ _ _ _ _ _ _ reply why
      (subst (λ (a : _). Permits s.torrent a reply) (next_is s h w) permitted))
    where
      unrefused : (r : Reply) (reason : _) → (r ≡ Idle) ⊎ (r ≡ NothingLeft) → r ≡ said.Refused reason → ⊥
      unrefused r reason (inl is) refused = cc (is, refused)
      unrefused r reason (inr is) refused = cc (is, refused)

-- ---- the tables before an entry

fewer : (t : TablesState) (h : History) → AreTables t h → t.setting.workers < 65536
fewer t h are = omega (arith, are.few)

-- what the list of open pieces tells of how many there are
few_open : (t : TablesState) (h : History) → AreTables t h → (found : List ℕ) → FewOpen t found → open_count t.setting h ≤ t.setting.most_open
few_open t h are found few =
    let rows : map group_of_row t.pieces ≡ groups_of t.setting h = ap (map group_of_row) are.pieces_are ∙ map_table group_of_row _ _ in
    let length_is = open_length t.setting h found (subst (λ (groups : List ℕ). ListsOpen groups found) rows few.lists) few.rise in
    subst (λ (m : ℕ). m ≤ t.setting.most_open) length_is few.few

-- a peer whose row has a full reach reaches each piece
takes_all : (t : TablesState) (h : History) (w : ℕ) → AreTables t h → w < t.setting.workers → (peer_row t.peers w).reach ≡ MOST_LEVEL
    → (peer_row t.peers w).overdue ≡ [] → TakesAll h w
takes_all t h w are lw full prompt =
    let row = get_or_is_table t.peers t.setting.workers (peer_of t.setting h) w (fresh_peer 0 0) are.peers_are lw in
    let own : reach h w ≡ MOST_LEVEL = sym (ap (λ (r : PeerState). r.reach) row) ∙ full in (
      λ p. (let most = level_bounded t.setting h p are.legal in omega (arith, own, most)),
      λ b. none_overdue h w b (sym (ap (λ (r : PeerState). r.overdue) row) ∙ prompt),
    )

-- what a reply to Next tells is a floor, where the peer's reach is full and it is late with nothing
pub told_floor : (t : TablesState) (h : History) (w word n : ℕ) (reply : Reply) → AreTables t h →
    IsAllowed t.setting h (record { worker = w; action = Next word; reply = reply })
    → w < t.setting.workers → (peer_row t.peers w).reach ≡ MOST_LEVEL → (peer_row t.peers w).overdue ≡ [] → TellsFloor t reply n → IsFloor t.pieces (peer_row t.peers w) n
told_floor t h w word n (Request b) are allowed lw full prompt (inl told) =
    let s = t.setting in
    let lp : b.piece < piece_count s.torrent = subst (λ (m : ℕ). b.piece < m) are.pieces_len told.0.within in
    let row = row_is t h w are lw b.piece lp in
    let unordered = (λ i. nat_le (sym are.order_is i) (sym (ap (λ (r : PieceState). r.level) row) i)) ∙ told.0.unordered in
    let had = ap (count_by (λ (r : PieceState). r.had)) are.pieces_are ∙ had_rows s h in
    let settled = le-ltb (had_count s h) s.random (subst (λ (m : ℕ). s.random ≤ m) had told.0.settled) in
    let leads : (unbegun s h b.piece ≡ true) ⊎ (open_count s h ≤ s.most_open) = ⊎_elim
    (λ (fresh : is_fresh (piece_row t.pieces b.piece) ≡ true). inl (fresh_unbegun s h b.piece (ap is_fresh (sym row) ∙ fresh)))
    (λ (some : (found : List ℕ) × FewOpen t found). inr (few_open t h are some.0 some.1))
    told.0.leads in
    let first = asked_first s h w word (takes_all t h w are lw full prompt) are.legal are.layout (fewer t h are) b allowed unordered settled leads in
    let is : n ≡ rank_at s h b.piece = told.1 ∙ ap rank_of_row row in
    before_floor t h w are lw n (takes_all t h w are lw full prompt).1 (subst (NoneBefore s h w) (sym is) first)
told_floor t h w word n (Request b) are allowed lw full prompt (inr told) =
    let s = t.setting in
    let row = row_is t h w are lw b.piece (subst (λ (m : ℕ). b.piece < m) are.pieces_len told.0) in
    let is : n ≡ (7 - level h b.piece) * 65536 = told.1 ∙ ap (λ (r : PieceState). (7 - r.level) * 65536) row in
    before_floor t h w are lw n (takes_all t h w are lw full prompt).1 (subst (NoneBefore s h w) (sym is) (level_before s h w word b (takes_all t h w are lw full prompt) are.layout allowed))
told_floor t h w word n Idle are allowed lw full prompt told = before_floor t h w are lw n (takes_all t h w are lw full prompt).1
    (idle_before t.setting h w word (takes_all t h w are lw full prompt) are.legal are.layout (fewer t h are) n Idle (inl refl) allowed)
told_floor t h w word n NothingLeft are allowed lw full prompt told = before_floor t h w are lw n (takes_all t h w are lw full prompt).1
    (idle_before t.setting h w word (takes_all t h w are lw full prompt) are.legal are.layout (fewer t h are) n NothingLeft (inr refl) allowed)
told_floor t h w word n reply are allowed lw full prompt told = absurd told

-- ---- a peer that shows a had or unwanted piece more

-- the rows' freshness is no matter of who shows them
counted_fresh : (rows : List PieceState) (p r : ℕ) (x y : Bool) → p < length rows
    → is_fresh (piece_row (edit rows p (λ row. more_available x (less_available y row))) r) ≡ is_fresh (piece_row rows r)
counted_fresh rows p r x y lp =
    let f : PieceState → PieceState = λ row. more_available x (less_available y row) in
    let is : set rows p (f (piece_row rows p)) ≡ edit rows p f = edit_read rows p f (piece_row rows p) (fresh_piece 0) lp refl in
    ap (λ (l : List PieceState). is_fresh (piece_row l r)) (sym is)
    ∙ dite (ℕ_discrete r p)
    (λ same. ap (λ (m : ℕ). is_fresh (piece_row (set rows p (f (piece_row rows p))) m)) same
    ∙ (ap is_fresh (get_or-set_same rows p (f (piece_row rows p)) (fresh_piece 0) lp) ∙ ap (λ (m : ℕ). is_fresh (piece_row rows m)) (sym same)))
    (λ other. ap is_fresh (get_or-set_other rows p r (f (piece_row rows p)) (fresh_piece 0) other))

-- where the reply to Have is that nothing interests, nothing that the peer shows is fresh
pub unnoted_floor : (t : TablesState) (h : History) (w p n : ℕ) → AreTables t h →
    IsAllowed t.setting h (record { worker = w; action = Have p; reply = said.Noted false })
    → w < t.setting.workers → p < piece_count t.setting.torrent → IsFloor (announced t w p).pieces (peer_row (announced t w p).peers w) n
unnoted_floor t h w p n are allowed lw lp r lr shown fresh = absurd (false≢true (uninterested ∙ interested)) where
  s : Setting
  s = t.setting

  e : Event
  e = record { worker = w; action = Have p; reply = said.Noted false }

  noted : Reply → Bool
  noted (said.Noted x) = x
  noted reply = false

  uninterested : false ≡ interesting_after s h w (Have p)
  uninterested = ap noted (answered s h e (no_cause s h e (λ reason refused. absurd (cc refused)) allowed) allowed)

  x : Bool
  x = not (slice_index_or (peer_row t.peers w).shows p false)

  in_rows : p < length t.pieces
  in_rows = subst (λ (m : ℕ). p < m) (sym are.pieces_len) lp

  within : r < piece_count s.torrent
  within = omega (arith, lr, length_edit t.pieces p (λ row. more_available x (less_available false row)), are.pieces_len)

  in_peers : w < length t.peers
  in_peers = subst (λ (m : ℕ). w < m) (sym are.peers_len) lw

  parts : (had h r ≡ false) × (chosen h r ≡ true) × (some_block_of s.torrent r (held_or_asked s h) ≡ false)
  parts =
      fresh_parts (had h r) (chosen h r) (some_block_of s.torrent r (held_or_asked s h))
      (sym (fresh_is s h r) ∙ (ap is_fresh (sym (row_is t h w are lw r within)) ∙ (sym (counted_fresh t.pieces p r x false in_rows) ∙ fresh)))

  own : peer_row (edit t.peers w (have_row p)) w ≡ have_row p (peer_row t.peers w)
  own =
      ap (λ (l : List PeerState). peer_row l w) (sym (edit_read t.peers w (have_row p) (peer_row t.peers w) (fresh_peer 0 0) in_peers refl))
      ∙ get_or-set_same t.peers w (have_row p (peer_row t.peers w)) (fresh_peer 0 0) in_peers

  flagged : slice_index_or (set (peer_row t.peers w).shows p true) r false ≡ true
  flagged = ap (λ (row : PeerState). slice_index_or row.shows r false) (sym own) ∙ shown

  shows_it : ((p == r) || shows h w r) ≡ true
  shows_it = dite (ℕ_discrete r p)
      (λ same. or_left (p == r) (shows h w r) (eq-eqb p r (sym same)))
      (λ other. or_right (p == r) (shows h w r) (sym (flag_is t h w are lw r within) ∙
      (sym (get_or-set_other (peer_row t.peers w).shows p r true false other) ∙ flagged)))

  interested : interesting_after s h w (Have p) ≡ true
  interested = lacks_found s h (λ m. (p == m) || shows h w m) r (wanted_chosen s h r within ∙ parts.1) shows_it parts.0 within
