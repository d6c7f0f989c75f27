-- Which pieces hold endgame up, and that none does where each awaited block is asked.
use Rattle.std.proofs.Common.{◌≡◌, ℕ, ◌+◌, ◌<◌, ◌≤◌, Bool, true, false, not, ◌&&◌, ◌||◌, List, Option, None, Some, length, refl, ap, sym, ◌∙◌, arith, subst}
use Rattle.std.specs.Prelude.{is_some, nat_lt, slice_get}
use Rattle.std.proofs.lemmas.Bool.{and_from, and_parts, cases_Bool, cases_lt, false≢true, false_from_ne_true, lt-ltb, ltb-true, not-false, not-true}
use Rattle.std.proofs.lemmas.Bool.{or_from, or_left, or_right}
use Rattle.std.proofs.lemmas.Option.{get_or_from_slice_get, slice_get_within}
use Rattle.std.proofs.Math.Bool.{and-true}
use Rattle.std.proofs.Common.{⊎_elim}
use Rattle.bt_meta.specs.Layout.{IsLayout, piece_count, block_count, block}
use Rattle.bt_history.specs.Setting.{Setting, each_block, each_block_of, some_block_of}
use Rattle.bt_history.specs.History.{History}
use Rattle.bt_history.specs.Legal.{IsLegal}
use Rattle.bt_history.specs.Pieces.{availability, awaited, begun, had, held, held_or_asked, is_open_piece, level, unasked, unbegun, wanted}
use Rattle.bt_history.proofs.Below.{all_at, all_fails, all_found, any_fails, any_found, any_witness}
use Rattle.bt_history.proofs.HeldLaws.{had_full}
use Rattle.bt_tables.specs.Orders.{at}
use Rattle.bt_tables.specs.Standings.{ListsOpen, first_group, group_number, group_of_row}
use Rattle.bt_tables.specs.declared.piece.Stage.TheVariants.{Unbegun}
use Rattle.bt_tables.specs.declared.piece.TheConstants.{SPAN}
use Rattle.bt_picker.specs.Search.{FindsListed, FreshUnshown, IsHeldUp, IsLevel, holds_up}
use Rattle.bt_picker.specs.Tables.{groups_of, piece_of}
use Rattle.bt_picker.proofs.Leading.{open_stage, stage_opened}
use Rattle.bt_picker.proofs.Scans.{first_block}
use Rattle.bt_picker.proofs.Stages.{between_shown, listed_open, open_listed, open_within, shown_between}
use Rattle.bt_picker.proofs.Telling.{wanted_chosen}

-- ---- which pieces hold endgame up

module _ (s : Setting) (h : History) where
  -- a wanted piece that somebody shows is awaited
  seen_awaited : (p : ℕ) → wanted s h p ≡ true → 0 < availability s h p → awaited s h p ≡ true
  seen_awaited p wants some =
      and_from (wanted s h p) (not s.shown || nat_lt 0 (availability s h p)) wants
      (or_right (not s.shown) (nat_lt 0 (availability s h p)) (lt-ltb 0 (availability s h p) some))

  -- an open piece that somebody shows holds it up
  open_holds : (p : ℕ) → is_open_piece s h p ≡ true → 0 < availability s h p → holds_up s h p ≡ true
  open_holds p is some =
      let parts = and_parts (wanted s h p) _ is in
      and_from (awaited s h p) (some_block_of s.torrent p (unasked s h)) (seen_awaited p parts.0 some)
      (and_parts (begun s h p) (some_block_of s.torrent p (unasked s h)) parts.1).1

  -- so does an unbegun one
  fresh_holds : (p : ℕ) → IsLayout s.torrent → p < piece_count s.torrent → wanted s h p ≡ true → some_block_of s.torrent p (held_or_asked s h) ≡ false
      → 0 < availability s h p → holds_up s h p ≡ true
  fresh_holds p layout lp wants fresh some =
      let first = first_block s.torrent p layout lp in
      and_from (awaited s h p) (some_block_of s.torrent p (unasked s h)) (seen_awaited p wants some)
      (any_found (block_count s.torrent p) (λ k. unasked s h (block s.torrent p k)) 0 first
      (ap not (any_fails (block_count s.torrent p) (λ k. held_or_asked s h (block s.torrent p k)) 0 fresh first)))

  -- among the listed open pieces one that somebody shows
  pub open_found : (pieces : List ℕ) (found : Option ℕ) → ListsOpen (groups_of s h) pieces
      → FindsListed (λ p. nat_lt 0 (availability s h p)) pieces (length pieces) found → is_some found ≡ true → IsHeldUp s h
  open_found pieces None lists none is = absurd (false≢true is)
  open_found pieces (Some p) lists some is =
      let i = some.1.0 in
      let lp = subst (λ (r : ℕ). r < piece_count s.torrent) some.1.2 (open_within s h pieces lists i some.1.1) in
      let opened = subst (λ (r : ℕ). is_open_piece s h r ≡ true) some.1.2
      (stage_opened s h (at pieces i) (open_within s h pieces lists i some.1.1) (listed_open s h pieces lists i some.1.1)) in
      (p, lp, open_holds p opened (ltb-true 0 (availability s h p) some.0))

  -- the first of them
  pub open_first : (pieces : List ℕ) (p : ℕ) → ListsOpen (groups_of s h) pieces → Some p ≡ slice_get pieces 0
      → (p < piece_count s.torrent) × (0 < availability s h p → IsHeldUp s h)
  open_first pieces p lists first =
      let within = slice_get_within pieces 0 p (sym first) in
      let here : at pieces 0 ≡ p = get_or_from_slice_get pieces 0 p 0 (sym first) in (
        subst (λ (r : ℕ). r < piece_count s.torrent) here (open_within s h pieces lists 0 within),
        λ some. open_found pieces (Some p) lists (lt-ltb 0 (availability s h p) some, (0, within, here)) refl,
      )

  -- or none of them is shown by anybody
  pub open_missing : (pieces : List ℕ) (found : Option ℕ) → ListsOpen (groups_of s h) pieces
      → FindsListed (λ p. nat_lt 0 (availability s h p)) pieces (length pieces) found → is_some found ≡ false
      → (p : ℕ) → p < piece_count s.torrent → is_open_piece s h p ≡ true → availability s h p ≡ 0
  open_missing pieces (Some r) lists some is p lp opened = absurd (false≢true (sym is))
  open_missing pieces None lists none is p lp opened =
      let listed = open_listed s h pieces p lists lp (open_stage s h p lp opened) in
      none_shown p (ap (λ (r : ℕ). nat_lt 0 (availability s h r)) (sym listed.2) ∙ none listed.0 listed.1)
    where
      none_shown : (r : ℕ) → nat_lt 0 (availability s h r) ≡ false → availability s h r ≡ 0
      none_shown r isnt = ⊎_elim
          (λ (some : 0 < availability s h r). absurd (false≢true (sym isnt ∙ lt-ltb 0 (availability s h r) some)))
          (λ (few : availability s h r ≤ 0). omega (arith, few))
          (cases_lt 0 (availability s h r))

  -- a piece in the groups of the shown unbegun ones of a level
  pub fresh_found : (n : ℕ) → IsLegal s h → IsLayout s.torrent → IsLevel n
      → ((p : ℕ) × (p < piece_count s.torrent) × (group_number n (Unbegun 1) ≤ group_of_row (piece_of s h p))
      × (group_of_row (piece_of s h p) < first_group n + SPAN)) → IsHeldUp s h
  fresh_found n legal layout is found =
      let known = between_shown s h found.0 n legal is found.2 found.3 in
      (found.0, found.1, fresh_holds found.0 layout found.1 (wanted_chosen s h found.0 found.1 ∙ known.2) known.3 known.4)

  -- or none of the level is shown
  pub fresh_missing : (n : ℕ) → IsLevel n
      → ((p : ℕ) → p < piece_count s.torrent → group_number n (Unbegun 1) ≤ group_of_row (piece_of s h p)
      → first_group n + SPAN ≤ group_of_row (piece_of s h p)) → FreshUnshown s h n
  fresh_missing n is none p lp same fresh = ⊎_elim
      (λ (some : 0 < availability s h p).
      let parts = and_parts (not (had h p)) (not (some_block_of s.torrent p (held_or_asked s h))) fresh in
      let picked = lt-ltb 0 (level h p) (omega (arith, same, is.0)) in
      let between = shown_between s h p n same (not-true (had h p) parts.0) picked
      (not-true (some_block_of s.torrent p (held_or_asked s h)) parts.1) some in
      absurd (omega (arith, between.1, none p lp between.0)))
      (λ (few : availability s h p ≤ 0). omega (arith, few))
      (cases_lt 0 (availability s h p))

  -- ---- all awaited blocks

  -- where no piece holds endgame up each awaited block is held or asked
  pub asked_all : ((p : ℕ) → p < piece_count s.torrent → holds_up s h p ≡ false)
      → each_block s.torrent (λ b. not (awaited s h b.piece) || held_or_asked s h b) ≡ true
  asked_all none = all_found (piece_count s.torrent) _ (λ p lp. all_found (block_count s.torrent p) _ (λ k lk.
      by_awaited p k lk (awaited s h p) (none p lp)))
    where
      by_awaited : (p k : ℕ) → k < block_count s.torrent p → (x : Bool) → (x && some_block_of s.torrent p (unasked s h)) ≡ false
          → (not x || held_or_asked s h (block s.torrent p k)) ≡ true
      by_awaited p k lk false isnt = refl
      by_awaited p k lk true isnt =
          not-false (held_or_asked s h (block s.torrent p k)) (any_fails (block_count s.torrent p) (λ j. unasked s h (block s.torrent p j)) k isnt lk)

  -- and where one does not each
  pub asked_not : IsHeldUp s h → each_block s.torrent (λ b. not (awaited s h b.piece) || held_or_asked s h b) ≡ false
  asked_not (p, lp, is) =
      let parts = and_parts (awaited s h p) (some_block_of s.torrent p (unasked s h)) is in
      let free = any_witness (block_count s.torrent p) (λ k. unasked s h (block s.torrent p k)) parts.1 in
      all_fails (piece_count s.torrent) (λ r. each_block_of s.torrent r (λ b. not (awaited s h b.piece) || held_or_asked s h b)) p lp
      (all_fails (block_count s.torrent p) (λ k. not (awaited s h p) || held_or_asked s h (block s.torrent p k)) free.0 free.1
      (or_from (not (awaited s h p)) (held_or_asked s h (block s.torrent p free.0)) (ap not parts.0)
      (not-true (held_or_asked s h (block s.torrent p free.0)) free.2)))

  -- where each wanted block is, each awaited one is
  pub wanted_all : each_block s.torrent (λ b. not (wanted s h b.piece) || held_or_asked s h b) ≡ true
      → each_block s.torrent (λ b. not (awaited s h b.piece) || held_or_asked s h b) ≡ true
  wanted_all all = all_found (piece_count s.torrent) _ (λ p lp. all_found (block_count s.torrent p) _ (λ k lk.
      looser (wanted s h p) (not s.shown || nat_lt 0 (availability s h p)) (held_or_asked s h (block s.torrent p k))
      (all_at (block_count s.torrent p) (λ j. not (wanted s h p) || held_or_asked s h (block s.torrent p j)) k
      (all_at (piece_count s.torrent) (λ r. each_block_of s.torrent r (λ b. not (wanted s h b.piece) || held_or_asked s h b)) p all lp) lk)))
    where
      looser : (w y x : Bool) → (not w || x) ≡ true → (not (w && y) || x) ≡ true
      looser true true x is = is
      looser true false x is = refl
      looser false y x is = refl

  -- where endgame waits for all, the awaited ones are the wanted ones
  pub waits_for_all : s.shown ≡ false → each_block s.torrent (λ b. not (awaited s h b.piece) || held_or_asked s h b)
      ≡ each_block s.torrent (λ b. not (wanted s h b.piece) || held_or_asked s h b)
  waits_for_all all = λ i. each_block s.torrent (λ b. not (same b.piece i) || held_or_asked s h b) where
    same : (p : ℕ) → awaited s h p ≡ wanted s h p
    same p = (λ i. wanted s h p && (not (all i) || nat_lt 0 (availability s h p))) ∙ and-true (wanted s h p)

  -- where nobody shows an open piece, or a wanted unbegun one, no piece holds endgame up
  pub none_holds_up : IsLegal s h → s.shown ≡ true
      → ((p : ℕ) → p < piece_count s.torrent → is_open_piece s h p ≡ true → availability s h p ≡ 0)
      → ((p : ℕ) → p < piece_count s.torrent → 0 < level h p → unbegun s h p ≡ true → availability s h p ≡ 0)
      → (p : ℕ) → p < piece_count s.torrent → holds_up s h p ≡ false
  none_holds_up legal rule open_none fresh_none p lp = false_from_ne_true (holds_up s h p) (λ is.
      let parts = and_parts (awaited s h p) (some_block_of s.torrent p (unasked s h)) is in
      let waits = and_parts (wanted s h p) (not s.shown || nat_lt 0 (availability s h p)) parts.0 in
      let some : 0 < availability s h p = ltb-true 0 (availability s h p)
      (sym (ap (λ (x : Bool). not x || nat_lt 0 (availability s h p)) rule) ∙ waits.1) in
      let picked = ltb-true 0 (level h p) (sym (wanted_chosen s h p lp) ∙ waits.0) in
      let free = any_witness (block_count s.torrent p) (λ k. unasked s h (block s.torrent p k)) parts.1 in
      let lacks = false_from_ne_true (had h p) (λ has.
      false≢true (sym (not-true (held_or_asked s h (block s.torrent p free.0)) free.2)
      ∙ or_left (held h (block s.torrent p free.0)) _ (had_full s h p free.0 legal has free.1))) in
      ⊎_elim
      (λ (on : some_block_of s.torrent p (held_or_asked s h) ≡ true).
      let none = open_none p lp (and_from (wanted s h p) _ waits.0 (and_from (begun s h p) _
      (and_from (not (had h p)) _ (ap not lacks) on) parts.1)) in
      omega (arith, none, some))
      (λ (off : some_block_of s.torrent p (held_or_asked s h) ≡ false).
      let none = fresh_none p lp picked (and_from (not (had h p)) _ (ap not lacks) (ap not off)) in
      omega (arith, none, some))
      (cases_Bool (some_block_of s.torrent p (held_or_asked s h))))
