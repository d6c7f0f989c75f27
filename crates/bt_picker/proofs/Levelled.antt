-- What may be asked of a peer of the pieces of one level, where no piece of a higher one has anything to ask.
use Rattle.std.proofs.Common.{◌≡◌, ◌⊎◌, ℕ, zero, suc, ◌+◌, ◌-◌, ◌<◌, ◌≤◌, ◌==◌, Bool, true, false, not, ◌&&◌, ◌||◌, Option, None, Some, List}
use Rattle.std.proofs.Common.{length, refl, ap, sym, ◌∙◌, subst, arith, ⊎_elim, inl, inr, min}
use Rattle.std.specs.Prelude.{IfSome, nat_le, nat_lt}
use Rattle.std.proofs.Math.Nat.{min-eq_left, min-eq_right}
use Rattle.std.proofs.lemmas.Bool.{and_from, and_parts, cases_Bool, cases_lt, eq-eqb, eqb-true, false≢true, false_from_ne_true, le-leb, leb-false, leb-true}
use Rattle.std.proofs.lemmas.Bool.{not-false, not-true, or_left, or_right}
use Rattle.bt_meta.specs.declared.block.Block.{Block}
use Rattle.bt_meta.specs.Layout.{IsLayout, piece_count, block_count, block}
use Rattle.bt_history.specs.Setting.{Setting, each_block_of, is_block, some_block, some_block_of}
use Rattle.bt_history.specs.History.{History}
use Rattle.bt_history.specs.Legal.{IsLegal}
use Rattle.bt_history.specs.Peers.{overdue, reach, shows}
use Rattle.bt_history.specs.Pieces.{asked_of_some, begun, chosen, comes_in_order, gives, had, had_count, held, held_or_asked, is_spent, level, offers}
use Rattle.bt_history.specs.Pieces.{order_from, unasked, unbegun, wanted}
use Rattle.bt_history.specs.Next.{continues, is_candidate, is_rarest, rises, starts, tops, tops_in_order, usable}
use Rattle.bt_history.proofs.Below.{all_fails, all_found, any_fails, any_found, any_none, any_witness}
use Rattle.bt_history.proofs.HeldLaws.{had_full}
use Rattle.bt_history.proofs.Levels.{top_above}
use Rattle.bt_history.proofs.LineLaws.{block_is_block, some_found}
use Rattle.bt_tables.specs.Orders.{at}
use Rattle.bt_tables.specs.declared.piece.Stage.TheVariants.{Open}
use Rattle.bt_tables.specs.Standings.{ListsOpen, first_group, group_number, group_of_row, place_of, stage_of_row}
use Rattle.bt_picker.specs.Search.{FindsLeast, FindsListed, FindsOf, IsLevel, NoneAbove, NoneAt, goes_on, is_candidate_at, lesser_of}
use Rattle.bt_picker.specs.Search.{is_left, serves_at, rank_of}
use Rattle.bt_picker.specs.Tables.{groups_of, piece_of}
use Rattle.bt_picker.proofs.Rarest.{at_level}
use Rattle.bt_history.proofs.Delays.{left_unspent}
use Rattle.bt_picker.proofs.Scans.{candidate_left, first_block, least_is_rarest, none_in_pieces, offered_left}
use Rattle.bt_picker.proofs.Stages.{begun_stage, candidate_at, candidate_parts, candidate_stage, level_chosen, listed_open, open_listed, open_within}
use Rattle.bt_picker.proofs.Stages.{stage_open}
use Rattle.bt_tables.proofs.Apart.{place_few}
use Rattle.bt_tables.specs.declared.piece.TheConstants.{SPAN}
use Rattle.bt_picker.proofs.Telling.{wanted_chosen}
use Rattle.bt_history.specs.Pieces.{is_free_for}
use Rattle.bt_history.proofs.Owning.{unbegun_free}
use Rattle.bt_picker.specs.Search.{serves}

-- a piece of this level that has a block to ask of the peer: it shows the piece, which is wanted, and of which a block is left
pub record Gives (s : Setting) (h : History) (q n p : ℕ) : Type 0 where
  pub within : p < piece_count s.torrent
  pub level_is : level h p ≡ n
  pub shown : shows h q p ≡ true
  pub picked : chosen h p ≡ true
  pub left : some_block_of s.torrent p (is_left s h q) ≡ true
  pub free : is_free_for s h q p ≡ true

-- ---- a piece with a usable block

pub usable_parts : (u w v o f : Bool) → (u && (w && (v && (o && f)))) ≡ true → (u ≡ true) × (w ≡ true) × (v ≡ true) × (o ≡ true) × (f ≡ true)
usable_parts true true true true true is = (refl, refl, refl, refl, refl)
usable_parts true true true true false is = absurd (false≢true is)
usable_parts true true true false f is = absurd (false≢true is)
usable_parts true true false o f is = absurd (false≢true is)
usable_parts true false v o f is = absurd (false≢true is)
usable_parts false w v o f is = absurd (false≢true is)

module _ (s : Setting) (h : History) (q p : ℕ) (legal : IsLegal s h) (lp : p < piece_count s.torrent)
    (some : some_block_of s.torrent p (usable s h q) ≡ true) where
  found : (k : ℕ) × (k < block_count s.torrent p) × (usable s h q (block s.torrent p k) ≡ true)
  found = (let w = any_witness (block_count s.torrent p) (λ k. usable s h q (block s.torrent p k)) some in (w.0, w.1, w.2))

  parts : (unasked s h (block s.torrent p found.0) ≡ true) × (wanted s h p ≡ true) × (gives h q p ≡ true)
      × (not (overdue h q (block s.torrent p found.0)) ≡ true) × (is_free_for s h q p ≡ true)
  parts = usable_parts (unasked s h (block s.torrent p found.0)) (wanted s h p) (gives h q p) (not (overdue h q (block s.torrent p found.0)))
      (is_free_for s h q p) found.2

  pub usable_shown : shows h q p ≡ true
  usable_shown = (and_parts (shows h q p) (nat_le (level h p) (reach h q)) parts.2).0

  pub usable_offered : offers s h q p ≡ true
  usable_offered = and_from (shows h q p) (not (is_spent s h q p)) usable_shown (ap not (left_unspent s h q p found.0 found.1 parts.0
      (not-true (overdue h q (block s.torrent p found.0)) parts.3)))

  pub usable_served : serves s h q p ≡ true
  usable_served = and_from (offers s h q p) (is_free_for s h q p) usable_offered parts.4

  free : held_or_asked s h (block s.torrent p found.0) ≡ false
  free = not-true (held_or_asked s h (block s.torrent p found.0)) parts.0

  pub usable_chosen : chosen h p ≡ true
  usable_chosen = sym (wanted_chosen s h p lp) ∙ parts.1

  pub usable_left : each_block_of s.torrent p (held_or_asked s h) ≡ false
  usable_left = all_fails (block_count s.torrent p) (λ k. held_or_asked s h (block s.torrent p k)) found.0 found.1 free

  pub usable_lacks : had h p ≡ false
  usable_lacks = false_from_ne_true (had h p) (λ was.
      let full = had_full s h p found.0 legal was found.1 in
      false≢true (sym free ∙ or_left (held h (block s.torrent p found.0)) (asked_of_some s h (block s.torrent p found.0)) full))

  -- it is begun, with an unasked block, or may be begun
  pub usable_piece : ((begun s h p ≡ true) × (stage_of_row (piece_of s h p) ≡ Open)) ⊎ (is_candidate s h q p ≡ true)
  usable_piece = by_touch (some_block_of s.torrent p (held_or_asked s h)) refl where
    by_touch : (x : Bool) → some_block_of s.torrent p (held_or_asked s h) ≡ x
        → ((begun s h p ≡ true) × (stage_of_row (piece_of s h p) ≡ Open)) ⊎ (is_candidate s h q p ≡ true)
    by_touch true is = inl (and_from (not (had h p)) _ (ap not usable_lacks) is, begun_stage s h p false usable_lacks usable_chosen is usable_left)
    by_touch false is = inr (and_from (wanted s h p) _ parts.1 (and_from (offers s h q p) _ usable_offered (and_from (not (had h p)) _ (ap not usable_lacks)
        (ap not is))))

  pub usable_block : (k : ℕ) × (k < block_count s.torrent p) × (usable s h q (block s.torrent p k) ≡ true)
  usable_block = found

-- ---- nothing to ask at a level

-- where nothing goes on and nothing may begin
pub none_at : (s : Setting) (h : History) (q n : ℕ) → IsLegal s h → some_block s.torrent (goes_on s h q n) ≡ false
    → ((p : ℕ) → p < piece_count s.torrent → is_candidate_at s h q n p ≡ false) → NoneAt s h q n
none_at s h q n legal no_more no_start p lp same = false_from_ne_true (some_block_of s.torrent p (usable s h q)) (λ some.
    let found = usable_block s h q p legal lp some in
    let b = block s.torrent p found.0 in
    ⊎_elim
    (λ (on : (begun s h p ≡ true) × (stage_of_row (piece_of s h p) ≡ Open)).
    false≢true (sym no_more ∙ some_found s.torrent (goes_on s h q n) b (block_is_block s.torrent p found.0 lp found.1)
    (and_from (usable s h q b) _ found.2 (and_from (begun s h p) (level h p == n) on.0 (eq-eqb (level h p) n same)))))
    (λ (may : is_candidate s h q p ≡ true). false≢true (sym (no_start p lp) ∙ candidate_at s h q n p may same))
    (usable_piece s h q p legal lp some))

-- beyond the peer's reach nothing is to be asked
pub beyond_reach : (s : Setting) (h : History) (q n : ℕ) → nat_le n (reach h q) ≡ false → NoneAt s h q n
beyond_reach s h q n far p lp same = false_from_ne_true (some_block_of s.torrent p (usable s h q)) (λ some.
    let w = any_witness (block_count s.torrent p) (λ k. usable s h q (block s.torrent p k)) some in
    let known = usable_parts (unasked s h (block s.torrent p w.0)) (wanted s h p) (gives h q p) (not (overdue h q (block s.torrent p w.0)))
    (is_free_for s h q p) w.2 in
    false≢true (sym far ∙ (ap (λ (m : ℕ). nat_le m (reach h q)) (sym same) ∙ (and_parts (shows h q p) (nat_le (level h p) (reach h q)) known.2).1)))

-- where no piece is in the groups of the open and the unbegun ones of a level
pub no_group : (s : Setting) (h : History) (q n low high : ℕ) → IsLegal s h → low ≡ group_number n Open → high ≡ first_group n + SPAN
    → ((p : ℕ) → p < piece_count s.torrent → low ≤ group_of_row (piece_of s h p) → high ≤ group_of_row (piece_of s h p))
    → NoneAt s h q n
no_group s h q n low high legal low_is high_is empty p lp same = false_from_ne_true (some_block_of s.torrent p (usable s h q)) (λ some.
    let few = place_few (stage_of_row (piece_of s h p)) in
    let slot : first_group (level h p) ≡ first_group n = ap first_group same in
    let least : place_of Open ≤ place_of (stage_of_row (piece_of s h p)) = ⊎_elim
    (λ (on : (begun s h p ≡ true) × (stage_of_row (piece_of s h p) ≡ Open)). omega (arith, ap place_of on.1))
    (λ (may : is_candidate s h q p ≡ true). omega (arith, ap place_of (candidate_stage s h q p may).1))
    (usable_piece s h q p legal lp some) in
    let far = empty p lp (omega (arith, slot, low_is, least)) in
    omega (arith, far, high_is, slot, few))

-- ---- what is above a level

-- the levels that were gone through are those of all wanted pieces
abbrev pub Covers : Setting → History → ℕ → Type 0
Covers s h slot = (p : ℕ) → p < piece_count s.torrent → 0 < level h p → 7 - slot < level h p

-- more levels cover too
pub covers_more : (s : Setting) (h : History) (last slot : ℕ) → last ≤ slot → Covers s h last → Covers s h slot
covers_more s h last slot le covers p lp some = (let high = covers p lp some in omega (arith, high, le))

-- what holds of no wanted piece holds of none
pub none_usable : (s : Setting) (h : History) (q slot : ℕ) → IsLegal s h → Covers s h slot → NoneAbove s h q (7 - slot)
    → some_block s.torrent (usable s h q) ≡ false
none_usable s h q slot legal covers above = none_in_pieces s.torrent (usable s h q) (λ p lp.
    false_from_ne_true (some_block_of s.torrent p (usable s h q)) (λ some.
    let picked = usable_chosen s h q p legal lp some in
    false≢true (sym (above p lp (covers p lp (level_above h p picked))) ∙ some)))
  where
    level_above : (g : History) (r : ℕ) → chosen g r ≡ true → 0 < level g r
    level_above g r is = by_level (level g r) is where
      by_level : (m : ℕ) → nat_lt 0 m ≡ true → 0 < m
      by_level zero some = absurd (false≢true some)
      by_level (suc m) some = omega arith

module _ (s : Setting) (h : History) (q n : ℕ) (above : NoneAbove s h q n) where
  -- a usable block has no higher level
  pub usable_below : (p : ℕ) → p < piece_count s.torrent → some_block_of s.torrent p (usable s h q) ≡ true → level h p ≤ n
  usable_below p lp some = ⊎_elim
      (λ (high : n < level h p). absurd (false≢true (sym (above p lp high) ∙ some)))
      (λ (low : level h p ≤ n). low)
      (cases_lt n (level h p))

  -- so one of this level tops
  pub tops_at : (b : Block) → usable s h q b ≡ true → level h b.piece ≡ n → tops s h q b ≡ true
  tops_at b fits same =
      and_from (usable s h q b) _ fits (all_found (piece_count s.torrent)
      (λ p. each_block_of s.torrent p (λ c. not (usable s h q c) || nat_le (level h c.piece) (level h b.piece)))
      (λ p lp. all_found (block_count s.torrent p) (λ k. not (usable s h q (block s.torrent p k)) || nat_le (level h p) (level h b.piece))
      (λ k lk. ⊎_elim
      (λ (is : usable s h q (block s.torrent p k) ≡ true).
      let low = usable_below p lp (any_found (block_count s.torrent p) (λ j. usable s h q (block s.torrent p j)) k lk is) in
      or_right (not (usable s h q (block s.torrent p k))) _ (le-leb (level h p) (level h b.piece) (omega (arith, low, same))))
      (λ (isnt : usable s h q (block s.torrent p k) ≡ false). or_left (not (usable s h q (block s.torrent p k))) _ (ap not isnt))
      (cases_Bool (usable s h q (block s.torrent p k))))))

  -- where pieces of this level don't come in order nothing that tops is of a level that does
  pub none_in_order_at : nat_le (order_from h) n ≡ false → some_block s.torrent (tops_in_order s h q) ≡ false
  none_in_order_at unordered = none_in_pieces s.torrent (tops_in_order s h q) (λ p lp.
      any_none (block_count s.torrent p) (λ k. tops_in_order s h q (block s.torrent p k)) (λ k lk.
      false_from_ne_true (tops_in_order s h q (block s.torrent p k)) (λ both.
      let c = block s.torrent p k in
      let parts = and_parts (tops s h q c) (comes_in_order h p) both in
      let usage = (and_parts (usable s h q c) _ parts.0).0 in
      let low = usable_below p lp (any_found (block_count s.torrent p) (λ j. usable s h q (block s.torrent p j)) k lk usage) in
      let from = leb-true (order_from h) (level h p) parts.1 in
      let beyond = leb-false (order_from h) n unordered in
      omega (arith, low, from, beyond))))

  -- where no block of a begun piece is usable at this level, but another block of the level is, nothing continues
  pub none_continues : (b : Block) → is_block s.torrent b ≡ true → usable s h q b ≡ true → level h b.piece ≡ n
      → some_block s.torrent (goes_on s h q n) ≡ false → some_block s.torrent (continues s h q) ≡ false
  none_continues b inside fits same none = none_in_pieces s.torrent (continues s h q) (λ p lp.
      any_none (block_count s.torrent p) (λ k. continues s h q (block s.torrent p k)) (λ k lk.
      false_from_ne_true (continues s h q (block s.torrent p k)) (λ on.
      let c = block s.torrent p k in
      let parts = and_parts (tops s h q c) _ on in
      let under_way = (and_parts (begun s h p) _ parts.1).0 in
      let usage = (and_parts (usable s h q c) _ parts.0).0 in
      let low = usable_below p lp (any_found (block_count s.torrent p) (λ j. usable s h q (block s.torrent p j)) k lk usage) in
      let high = top_above s h q c b parts.0 inside fits in
      let level_is : level h p ≡ n = omega (arith, low, high, same) in
      false≢true (sym none ∙ some_found s.torrent (goes_on s h q n) c (block_is_block s.torrent p k lp lk)
      (and_from (usable s h q c) _ usage (and_from (begun s h p) (level h p == n) under_way (eq-eqb (level h p) n level_is)))))))

-- ---- pieces that give

-- where not each block is held or asked one is unasked
some_unasked : (s : Setting) (h : History) (p : ℕ) → each_block_of s.torrent p (held_or_asked s h) ≡ false → some_block_of s.torrent p (unasked s h) ≡ true
some_unasked s h p left = by_left (some_block_of s.torrent p (unasked s h)) refl where
  by_left : (x : Bool) → some_block_of s.torrent p (unasked s h) ≡ x → x ≡ true
  by_left true some = refl
  by_left false none = absurd (false≢true (sym left ∙ all_found (block_count s.torrent p)
      (λ k. held_or_asked s h (block s.torrent p k)) (λ k lk. not-false (held_or_asked s h (block s.torrent p k))
      (any_fails (block_count s.torrent p) (λ j. unasked s h (block s.torrent p j)) k none lk))))

module _ (s : Setting) (h : History) (q n p : ℕ) (layout : IsLayout s.torrent) (is : IsLevel n) where
  -- an open piece that is served gives
  pub open_gives : p < piece_count s.torrent → stage_of_row (piece_of s h p) ≡ Open → serves_at s h q n p ≡ true → Gives s h q n p
  open_gives lp stage shown =
      let known = stage_open s h p stage in
      let at_it = and_parts (serves s h q p) (level h p == n) shown in
      let part = and_parts (offers s h q p) (is_free_for s h q p) at_it.0 in
      let offered = and_parts (shows h q p) (not (is_spent s h q p)) part.0 in
      record {
        within = lp;
        level_is = eqb-true (level h p) n at_it.1;
        shown = offered.0;
        picked = known.1;
        left = offered_left s h q p (some_unasked s h p known.3) (not-true (is_spent s h q p) offered.1);
        free = part.1;
      }

  -- so does a candidate
  pub candidate_gives : p < piece_count s.torrent → is_candidate_at s h q n p ≡ true → Gives s h q n p
  candidate_gives lp may =
      let level_is = at_level s h q n p may in
      let known = candidate_parts s h q p level_is.0 in
      let some = first_block s.torrent p layout lp in
      record {
        within = lp;
        level_is = level_is.1;
        shown = known.1;
        picked = level_chosen h p n is level_is.1;
        left = candidate_left s h q p some level_is.0;
        free = unbegun_free s h q p (and_from (not (had h p)) _ (ap not known.2) (ap not known.3));
      }

-- in a piece that gives a block that is left is usable
pub given_block : (s : Setting) (h : History) (q n p : ℕ) (b : Block) → n ≤ reach h q → Gives s h q n p → FindsOf s.torrent p (is_left s h q) (Some b)
    → (is_block s.torrent b ≡ true) × (b.piece ≡ p) × (usable s h q b ≡ true)
given_block s h q n p b near has some = (
  ap (is_block s.torrent) some.2 ∙ block_is_block s.torrent p some.0 has.within some.1,
  ap (λ (c : Block). c.piece) some.2,
  ap (usable s h q) some.2 ∙ (
      let parts = and_parts (unasked s h (block s.torrent p some.0)) (not (overdue h q (block s.torrent p some.0)))
      (ap (is_left s h q) (sym some.2) ∙ some.3) in
      and_from (unasked s h (block s.torrent p some.0)) _ parts.0
      (and_from (wanted s h p) _ (wanted_chosen s h p has.within ∙ has.picked)
      (and_from (gives h q p) _
      (and_from (shows h q p) (nat_le (level h p) (reach h q)) has.shown
      (le-leb (level h p) (reach h q) (let same = has.level_is in omega (arith, near, same))))
      (and_from (not (overdue h q (block s.torrent p some.0))) (is_free_for s h q p) parts.1 has.free)))),
)

-- and one is found
pub given : (s : Setting) (h : History) (q n p : ℕ) (found : Option Block) → n ≤ reach h q → Gives s h q n p → FindsOf s.torrent p (is_left s h q) found
    → (b : Block) × (found ≡ Some b) × (is_block s.torrent b ≡ true) × (b.piece ≡ p) × (usable s h q b ≡ true)
given s h q n p None near has none = absurd (false≢true (sym none ∙ has.left))
given s h q n p (Some b) near has some = (let known = given_block s h q n p b near has some in (b, refl, known.0, known.1, known.2))

module _ (s : Setting) (h : History) (q n : ℕ) (above : NoneAbove s h q n) where
  -- the first block left of the candidate that ranks first may be asked for
  pub candidate_starts : (p : ℕ) (rare : Bool) → n ≤ reach h q → IsLayout s.torrent → rare ≡ not (nat_lt (had_count s h) s.random) → p < piece_count s.torrent
      → FindsLeast (is_candidate_at s h q n) (rank_of s h rare) 0 (piece_count s.torrent) (Some p) → IsLevel n
      → (b : Block) → FindsOf s.torrent p (is_left s h q) (Some b)
      → (is_block s.torrent b ≡ true) × (usable s h q b ≡ true) × (level h b.piece ≡ n) × (starts s h q b ≡ true)
  candidate_starts p rare near layout rare_is lp found is_level b finds =
      let is = at_level s h q n p found.0 in
      let fresh = candidate_parts s h q p is.0 in
      let known = given_block s h q n p b near (candidate_gives s h q n p layout is_level lp found.0) finds in
      let same = known.1 in (
        known.0,
        known.2,
        ap (level h) same ∙ is.1,
        and_from (tops s h q b) _ (tops_at s h q n above b known.2 (ap (level h) same ∙ is.1))
            (subst (λ (r : ℕ). (unbegun s h r && (nat_lt (had_count s h) s.random || is_rarest s h q r)) ≡ true) (sym same)
            (and_from (unbegun s h p) _ (and_from (not (had h p)) _ (ap not fresh.2) (ap not fresh.3))
            (by_rank rare rare_is (λ r lr fits alike. found.1 r (omega arith) lr (candidate_at s h q n r fits (alike ∙ is.1)))))),
      )
    where
      by_rank : (x : Bool) → x ≡ not (nat_lt (had_count s h) s.random) →
          ((r : ℕ) → r < piece_count s.torrent → is_candidate s h q r ≡ true → level h r ≡ level h p → rank_of s h x p ≤ rank_of s h x r)
          → (nat_lt (had_count s h) s.random || is_rarest s h q p) ≡ true
      by_rank true x_is least = or_right (nat_lt (had_count s h) s.random) (is_rarest s h q p) (least_is_rarest s h q p least)
      by_rank false x_is least = or_left (nat_lt (had_count s h) s.random) (is_rarest s h q p) (never (nat_lt (had_count s h) s.random) (sym x_is))
        where
          never : (x : Bool) → not x ≡ false → x ≡ true
          never true is = refl
          never false is = absurd (false≢true (sym is))

-- ---- begun pieces

-- a block that goes on is of an open piece that is listed and shown
goes_on_listed : (s : Setting) (h : History) (q n : ℕ) (pieces : List ℕ) → IsLegal s h → ListsOpen (groups_of s h) pieces → (p k : ℕ)
    → p < piece_count s.torrent → k < block_count s.torrent p → goes_on s h q n (block s.torrent p k) ≡ true
    → (i : ℕ) × (i < length pieces) × (at pieces i ≡ p) × (serves_at s h q n (at pieces i) ≡ true)
goes_on_listed s h q n pieces legal lists p k lp lk on =
    let parts = and_parts (usable s h q (block s.torrent p k)) _ on in
    let rest = and_parts (begun s h p) (level h p == n) parts.1 in
    let some = any_found (block_count s.torrent p) (λ j. usable s h q (block s.torrent p j)) k lk parts.0 in
    let begun_parts = and_parts (not (had h p)) (some_block_of s.torrent p (held_or_asked s h)) rest.0 in
    let stage = begun_stage s h p false (usable_lacks s h q p legal lp some) (usable_chosen s h q p legal lp some) begun_parts.1
    (usable_left s h q p legal lp some) in
    let listed = open_listed s h pieces p lists lp stage in (
      listed.0,
      listed.1,
      listed.2,
      ap (serves_at s h q n) listed.2 ∙ and_from (serves s h q p) (level h p == n) (usable_served s h q p legal lp some) rest.1,
    )

-- where no open piece of the level is offered nothing goes on
pub goes_on_none : (s : Setting) (h : History) (q n : ℕ) (pieces : List ℕ) → IsLegal s h → ListsOpen (groups_of s h) pieces
    → FindsListed (serves_at s h q n) pieces (length pieces) None → some_block s.torrent (goes_on s h q n) ≡ false
goes_on_none s h q n pieces legal lists none = none_in_pieces s.torrent (goes_on s h q n) (λ p lp.
    any_none (block_count s.torrent p) (λ k. goes_on s h q n (block s.torrent p k)) (λ k lk.
    false_from_ne_true (goes_on s h q n (block s.torrent p k)) (λ on.
    let listed = goes_on_listed s h q n pieces legal lists p k lp lk on in
    false≢true (sym (none listed.0 listed.1) ∙ listed.3))))

-- ---- in order

module _ (s : Setting) (h : History) (q n : ℕ) (pieces : List ℕ) (legal : IsLegal s h) (layout : IsLayout s.torrent) (is : IsLevel n)
    (lists : ListsOpen (groups_of s h) pieces) where
  -- a piece with a usable block is no less than the least open one that is shown, or than the least that may begin
  no_less : (shown_one fresh : Option ℕ) (m : ℕ) → lesser_of shown_one fresh ≡ Some m → FindsListed (serves_at s h q n) pieces (length pieces) shown_one
      → IfSome shown_one (λ p. (i : ℕ) → i < length pieces → serves_at s h q n (at pieces i) ≡ true → p ≤ at pieces i)
      → FindsLeast (is_candidate_at s h q n) (λ r. r) 0 (piece_count s.torrent) fresh
      → (r : ℕ) → r < piece_count s.torrent → level h r ≡ n → some_block_of s.torrent r (usable s h q) ≡ true → m ≤ r
  no_less shown_one fresh m lesser opens first begins r lr same some = ⊎_elim
      (λ (on : (begun s h r ≡ true) × (stage_of_row (piece_of s h r) ≡ Open)).
      let listed = open_listed s h pieces r lists lr on.1 in
      let shown : serves_at s h q n (at pieces listed.0) ≡ true = ap (serves_at s h q n) listed.2
      ∙ and_from (serves s h q r) (level h r == n) (usable_served s h q r legal lr some) (eq-eqb (level h r) n same) in
      by_open shown_one fresh lesser opens first listed shown)
      (λ (may : is_candidate s h q r ≡ true). by_fresh shown_one fresh lesser begins (candidate_at s h q n r may same))
      (usable_piece s h q r legal lr some)
    where
      under : (p k : ℕ) → min p k ≡ m → (m ≤ p) × (m ≤ k)
      under p k same = (omega (arith, same), omega (arith, same))

      number : (p k : ℕ) → Some p ≡ Some k → p ≡ k
      number p k same = ap (λ (o : Option ℕ). value o) same where
        value : Option ℕ → ℕ
        value (Some x) = x
        value None = 0

      by_open : (o f : Option ℕ) → lesser_of o f ≡ Some m → FindsListed (serves_at s h q n) pieces (length pieces) o
          → IfSome o (λ p. (i : ℕ) → i < length pieces → serves_at s h q n (at pieces i) ≡ true → p ≤ at pieces i)
          → (listed : (i : ℕ) × (i < length pieces) × (at pieces i ≡ r)) → serves_at s h q n (at pieces listed.0) ≡ true → m ≤ r
      by_open None f lesser opens first listed shown = absurd (false≢true (sym (opens listed.0 listed.1) ∙ shown))
      by_open (Some p) None lesser opens first listed shown =
          let low = first listed.0 listed.1 shown in
          let here = number p m lesser in
          omega (arith, low, here, listed.2)
      by_open (Some p) (Some k) lesser opens first listed shown =
          let low = first listed.0 listed.1 shown in
          let here = under p k (number (min p k) m lesser) in
          omega (arith, low, here.0, listed.2)

      by_fresh : (o f : Option ℕ) → lesser_of o f ≡ Some m → FindsLeast (is_candidate_at s h q n) (λ x. x) 0 (piece_count s.torrent) f
          → is_candidate_at s h q n r ≡ true → m ≤ r
      by_fresh o None lesser begins may = absurd (false≢true (sym (begins r (omega arith) lr) ∙ may))
      by_fresh None (Some k) lesser begins may =
          let low = begins.1 r (omega arith) lr may in
          let here = number k m lesser in
          omega (arith, low, here)
      by_fresh (Some p) (Some k) lesser begins may =
          let low = begins.1 r (omega arith) lr may in
          let here = under p k (number (min p k) m lesser) in
          omega (arith, low, here.1)

  -- the lesser of both gives
  pub lesser_gives : (shown_one fresh : Option ℕ) (m : ℕ) → lesser_of shown_one fresh ≡ Some m →
      FindsListed (serves_at s h q n) pieces (length pieces) shown_one
      → FindsLeast (is_candidate_at s h q n) (λ r. r) 0 (piece_count s.torrent) fresh → IfSome fresh (λ p. p < piece_count s.torrent)
      → Gives s h q n m
  lesser_gives shown_one fresh m lesser opens begins within = by_both shown_one fresh lesser opens begins within where
    number : (p k : ℕ) → Some p ≡ Some k → p ≡ k
    number p k same = ap (λ (o : Option ℕ). value o) same where
      value : Option ℕ → ℕ
      value (Some x) = x
      value None = 0

    from_open : (p : ℕ) → FindsListed (serves_at s h q n) pieces (length pieces) (Some p) → Gives s h q n p
    from_open p found =
        let i = found.1.0 in
        let lp = subst (λ (r : ℕ). r < piece_count s.torrent) found.1.2 (open_within s h pieces lists i found.1.1) in
        let stage = subst (λ (r : ℕ). stage_of_row (piece_of s h r) ≡ Open) found.1.2 (listed_open s h pieces lists i found.1.1) in
        open_gives s h q n p layout is lp stage found.0

    by_both : (o f : Option ℕ) → lesser_of o f ≡ Some m → FindsListed (serves_at s h q n) pieces (length pieces) o
        → FindsLeast (is_candidate_at s h q n) (λ r. r) 0 (piece_count s.torrent) f → IfSome f (λ p. p < piece_count s.torrent) → Gives s h q n m
    by_both None None lesser opens begins within = absurd (cc lesser)
    by_both (Some p) None lesser opens begins within = subst (Gives s h q n) (number p m lesser) (from_open p opens)
    by_both None (Some k) lesser opens begins within =
        subst (Gives s h q n) (number k m lesser) (candidate_gives s h q n k layout is within begins.0)
    by_both (Some p) (Some k) lesser opens begins within = ⊎_elim
        (λ (less : p < k). (let same : min p k ≡ p = min-eq_left (omega (arith, less)) in
        subst (Gives s h q n) (sym same ∙ number (min p k) m lesser) (from_open p opens)))
        (λ (more : k ≤ p). (let same : min p k ≡ k = min-eq_right more in
        subst (Gives s h q n) (sym same ∙ number (min p k) m lesser) (candidate_gives s h q n k layout is within begins.0)))
        (cases_lt p k)

  -- the block of it that was found rises
  pub rises_at : (shown_one fresh : Option ℕ) (m : ℕ) (found : Option Block) → NoneAbove s h q n → n ≤ reach h q → lesser_of shown_one fresh ≡ Some m
      → FindsListed (serves_at s h q n) pieces (length pieces) shown_one
      → IfSome shown_one (λ p. (i : ℕ) → i < length pieces → serves_at s h q n (at pieces i) ≡ true → p ≤ at pieces i)
      → FindsLeast (is_candidate_at s h q n) (λ r. r) 0 (piece_count s.torrent) fresh → IfSome fresh (λ p. p < piece_count s.torrent)
      → FindsOf s.torrent m (is_left s h q) found
      → (b : Block) × (found ≡ Some b) × (is_block s.torrent b ≡ true) × (rises s h q b ≡ true)
      × (level h b.piece ≡ n)
  rises_at shown_one fresh m found above near lesser opens first begins within finds =
      let has = lesser_gives shown_one fresh m lesser opens begins within in
      let block_is = given s h q n m found near has finds in
      let b = block_is.0 in
      let level_is : level h b.piece ≡ n = ap (level h) block_is.3 ∙ has.level_is in
      let top = tops_at s h q n above b block_is.4 level_is in (
        b,
        block_is.1,
        block_is.2,
        and_from (tops s h q b) _ top (all_found (piece_count s.torrent)
            (λ p. each_block_of s.torrent p (λ c. not (tops s h q c) || nat_le b.piece c.piece))
            (λ p lp. all_found (block_count s.torrent p) (λ k. not (tops s h q (block s.torrent p k)) || nat_le b.piece p)
            (λ k lk. ⊎_elim
            (λ (up : tops s h q (block s.torrent p k) ≡ true).
            let c = block s.torrent p k in
            let usage = (and_parts (usable s h q c) _ up).0 in
            let some = any_found (block_count s.torrent p) (λ j. usable s h q (block s.torrent p j)) k lk usage in
            let low = usable_below s h q n above p lp some in
            let high = top_above s h q c b up block_is.2 block_is.4 in
            let same : level h p ≡ n = omega (arith, low, high, level_is) in
            let before = no_less shown_one fresh m lesser opens first begins p lp same some in
            or_right (not (tops s h q c)) _ (le-leb b.piece p (omega (arith, before, block_is.3))))
            (λ (isnt : tops s h q (block s.torrent p k) ≡ false). or_left (not (tops s h q (block s.torrent p k))) _ (ap not isnt))
            (cases_Bool (tops s h q (block s.torrent p k)))))),
        level_is,
      )

  -- and where there is neither nothing of the level is to be asked
  pub rises_none : (shown_one fresh : Option ℕ) → lesser_of shown_one fresh ≡ None → FindsListed (serves_at s h q n) pieces (length pieces) shown_one
      → FindsLeast (is_candidate_at s h q n) (λ r. r) 0 (piece_count s.torrent) fresh → NoneAt s h q n
  rises_none None None lesser opens begins =
      none_at s h q n legal (goes_on_none s h q n pieces legal lists opens) (λ p lp. begins p (omega arith) lp)
  rises_none (Some p) None lesser opens begins = absurd (cc lesser)
  rises_none None (Some k) lesser opens begins = absurd (cc lesser)
  rises_none (Some p) (Some k) lesser opens begins = absurd (cc lesser)
