-- Which of the blocks that may be requested comes first.
use Rattle.std.proofs.Common.{◌≡◌, ◌⊎◌, ℕ, ◌+◌, ◌*◌, ◌%◌, ◌<◌, ◌≤◌, ◌==◌, Bool, true, false, not, ◌&&◌, ◌||◌, Some}
use Rattle.std.proofs.Common.{refl, ap, sym, ◌∙◌, subst, arith, ⊎_elim}
use Rattle.std.specs.Prelude.{nat_le, nat_lt}
use Rattle.std.proofs.lemmas.Bool.{and_from, and_parts, cases_lt, eq-eqb, eqb-true, false≢true, le-ltb, leb-true, not-true}
use Rattle.bt_meta.specs.declared.block.Block.{Block}
use Rattle.bt_meta.specs.Layout.{IsLayout, block, block_count, block_size, piece_count}
use Rattle.bt_history.specs.Setting.{Setting, each_block_of, is_block, some_block_of}
use Rattle.bt_history.specs.History.{History}
use Rattle.bt_history.specs.Legal.{IsLegal}
use Rattle.bt_history.specs.Next.{doubles, is_candidate, is_rarest, rises, starts, tops, usable}
use Rattle.bt_history.specs.Peers.{overdue, reach, shows}
use Rattle.bt_history.specs.Pieces.{availability, begun, endgame, gives, had, had_count, held_or_asked, is_spent, level, offers, unasked, unbegun, wanted}
use Rattle.bt_history.specs.Picks.{comes_before, is_first, place_in_round, turn}
use Rattle.bt_history.proofs.Allowed.{top_usable}
use Rattle.bt_history.proofs.Below.{all_at, all_found, any_found}
use Rattle.bt_history.proofs.Delays.{left_unspent}
use Rattle.bt_history.proofs.Levels.{each_at, implied, top_above}
use Rattle.bt_history.proofs.LineLaws.{block_index, block_is_block}
use Rattle.bt_picker.specs.Search.{FindsLeast, FindsOf, IsLevel, NoneAbove, NoneBeforeIn, is_candidate_at, is_left, order_of, rank_of}
use Rattle.bt_picker.proofs.Endings.{doubles_stage}
use Rattle.bt_picker.proofs.Levelled.{candidate_starts, usable_below, usable_parts}
use Rattle.bt_picker.proofs.Rarest.{at_level}
use Rattle.bt_picker.proofs.Rounds.{later_place, order_least}
use Rattle.bt_picker.proofs.Scans.{first_in_piece}
use Rattle.bt_picker.proofs.Stages.{candidate_at}
use Rattle.bt_history.specs.Pieces.{is_free_for}

-- ---- a block that comes before no other

-- one that no other is before is the pick
pub first_from : (s : Setting) (h : History) (word : ℕ) (test : Block → Bool) (b : Block) → test b ≡ true
    → ((p k : ℕ) → p < piece_count s.torrent → k < block_count s.torrent p → test (block s.torrent p k) ≡ true →
    comes_before s h word (block s.torrent p k) b ≡ false)
    → is_first s h word test b ≡ true
first_from s h word test b passes none =
    and_from (test b) _ passes (all_found (piece_count s.torrent)
    (λ p. each_block_of s.torrent p (λ c. not (test c && comes_before s h word c b)))
    (λ p lp. all_found (block_count s.torrent p) (λ k. not (test (block s.torrent p k) && comes_before s h word (block s.torrent p k) b))
    (λ k lk. by_test p k lp lk (test (block s.torrent p k)) refl)))
  where
    by_test : (p k : ℕ) → p < piece_count s.torrent → k < block_count s.torrent p → (x : Bool) → test (block s.torrent p k) ≡ x
        → not (x && comes_before s h word (block s.torrent p k) b) ≡ true
    by_test p k lp lk true is = ap not (none p k lp lk is)
    by_test p k lp lk false is = refl

-- neither a lower level, nor a later turn, nor a place that isn't in front comes before
pub not_before : (s : Setting) (h : History) (word : ℕ) (c b : Block) → level h c.piece ≤ level h b.piece
    → (level h c.piece ≡ level h b.piece → (turn s h word b.piece ≤ turn s h word c.piece) × (c.piece ≡ b.piece → b.begin ≤ c.begin))
    → comes_before s h word c b ≡ false
not_before s h word c b low later = neither (le-ltb (level h b.piece) (level h c.piece) low) (by_level (level h c.piece == level h b.piece) refl)
  where
    neither : {x y : Bool} → x ≡ false → y ≡ false → (x || y) ≡ false
    neither {x} {y} is and = ap (λ (v : Bool). v || y) is ∙ and

    in_front : (x : Bool) → (c.piece == b.piece) ≡ x → (c.piece ≡ b.piece → b.begin ≤ c.begin) → (x && nat_lt c.begin b.begin) ≡ false
    in_front true is front = le-ltb c.begin b.begin (front (eqb-true c.piece b.piece is))
    in_front false is front = refl

    by_level : (x : Bool) → (level h c.piece == level h b.piece) ≡ x
        → (x && (nat_lt (turn s h word c.piece) (turn s h word b.piece) || ((c.piece == b.piece) && nat_lt c.begin b.begin))) ≡ false
    by_level false is = refl
    by_level true is =
        let known = later (eqb-true (level h c.piece) (level h b.piece) is) in
        neither (le-ltb (turn s h word c.piece) (turn s h word b.piece) known.0) (in_front (c.piece == b.piece) refl known.1)

-- ---- turns

pub turn_begun : (s : Setting) (h : History) (word p : ℕ) → begun s h p ≡ true → turn s h word p ≡ p
turn_begun s h word p is = rw is

pub turn_unbegun : (s : Setting) (h : History) (word p : ℕ) → begun s h p ≡ false →
    turn s h word p ≡ piece_count s.torrent + place_in_round (piece_count s.torrent) (word % piece_count s.torrent) p
turn_unbegun s h word p is = rw is

-- a piece that is yet to be begun isn't begun
pub unbegun_isnt : (s : Setting) (h : History) (p : ℕ) → unbegun s h p ≡ true → begun s h p ≡ false
unbegun_isnt s h p is = neither (had h p) (some_block_of s.torrent p (held_or_asked s h)) is where
  neither : (x y : Bool) → (not x && not y) ≡ true → (not x && y) ≡ false
  neither true y both = refl
  neither false true both = absurd (false≢true both)
  neither false false both = refl

-- ---- of begun pieces the least, and its first block

-- of blocks of begun pieces of no higher level the least comes first
pub least_first : (s : Setting) (h : History) (word : ℕ) (test : Block → Bool) (b : Block) → test b ≡ true → begun s h b.piece ≡ true
    → ((p k : ℕ) → p < piece_count s.torrent → k < block_count s.torrent p → test (block s.torrent p k) ≡ true →
    (level h p ≤ level h b.piece) × (level h p ≡ level h b.piece → (begun s h p ≡ true) × ((b.piece < p) ⊎ ((b.piece ≡ p) × (b.begin ≤ block_size * k)))))
    → is_first s h word test b ≡ true
least_first s h word test b passes own others = first_from s h word test b passes (λ p k lp lk is.
    let known = others p k lp lk is in
    not_before s h word (block s.torrent p k) b known.0 (λ same.
    let rest = known.1 same in
    let mine = turn_begun s h word b.piece own in
    let its = turn_begun s h word p rest.0 in (
      ⊎_elim
          (λ (earlier : b.piece < p). (omega (arith, earlier, mine, its)))
          (λ (here : (b.piece ≡ p) × (b.begin ≤ block_size * k)). (omega (arith, here.0, mine, its)))
          rest.1,
      λ equal. ⊎_elim
          (λ (earlier : b.piece < p). absurd (omega (arith, earlier, equal)))
          (λ (here : (b.piece ≡ p) × (b.begin ≤ block_size * k)). here.1)
          rest.1,
    )))

-- ---- each rule's pick

module _ (s : Setting) (h : History) (q n : ℕ) (above : NoneAbove s h q n) where
  -- the first block left of the candidate that comes first in order is the first that starts
  pub starts_first : (word p : ℕ) (rare : Bool) → n ≤ reach h q → IsLayout s.torrent → rare ≡ not (nat_lt (had_count s h) s.random) → p < piece_count s.torrent
      → FindsLeast (is_candidate_at s h q n) (order_of s h rare (word % piece_count s.torrent)) 0 (piece_count s.torrent) (Some p)
      → IsLevel n → (b : Block) → FindsOf s.torrent p (is_left s h q) (Some b) → is_first s h word (starts s h q) b ≡ true
  starts_first word p rare near layout rare_is lp found is_level b finds =
      let first = word % piece_count s.torrent in
      let own = candidate_starts s h q n above p rare near layout rare_is lp
      (order_least s h rare first (is_candidate_at s h q n) (Some p) found) is_level b finds in
      let piece_is : b.piece ≡ p = ap (λ (c : Block). c.piece) finds.2 in
      let fresh = and_parts (unbegun s h b.piece) _ (and_parts (tops s h q b) _ own.3).1 in
      first_from s h word (starts s h q) b own.3 (λ k i lk li too.
      let c = block s.torrent k i in
      let parts = and_parts (tops s h q c) _ too in
      let rest = and_parts (unbegun s h k) _ parts.1 in
      let usage = top_usable s h q c parts.0 in
      let parts_of = usable_parts (unasked s h c) (wanted s h k) (gives h q k) (not (overdue h q c)) (is_free_for s h q k) usage in
      let unspent = left_unspent s h q k i li parts_of.0 (not-true (overdue h q c) parts_of.3) in
      let shown = (and_parts (shows h q k) (nat_le (level h k) (reach h q)) parts_of.2).0 in
      let low = usable_below s h q n above k lk (any_found (block_count s.torrent k) (λ j. usable s h q (block s.torrent k j)) i li usage) in
      let high = top_above s h q c b parts.0 own.0 own.1 in
      let level_is : level h k ≡ n = omega (arith, low, high, own.2) in
      let may : is_candidate s h q k ≡ true = and_from (wanted s h k) _ parts_of.1 (and_from (offers s h q k) (unbegun s h k)
      (and_from (shows h q k) (not (is_spent s h q k)) shown (ap not unspent)) rest.0) in
      let le = found.1 k (omega arith) lk (candidate_at s h q n k may level_is) in
      let candidate = at_level s h q n p found.0 in
      let ranks = no_rarer rare rare_is p k (level_is ∙ sym candidate.1) candidate.0 lp rest.1 in
      let places = later_place (rank_of s h rare p) (rank_of s h rare k) (2 * piece_count s.torrent) _ _ ranks le in
      let mine = turn_unbegun s h word p (unbegun_isnt s h p (subst (λ (m : ℕ). unbegun s h m ≡ true) piece_is fresh.0)) in
      let here : turn s h word b.piece ≡ turn s h word p = ap (turn s h word) piece_is in
      let its = turn_unbegun s h word k (unbegun_isnt s h k rest.0) in
      not_before s h word c b (omega (arith, level_is, own.2)) (λ same. (
        omega (arith, places, mine, its, here),
        λ equal. in_place b finds k i li (sym piece_is ∙ sym equal)
            (and_from (unasked s h c) (not (overdue h q c)) parts_of.0 parts_of.3),
      )))
    where
      -- no block that is left of the piece comes before the one that was found
      in_place : (b : Block) → FindsOf s.torrent p (is_left s h q) (Some b) → (k i : ℕ) → i < block_count s.torrent k → p ≡ k
          → is_left s h q (block s.torrent k i) ≡ true → b.begin ≤ block_size * i
      in_place b finds k i li same left = ⊎_elim
          (λ (earlier : b.piece < p). absurd (let own = ap (λ (c : Block). c.piece) finds.2 in omega (arith, earlier, own)))
          (λ (here : (b.piece ≡ p) × (b.begin ≤ block_size * i)). here.1)
          (first_in_piece s.torrent p (is_left s h q) b finds i (subst (λ (m : ℕ). i < block_count s.torrent m) (sym same) li)
          (ap (λ (m : ℕ). is_left s h q (block s.torrent m i)) same ∙ left))

      -- one that starts ranks no later than another candidate of its level
      no_rarer : (x : Bool) → x ≡ not (nat_lt (had_count s h) s.random) → (r k : ℕ) → level h k ≡ level h r → is_candidate s h q r ≡ true
          → r < piece_count s.torrent → (nat_lt (had_count s h) s.random || is_rarest s h q k) ≡ true → rank_of s h x k ≤ rank_of s h x r
      no_rarer false x_is r k same may lr either = omega arith
      no_rarer true x_is r k same may lr either =
          let rarest = rarest_then (nat_lt (had_count s h) s.random) (is_rarest s h q k) (sym x_is) either in
          leb-true (availability s h k) (availability s h r) (implied (is_candidate s h q r && (level h r == level h k)) _
          (all_at (piece_count s.torrent) (λ m. not (is_candidate s h q m && (level h m == level h k)) || nat_le (availability s h k) (availability s h m))
          r rarest lr)
          (and_from (is_candidate s h q r) _ may (eq-eqb (level h r) (level h k) (sym same))))
        where
          rarest_then : (y z : Bool) → not y ≡ true → (y || z) ≡ true → z ≡ true
          rarest_then true z is or_is = absurd (false≢true is)
          rarest_then false z is or_is = or_is

-- of the blocks of the piece that comes first in order the first one that is left
pub rises_first : (s : Setting) (h : History) (q word : ℕ) (b : Block) → is_block s.torrent b ≡ true → rises s h q b ≡ true
    → NoneBeforeIn s.torrent (is_left s h q) b b.piece → is_first s h word (rises s h q) b ≡ true
rises_first s h q word b inside up least = first_from s h word (rises s h q) b up (λ p k lp lk too.
    let c = block s.torrent p k in
    let c_inside = block_is_block s.torrent p k lp lk in
    let own = and_parts (tops s h q b) _ up in
    let other = and_parts (tops s h q c) _ too in
    let own_usage = top_usable s h q b own.0 in
    let usage = top_usable s h q c other.0 in
    let low = top_above s h q b c own.0 c_inside usage in
    let forth = leb-true b.piece p (implied (tops s h q c) _ (each_at s (λ d. not (tops s h q d) || nat_le b.piece d.piece) c own.1 c_inside) other.0) in
    let back = leb-true p b.piece (implied (tops s h q b) _ (each_at s (λ d. not (tops s h q d) || nat_le p d.piece) b other.1 inside) own.0) in
    let same : p ≡ b.piece = omega (arith, forth, back) in
    let equal : turn s h word p ≡ turn s h word b.piece = ap (turn s h word) same in
    let parts = usable_parts (unasked s h c) (wanted s h p) (gives h q p) (not (overdue h q c)) (is_free_for s h q p) usage in
    let spot = least k (subst (λ (r : ℕ). k < block_count s.torrent r) same lk)
    (subst (λ (r : ℕ). is_left s h q (block s.torrent r k) ≡ true) same
    (and_from (unasked s h c) (not (overdue h q c)) parts.0 parts.3)) in
    not_before s h word c b low (λ levels. (
      omega (arith, equal),
      λ pieces. ⊎_elim
          (λ (earlier : b.piece < b.piece). absurd (omega (arith, earlier)))
          (λ (here : (b.piece ≡ b.piece) × (b.begin ≤ block_size * k)). here.1)
          spot,
    )))

-- in endgame the least block to ask again of the highest level that has one
pub doubles_first : (s : Setting) (h : History) (q n : ℕ) → IsLegal s h → q < s.workers → endgame s h ≡ true
    → ((p : ℕ) → p < piece_count s.torrent → n < level h p → some_block_of s.torrent p (doubles s h q) ≡ false)
    → (b : Block) → is_block s.torrent b ≡ true → doubles s h q b ≡ true → level h b.piece ≡ n
    → ((p : ℕ) → p < piece_count s.torrent → level h p ≡ n → NoneBeforeIn s.torrent (doubles s h q) b p)
    → (word : ℕ) → is_first s h word (doubles s h q) b ≡ true
doubles_first s h q n legal lq ends above b inside too level_is least word =
    let own = block_index s.torrent b inside in
    let some = any_found (block_count s.torrent b.piece) (λ j. doubles s h q (block s.torrent b.piece j)) own.index own.within
    (ap (doubles s h q) (sym own.is) ∙ too) in
    least_first s h word (doubles s h q) b too (doubles_stage s h q b.piece legal lq own.piece ends some).2 (λ p k lp lk is.
    let any = any_found (block_count s.torrent p) (λ j. doubles s h q (block s.torrent p j)) k lk is in (
      ⊎_elim
          (λ (high : n < level h p). absurd (false≢true (sym (above p lp high) ∙ any)))
          (λ (low : level h p ≤ n). (omega (arith, low, level_is)))
          (cases_lt n (level h p)),
      λ same. ((doubles_stage s h q p legal lq lp ends any).2, least p lp (same ∙ level_is) k lk is),
    ))
