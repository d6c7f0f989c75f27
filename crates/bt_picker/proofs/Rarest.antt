-- The search for a piece to begin, among the candidates of a level.
use Rattle.std.proofs.Common.{◌≡◌, ◌⊎◌, ℕ, ◌+◌, ◌-◌, ◌*◌, ◌<◌, ◌≤◌, ◌==◌, true, false, ◌&&◌, Bool, Option, None, Some, List, length}
use Rattle.std.proofs.Common.{ap, sym}
use Rattle.std.proofs.Common.{◌∙◌, subst, arith, inl, inr, ⊎_elim}
use Rattle.std.specs.Prelude.{IfSome, min}
use Rattle.std.proofs.Math.Nat.{min-eq_left, min-eq_right}
use Rattle.std.proofs.lemmas.Bool.{and_from, and_parts, cases_eq, cases_lt, eq-eqb, eqb-true, false≢true, false_from_ne_true}
use Rattle.bt_meta.specs.Layout.{piece_count}
use Rattle.bt_history.specs.Setting.{Setting}
use Rattle.bt_history.specs.History.{History}
use Rattle.bt_history.specs.Peers.{joined, shows}
use Rattle.bt_history.specs.Pieces.{availability, level, offers}
use Rattle.bt_history.specs.Legal.{IsLegal}
use Rattle.bt_history.specs.Next.{is_candidate}
use Rattle.bt_history.specs.Picks.{place_in_round}
use Rattle.bt_history.proofs.Below.{count_most}
use Rattle.bt_tables.specs.Orders.{at, ListsGroup}
use Rattle.bt_tables.specs.declared.piece.Stage.TheVariants.{Unbegun}
use Rattle.bt_tables.specs.Standings.{group_number, group_of_row, place_of, stage_of_row}
use Rattle.bt_tables.proofs.Tabled.{length_table}
use Rattle.bt_picker.specs.Search.{FindsFirst, FindsLeast, FindsRarest, FirstWhere, IsLevel, NoneBefore, NoneRarer, earlier_of, is_candidate_at, order_of}
use Rattle.bt_picker.specs.Tables.{groups_of, piece_of}
use Rattle.bt_history.specs.declared.rules.TheConstants.{MOST_WORKERS}
use Rattle.bt_tables.specs.declared.piece.TheConstants.{CROWD}
use Rattle.bt_picker.proofs.Rounds.{as_places, first_of_both, order_first, place_bound, ranks_alike, ranks_first, walk_first}
use Rattle.bt_picker.proofs.Stages.{candidate_at, candidate_stage, group_within, listed_place, place_listed, stage_candidate}

-- a level's candidate is a candidate of that level
pub at_level : (s : Setting) (h : History) (q n p : ℕ) → is_candidate_at s h q n p ≡ true → (is_candidate s h q p ≡ true) × (level h p ≡ n)
at_level s h q n p is = (let parts = and_parts (is_candidate s h q p) (level h p == n) is in (parts.0, eqb-true (level h p) n parts.1))

-- below the crowd the stage of an unbegun piece tells its availability
pub uncrowded : (v n : ℕ) → n < CROWD → min v CROWD ≡ min n CROWD → v ≡ n
uncrowded v n lt is =
    let own : min n CROWD ≡ n = min-eq_left (omega (arith, lt)) in
    ⊎_elim
    (λ (below : v < CROWD). (let same : min v CROWD ≡ v = min-eq_left (omega (arith, below)) in omega (arith, same, own, is)))
    (λ (past : CROWD ≤ v). (let same : min v CROWD ≡ CROWD = min-eq_right past in absurd (omega (arith, same, own, is, lt))))
    (cases_lt v CROWD)

-- what ranks before no candidate tells how many peers at least show one of a level
pub floor_at : (s : Setting) (h : History) (q n floor : ℕ) → NoneBefore s h q floor → NoneRarer s h q n (floor - ((7 - n) * 65536 + 0))
floor_at s h q n floor none p lp is =
    let parts = at_level s h q n p is in
    let low = none p lp parts.0 in
    let same : (7 - level h p) * 65536 ≡ (7 - n) * 65536 = ap (λ (m : ℕ). (7 - m) * 65536) parts.1 in
    omega (arith, low, same)

-- no piece is shown by more peers than there are
pub above_all : (s : Setting) (h : History) (q n k : ℕ) → NoneRarer s h q n k → s.workers < k → (p : ℕ) → p < piece_count s.torrent →
    is_candidate_at s h q n p ≡ false
above_all s h q n k none many p lp = false_from_ne_true (is_candidate_at s h q n p)
    (λ fits. (let low = none p lp fits in let most = count_most s.workers (λ r. joined h r && shows h r p) in omega (arith, low, most, many)))

-- the groups that tell their availability are those of fewer peers than the crowd
module _ (workers told most n : ℕ) (told_is : told ≡ workers) (most_is : most ≡ min told MOST_WORKERS) where
  pub under_crowd : n < most + 1 → n < CROWD
  under_crowd lt = ⊎_elim
      (λ (few : told < MOST_WORKERS). (let same : min told MOST_WORKERS ≡ told = min-eq_left (omega (arith, few)) in omega (arith, same, lt, few)))
      (λ (many : MOST_WORKERS ≤ told). (let same : min told MOST_WORKERS ≡ MOST_WORKERS = min-eq_right many in omega (arith, same, lt)))
      (cases_lt told MOST_WORKERS)

  -- and behind them there is only the crowd
  pub past_them : most + 1 ≤ n → (workers < n) ⊎ (CROWD ≤ n)
  past_them le = ⊎_elim
      (λ (few : told < MOST_WORKERS).
      (let same : min told MOST_WORKERS ≡ told = min-eq_left (omega (arith, few)) in inl (omega (arith, same, le))))
      (λ (many : MOST_WORKERS ≤ told). (let same : min told MOST_WORKERS ≡ MOST_WORKERS = min-eq_right many in inr (omega (arith, same, le))))
      (cases_lt told MOST_WORKERS)

-- what was found in a list of pieces is a piece
pub listed_within : (s : Setting) (h : History) (g : ℕ) (test : ℕ → Bool) (rank : ℕ → ℕ) (pieces : List ℕ) (found : Option ℕ)
    → ListsGroup (groups_of s h) g pieces → FindsRarest test rank pieces (length pieces) found → IfSome found (λ p. p < piece_count s.torrent)
listed_within s h g test rank pieces None lists none = tt
listed_within s h g test rank pieces (Some p) lists some =
    subst (λ (m : ℕ). m < piece_count s.torrent) some.1.2 (group_within s h g pieces lists some.1.0 some.1.1)

-- ---- the group of the pieces that k peers show, or in the crowd at least as many

module _ (s : Setting) (h : History) (q n k : ℕ) (pieces : List ℕ) (legal : IsLegal s h) (is_level : IsLevel n)
    (lists : ListsGroup (groups_of s h) (group_number n (Unbegun k)) pieces) where
  -- a candidate that so many peers show is listed
  pub among : (p : ℕ) → p < piece_count s.torrent → is_candidate_at s h q n p ≡ true → min (availability s h p) CROWD ≡ min k CROWD →
      (offers s h q p ≡ true) × ((i : ℕ) × (i < length pieces) × (at pieces i ≡ p))
  among p lp fits same =
      let parts = at_level s h q n p fits in
      let known = candidate_stage s h q p parts.0 in
      let place : place_of (Unbegun (availability s h p)) ≡ place_of (Unbegun k) = omega (arith, same) in
      (known.0, place_listed s h n (Unbegun k) p pieces lists lp parts.1 (ap place_of known.1 ∙ place))

  -- and a listed one that the peer offers is such a candidate
  pub listed_candidate : (p i : ℕ) → i < length pieces → at pieces i ≡ p → offers s h q p ≡ true →
      (p < piece_count s.torrent) × (is_candidate_at s h q n p ≡ true) × (min (availability s h p) CROWD ≡ min k CROWD)
  listed_candidate p i li is shown =
      let place = listed_place s h n (Unbegun k) pieces legal is_level (omega arith) lists i li in
      let lp : p < piece_count s.torrent = subst (λ (m : ℕ). m < piece_count s.torrent) is place.0 in
      let stage = subst (λ (m : ℕ). place_of (stage_of_row (piece_of s h m)) ≡ place_of (Unbegun k)) is place.2 in
      let known = stage_candidate s h q p k lp shown stage in
      (lp, candidate_at s h q n p known.0 (subst (λ (m : ℕ). level h m ≡ n) is place.1), known.1)

  -- what ranks first of the list ranks first of all candidates that so many peers show
  pub group_first : (rank : ℕ → ℕ) (found : Option ℕ) → FindsRarest (offers s h q) rank pieces (length pieces) found
      → FirstWhere (is_candidate_at s h q n) rank (piece_count s.torrent) (λ r. min (availability s h r) CROWD ≡ min k CROWD) found
  group_first rank None none = λ p lp same. false_from_ne_true (is_candidate_at s h q n p) (λ fits.
      let listed = among p lp fits same in
      false≢true (sym (none listed.1.0 listed.1.1) ∙ (ap (offers s h q) listed.1.2 ∙ listed.0)))
  group_first rank (Some p) some =
      let own = listed_candidate p some.1.0 some.1.1 some.1.2 some.0 in (
        own.0,
        own.1,
        λ r lr same fits.
            let listed = among r lr fits same in
            subst (λ (m : ℕ). rank p ≤ rank m) listed.1.2 (some.2 listed.1.0 listed.1.1 (ap (offers s h q) listed.1.2 ∙ listed.0)),
      )

module _ (s : Setting) (h : History) (q n k first : ℕ) (pieces : List ℕ) (legal : IsLegal s h) (is_level : IsLevel n) (under : k < CROWD)
    (lists : ListsGroup (groups_of s h) (group_number n (Unbegun k)) pieces) (so_far : NoneRarer s h q n k) where
  pub rarest_found : (p : ℕ) → FindsRarest (offers s h q) (order_of s h false first) pieces (length pieces) (Some p)
      → (FindsLeast (is_candidate_at s h q n) (order_of s h true first) 0 (piece_count s.torrent) (Some p)) × (p < piece_count s.torrent)
  rarest_found p some =
      let own = listed_candidate s h q n k pieces legal is_level lists p some.1.0 some.1.1 some.1.2 some.0 in
      let shown = uncrowded (availability s h p) k under own.2 in
      let best = as_places s h first (is_candidate_at s h q n) _ (Some p)
      (group_first s h q n k pieces legal is_level lists (order_of s h false first) (Some p) some) in (
        (
          own.1,
          λ r low high fits. ⊎_elim
              (λ (same : availability s h r ≡ k).
              ranks_alike (availability s h p) (availability s h r) (2 * piece_count s.torrent) _ _ (shown ∙ sym same)
              (best.2 r high (ap (λ (m : ℕ). min m CROWD) same) fits))
              (λ (apart : availability s h r ≡ k → ⊥).
              let more = so_far r high fits in
              let less = ranks_first (availability s h p) (availability s h r) (2 * piece_count s.torrent)
              (place_in_round (piece_count s.torrent) first p) (place_in_round (piece_count s.torrent) first r)
              (place_bound (piece_count s.torrent) first p own.0) (omega (arith, more, apart, shown)) in
              omega (arith, less))
              (cases_eq (availability s h r) k),
        ),
        own.0,
      )

  pub rarest_more : FindsRarest (offers s h q) (order_of s h false first) pieces (length pieces) None → NoneRarer s h q n (k + 1)
  rarest_more none p lp fits = ⊎_elim
      (λ (same : availability s h p ≡ k).
      let listed = among s h q n k pieces legal is_level lists p lp fits (ap (λ (m : ℕ). min m CROWD) same) in
      absurd (false≢true (sym (none listed.1.0 listed.1.1) ∙ (ap (offers s h q) listed.1.2 ∙ listed.0))))
      (λ (apart : availability s h p ≡ k → ⊥). (let low = so_far p lp fits in omega (arith, low, apart)))
      (cases_eq (availability s h p) k)

-- a piece that none of the groups below k has is shown by the crowd
crowded : (s : Setting) (h : History) (k p : ℕ) → (s.workers < k) ⊎ (CROWD ≤ k) → (availability s h p < k) ⊎ (min (availability s h p) CROWD ≡ CROWD)
crowded s h k p all =
    let most = count_most s.workers (λ r. joined h r && shows h r p) in ⊎_elim
    (λ (few : availability s h p < k). inl few)
    (λ (many : k ≤ availability s h p). inr (min-eq_right (⊎_elim
    (λ (over : s.workers < k). absurd (omega (arith, most, many, over)))
    (λ (past : CROWD ≤ k). (omega (arith, many, past)))
    all)))
    (cases_lt (availability s h p) k)

module _ (s : Setting) (h : History) (q n k first : ℕ) (pieces : List ℕ) (legal : IsLegal s h) (is_level : IsLevel n)
    (all : (s.workers < k) ⊎ (CROWD ≤ k)) (lists : ListsGroup (groups_of s h) (group_number n (Unbegun CROWD)) pieces) where
  -- where no candidate is left but the crowd's, the rarest of those is the rarest of all
  pub crowd_found : NoneRarer s h q n k → (found : Option ℕ) → FindsRarest (offers s h q) (order_of s h true first) pieces (length pieces) found
      → (FindsLeast (is_candidate_at s h q n) (order_of s h true first) 0 (piece_count s.torrent) found)
      × IfSome found (λ p. p < piece_count s.torrent)
  crowd_found so_far found some = all_of found (group_first s h q n CROWD pieces legal is_level lists (order_of s h true first) found some)
    where
      in_crowd : (p : ℕ) → p < piece_count s.torrent → is_candidate_at s h q n p ≡ true → min (availability s h p) CROWD ≡ min CROWD CROWD
      in_crowd p lp fits = ⊎_elim
          (λ (few : availability s h p < k). (let low = so_far p lp fits in absurd (omega (arith, low, few))))
          (λ (many : min (availability s h p) CROWD ≡ CROWD). many)
          (crowded s h k p all)

      all_of : (f : Option ℕ)
          → FirstWhere (is_candidate_at s h q n) (order_of s h true first) (piece_count s.torrent)
          (λ r. min (availability s h r) CROWD ≡ min CROWD CROWD) f
          → (FindsLeast (is_candidate_at s h q n) (order_of s h true first) 0 (piece_count s.torrent) f)
          × IfSome f (λ p. p < piece_count s.torrent)
      all_of None none = (λ p low lp. false_from_ne_true (is_candidate_at s h q n p) (λ fits. false≢true (sym (none p lp (in_crowd p lp fits)) ∙ fits)), tt)
      all_of (Some p) best = ((best.1, λ r low high fits. best.2 r high (in_crowd r high fits) fits), best.0)

  -- of what was found before the crowd and in it the first in the round is the first of all
  pub crowd_first : (one other : Option ℕ)
      → FirstWhere (is_candidate_at s h q n) (place_in_round (piece_count s.torrent) first) (piece_count s.torrent) (λ r. availability s h r < k) one
      → FindsRarest (offers s h q) (order_of s h false first) pieces (length pieces) other
      → (FindsLeast (is_candidate_at s h q n) (order_of s h false first) 0 (piece_count s.torrent)
      (earlier_of (piece_count s.torrent) first one other))
      × IfSome (earlier_of (piece_count s.torrent) first one other) (λ p. p < piece_count s.torrent)
  crowd_first one other before crowd =
      order_first s h first (is_candidate_at s h q n) (earlier_of (piece_count s.torrent) first one other)
      (first_of_both (is_candidate_at s h q n) (piece_count s.torrent) first (λ r. availability s h r < k)
      (λ r. min (availability s h r) CROWD ≡ min CROWD CROWD) (λ r. Unit {0}) (λ r said. crowded s h k r all) one other before
      (as_places s h first (is_candidate_at s h q n) _ other
      (group_first s h q n CROWD pieces legal is_level lists (order_of s h false first) other crowd)))

module _ (s : Setting) (h : History) (q n k first : ℕ) (pieces : List ℕ) (legal : IsLegal s h) (is_level : IsLevel n) (under : k < CROWD)
    (lists : ListsGroup (groups_of s h) (group_number n (Unbegun k)) pieces) where
  -- one group more: of what was found before and in it the first in the round is the first of both
  pub group_more : (one other : Option ℕ)
      → FirstWhere (is_candidate_at s h q n) (place_in_round (piece_count s.torrent) first) (piece_count s.torrent) (λ r. availability s h r < k) one
      → FindsRarest (offers s h q) (order_of s h false first) pieces (length pieces) other
      → FirstWhere (is_candidate_at s h q n) (place_in_round (piece_count s.torrent) first) (piece_count s.torrent)
      (λ r. availability s h r < k + 1) (earlier_of (piece_count s.torrent) first one other)
  group_more one other before group =
      first_of_both (is_candidate_at s h q n) (piece_count s.torrent) first (λ r. availability s h r < k)
      (λ r. min (availability s h r) CROWD ≡ min k CROWD) (λ r. availability s h r < k + 1) split one other before
      (as_places s h first (is_candidate_at s h q n) _ other
      (group_first s h q n k pieces legal is_level lists (order_of s h false first) other group))
    where
      split : (r : ℕ) → availability s h r < k + 1 → (availability s h r < k) ⊎ (min (availability s h r) CROWD ≡ min k CROWD)
      split r lt = ⊎_elim
          (λ (same : availability s h r ≡ k). inr (ap (λ (m : ℕ). min m CROWD) same))
          (λ (apart : availability s h r ≡ k → ⊥). inl (omega (arith, lt, apart)))
          (cases_eq (availability s h r) k)

-- a walk over a group finds of its list the piece that comes first in the round
pub walked : (s : Setting) (h : History) (q g first high : ℕ) (pieces : List ℕ) (p : ℕ) → ListsGroup (groups_of s h) g pieces → high ≤ piece_count s.torrent
    → FindsFirst (λ r. (at (groups_of s h) r == g) && offers s h q r) first high (Some p)
    → FindsRarest (offers s h q) (order_of s h false first) pieces (length pieces) (Some p)
walked s h q g first high pieces p lists le found =
    let is_one : ℕ → Bool = λ r. (at (groups_of s h) r == g) && offers s h q r in
    let parts = and_parts (at (groups_of s h) p == g) (offers s h q p) found.2 in
    let best = walk_first is_one (piece_count s.torrent) first high p le found in (
      parts.1,
      lists.all p (omega (arith, length_table (piece_count s.torrent) (λ r. group_of_row (piece_of s h r)), best.0))
          (eqb-true (at (groups_of s h) p) g parts.0),
      λ i li shown.
          let r = at pieces i in
          let least = best.2 r (group_within s h g pieces lists i li) tt
          (and_from (at (groups_of s h) r == g) (offers s h q r) (eq-eqb (at (groups_of s h) r) g (lists.each i li)) shown) in
          omega (arith, least),
    )

-- ---- the least candidate
