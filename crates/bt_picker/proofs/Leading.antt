-- Which open piece goes on at a peer, and when another piece begins before it.
use Rattle.std.proofs.Common.{◌≡◌, ◌⊎◌, ℕ, zero, suc, ◌+◌, ◌*◌, ◌==◌, ◌<◌, ◌≤◌, Bool, true, false, not, ◌&&◌, ◌||◌, Option, None, Some, List, length, refl, ap}
use Rattle.std.proofs.Common.{sym, ◌∙◌, arith, subst, ⊎_elim, inl, inr}
use Rattle.std.specs.Prelude.{IfSome, if◌then◌else◌, is_some, nat_lt}
use Rattle.std.proofs.lemmas.Bool.{and_from, and_parts, cases_eq, cases_lt, eq-eqb, eqb-true, false≢true, false_from_ne_true, ltb-false}
use Rattle.std.proofs.lemmas.Bool.{ne_eqb, not-false, not-true, or_parts}
use Rattle.bt_meta.specs.declared.block.Block.{Block}
use Rattle.bt_meta.specs.Layout.{IsLayout, piece_count, block_count, block, block_size}
use Rattle.bt_history.specs.Counting.{count_below}
use Rattle.bt_history.specs.Setting.{Setting, each_block_of, is_block, some_block, some_block_of}
use Rattle.bt_history.specs.History.{History}
use Rattle.bt_history.specs.Legal.{IsLegal}
use Rattle.bt_history.specs.Peers.{overdue, reach}
use Rattle.bt_history.specs.Pieces.{availability, begun, gives, had, held_or_asked, is_open_piece, level, open_count, unasked, wanted}
use Rattle.bt_history.specs.Next.{continues, goes_first, is_candidate, is_rarest, is_strict, none_rarer, resumes, tops, usable}
use Rattle.bt_history.specs.Picks.{is_first, place_in_round}
use Rattle.bt_history.proofs.Allowed.{top_usable}
use Rattle.bt_history.proofs.Below.{all_fails, all_found, any_fails, any_found, any_none, any_witness, count_found, one_if}
use Rattle.bt_history.proofs.Levels.{top_above}
use Rattle.bt_history.proofs.LineLaws.{block_is_block}
use Rattle.bt_history.proofs.Opening.{rarer_none, rarer_than, usable_resumes}
use Rattle.bt_tables.specs.Orders.{at}
use Rattle.bt_tables.specs.Risings.{Rises}
use Rattle.bt_tables.specs.Standings.{ListsOpen, stage_of_row}
use Rattle.bt_tables.specs.declared.piece.Stage.TheVariants.{Open}
use Rattle.bt_picker.specs.Search.{FindsLeast, FindsListed, FindsOf, FindsRarest, IsLevel, IsRarer, NoneAbove, goes_on, is_candidate_at, order_of, rank_of, resumes_at}
use Rattle.bt_picker.specs.Search.{is_left, serves_at, resuming_order}
use Rattle.bt_picker.specs.Tables.{groups_of, piece_of}
use Rattle.bt_picker.proofs.Levelled.{given, open_gives, tops_at, usable_below, usable_parts}
use Rattle.bt_picker.proofs.Picking.{least_first}
use Rattle.bt_picker.proofs.Rarest.{at_level}
use Rattle.bt_picker.proofs.Rounds.{later_place, order_rank, place_bound, place_from, ranks_alike, ranks_first}
use Rattle.bt_picker.proofs.Scans.{first_in_piece, none_in_pieces}
use Rattle.bt_picker.proofs.Stages.{begun_stage, candidate_at, listed_open, open_listed, open_within, stage_open}
use Rattle.bt_picker.proofs.Telling.{wanted_chosen}
use Rattle.bt_history.specs.Pieces.{is_free_for}
use Rattle.bt_picker.specs.Search.{serves}

-- ---- open pieces and their list

module _ (s : Setting) (h : History) (p : ℕ) (lp : p < piece_count s.torrent) where
  -- an open piece has that stage
  pub open_stage : is_open_piece s h p ≡ true → stage_of_row (piece_of s h p) ≡ Open
  open_stage is =
      let parts = and_parts (wanted s h p) _ is in
      let rest = and_parts (begun s h p) (some_block_of s.torrent p (unasked s h)) parts.1 in
      let on = and_parts (not (had h p)) (some_block_of s.torrent p (held_or_asked s h)) rest.0 in
      let one = any_witness (block_count s.torrent p) (λ k. unasked s h (block s.torrent p k)) rest.1 in
      begun_stage s h p false (not-true (had h p) on.0) (sym (wanted_chosen s h p lp) ∙ parts.0) on.1
      (all_fails (block_count s.torrent p) (λ k. held_or_asked s h (block s.torrent p k)) one.0 one.1
      (not-true (held_or_asked s h (block s.torrent p one.0)) one.2))

  -- and a piece of that stage is open
  pub stage_opened : stage_of_row (piece_of s h p) ≡ Open → is_open_piece s h p ≡ true
  stage_opened stage =
      let known = stage_open s h p stage in
      and_from (wanted s h p) _ (wanted_chosen s h p lp ∙ known.1)
      (and_from (begun s h p) _ (and_from (not (had h p)) _ (ap not known.0) known.2) (by_left (some_block_of s.torrent p (unasked s h)) refl known.3))
    where
      by_left : (x : Bool) → some_block_of s.torrent p (unasked s h) ≡ x
          → each_block_of s.torrent p (held_or_asked s h) ≡ false → x ≡ true
      by_left true some left = refl
      by_left false none left = absurd (false≢true (sym left ∙ all_found (block_count s.torrent p)
          (λ k. held_or_asked s h (block s.torrent p k)) (λ k lk. not-false (held_or_asked s h (block s.torrent p k))
          (any_fails (block_count s.torrent p) (λ j. unasked s h (block s.torrent p j)) k none lk))))

-- an open piece of this level that the peer serves
pub resumes_parts : (s : Setting) (h : History) (q n p : ℕ) → resumes_at s h q n p ≡ true
    → (is_open_piece s h p ≡ true) × (serves s h q p ≡ true) × (level h p ≡ n)
resumes_parts s h q n p is =
    let parts = and_parts (resumes s h q p) (level h p == n) is in
    let own = and_parts (is_open_piece s h p) (serves s h q p) parts.0 in
    (own.0, own.1, eqb-true (level h p) n parts.1)

-- it is found in the list of open pieces
module _ (s : Setting) (h : History) (q n : ℕ) (pieces : List ℕ) (lists : ListsOpen (groups_of s h) pieces) where
  listed_resumes : (i : ℕ) → i < length pieces → serves_at s h q n (at pieces i) ≡ true → resumes_at s h q n (at pieces i) ≡ true
  listed_resumes i li shown =
      let parts = and_parts (serves s h q (at pieces i)) (level h (at pieces i) == n) shown in
      let lp = open_within s h pieces lists i li in
      and_from (resumes s h q (at pieces i)) _ (and_from (is_open_piece s h (at pieces i)) _
      (stage_opened s h (at pieces i) lp (listed_open s h pieces lists i li)) parts.0) parts.1

  resumes_listed : (p : ℕ) → p < piece_count s.torrent → resumes_at s h q n p ≡ true
      → (i : ℕ) × (i < length pieces) × (at pieces i ≡ p) × (serves_at s h q n (at pieces i) ≡ true)
  resumes_listed p lp is =
      let parts = resumes_parts s h q n p is in
      let found = open_listed s h pieces p lists lp (open_stage s h p lp parts.0) in (
        found.0,
        found.1,
        found.2,
        ap (serves_at s h q n) found.2 ∙ and_from (serves s h q p) (level h p == n) parts.1 (eq-eqb (level h p) n parts.2),
      )

  -- so what ranks first among the listed ones ranks first of all
  pub resuming_found : (rank : ℕ → ℕ) (found : Option ℕ) → FindsRarest (serves_at s h q n) rank pieces (length pieces) found
      → (FindsLeast (resumes_at s h q n) rank 0 (piece_count s.torrent) found) × IfSome found (λ p. p < piece_count s.torrent)
  resuming_found rank None none = (
    λ p low lp. false_from_ne_true (resumes_at s h q n p) (λ is.
        let listed = resumes_listed p lp is in
        false≢true (sym (none listed.0 listed.1) ∙ listed.3)),
    tt,
  )
  resuming_found rank (Some p) some = (
    (
      subst (λ (r : ℕ). resumes_at s h q n r ≡ true) some.1.2 (listed_resumes some.1.0 some.1.1 (ap (serves_at s h q n) some.1.2 ∙ some.0)),
      λ r low lr is.
          let listed = resumes_listed r lr is in
          subst (λ (x : ℕ). rank p ≤ rank x) listed.2 (some.2 listed.0 listed.1 listed.3),
    ),
    subst (λ (r : ℕ). r < piece_count s.torrent) some.1.2 (open_within s h pieces lists some.1.0 some.1.1),
  )

-- a list that rises has its first that passes as the one that ranks first by number
pub listed_least : (test : ℕ → Bool) (pieces : List ℕ) (found : Option ℕ) → FindsListed test pieces (length pieces) found
    → IfSome found (λ p. (i : ℕ) → i < length pieces → test (at pieces i) ≡ true → p ≤ at pieces i)
    → FindsRarest test (λ p. p) pieces (length pieces) found
listed_least test pieces None none least = none
listed_least test pieces (Some p) some least = (some.0, some.1, least)

-- ---- the rarest of a list that rises

-- what isn't there is None
pub none_found : (found : Option ℕ) → is_some found ≡ false → found ≡ None
none_found None is = refl
none_found (Some p) is = absurd (false≢true (sym is))

module _ (s : Setting) (h : History) (test : ℕ → Bool) (pieces : List ℕ) (i fewest : ℕ)
    (within : (j : ℕ) → j < length pieces → at pieces j < piece_count s.torrent) (rise : (j k : ℕ) → Rises pieces j k) (li : i < length pieces) where
  -- one that no more peers show, and that comes before, is no later in order
  ordered : (p r : ℕ) → p < piece_count s.torrent → p ≤ r → availability s h p ≤ availability s h r → order_of s h true 0 p ≤ order_of s h true 0 r
  ordered p r lp le few =
      let own = place_from (piece_count s.torrent) 0 p (omega arith) in
      let other = place_from (piece_count s.torrent) 0 r (omega arith) in
      ⊎_elim
      (λ (same : availability s h p ≡ availability s h r).
      ranks_alike (availability s h p) (availability s h r) (2 * piece_count s.torrent) _ _ same (omega (arith, own, other, le)))
      (λ (apart : availability s h p ≡ availability s h r → ⊥).
      let less = ranks_first (availability s h p) (availability s h r) (2 * piece_count s.torrent)
      (place_in_round (piece_count s.torrent) 0 p) (place_in_round (piece_count s.torrent) 0 r) (place_bound (piece_count s.torrent) 0 p lp)
      (omega (arith, few, apart)) in
      omega (arith, less))
      (cases_eq (availability s h p) (availability s h r))

  -- the one that was found stays where as many peers show the next one, or more
  pub stays_rarest : (found : Option ℕ) → FindsRarest test (order_of s h true 0) pieces i found → IfSome found (λ p. fewest ≡ availability s h p)
      → (found ≡ None → ⊥) → fewest ≤ availability s h (at pieces i) → IsRarer test (order_of s h true 0) found (at pieces i) found
  stays_rarest None none is some more = absurd (some refl)
  stays_rarest (Some p) found is some more =
      let j = found.1.0 in
      let less : at pieces j < at pieces i = ⊎_elim (λ up. up) (λ rest. ⊎_elim (λ back. absurd (let before = found.1.1 in omega (arith, before, back)))
      (λ out. absurd (omega (arith, li, out))) rest) (rise j i) in
      let lp : p < piece_count s.torrent =
      subst (λ (m : ℕ). m < piece_count s.torrent) found.1.2 (let before = found.1.1 in within j (omega (arith, before, li))) in
      inr (refl, inr (p, refl, ordered p (at pieces i) lp (let same = found.1.2 in omega (arith, less, same)) (omega (arith, is, more))))

  -- the next one comes before where fewer peers show it
  pub comes_rarest : (found : Option ℕ) → FindsRarest test (order_of s h true 0) pieces i found → IfSome found (λ p. fewest ≡ availability s h p)
      → test (at pieces i) ≡ true → (found ≡ None) ⊎ (availability s h (at pieces i) < fewest)
      → IsRarer test (order_of s h true 0) found (at pieces i) (Some (at pieces i))
  comes_rarest None none is passes why = inl (refl, passes, λ b named. cc named)
  comes_rarest (Some p) found is passes why = inl (
    refl,
    passes,
    λ b named.
        let same : p ≡ b = cc named in
        subst (λ (m : ℕ). order_of s h true 0 (at pieces i) ≤ order_of s h true 0 m) same (⊎_elim
        (λ (none : Some p ≡ None). cc none)
        (λ (fewer : availability s h (at pieces i) < fewest).
        let less = ranks_first (availability s h (at pieces i)) (availability s h p) (2 * piece_count s.torrent)
        (place_in_round (piece_count s.torrent) 0 (at pieces i)) (place_in_round (piece_count s.torrent) 0 p)
        (place_bound (piece_count s.torrent) 0 (at pieces i) (within i li)) (omega (arith, fewer, is)) in
        omega (arith, less))
        why),
  )

-- ---- how many pieces are open

-- numbers that rise, and are all those below n that pass, are as many as pass
counted : (n m : ℕ) (test : ℕ → Bool) (f : ℕ → ℕ) → ((i j : ℕ) → i < j → j < m → f i < f j)
    → ((i : ℕ) → i < m → (f i < n) × (test (f i) ≡ true)) → ((p : ℕ) → p < n → test p ≡ true → (i : ℕ) × (i < m) × (f i ≡ p))
    → m ≡ count_below n test
counted zero zero test f rise each all = refl
counted zero (suc m) test f rise each all = (let first = (each 0 (omega arith)).0 in absurd (omega (arith, first)))
counted (suc n) m test f rise each all = by_last (λ k. counted n k test f) (test n) refl where
  by_last : ((k : ℕ) → ((i j : ℕ) → i < j → j < k → f i < f j) → ((i : ℕ) → i < k → (f i < n) × (test (f i) ≡ true))
      → ((p : ℕ) → p < n → test p ≡ true → (i : ℕ) × (i < k) × (f i ≡ p)) → k ≡ count_below n test)
      → (x : Bool) → test n ≡ x → m ≡ count_below n test + one_if (test n)
  by_last below_last false fails =
      let step = below_last m rise
      (λ i li. (below i li, (each i li).1))
      (λ p lp is. all p (omega (arith, lp)) is) in
      let none : one_if (test n) ≡ 0 = ap one_if fails in
      omega (arith, step, none)
    where
      below : (i : ℕ) → i < m → f i < n
      below i li = ⊎_elim
          (λ (same : f i ≡ n). absurd (false≢true (sym fails ∙ ap test (sym same) ∙ (each i li).1)))
          (λ (apart : f i ≡ n → ⊥). (let low = (each i li).0 in omega (arith, low, apart)))
          (cases_eq (f i) n)
  by_last below_last true is =
      let last = all n (omega arith) is in
      let i = last.0 in
      let at_end : m ≡ i + 1 = ⊎_elim
      (λ (more : i + 1 < m). (let less = rise i (i + 1) (omega arith) more in let low = (each (i + 1) more).0 in
      absurd (omega (arith, less, low, last.2))))
      (λ (end : m ≤ i + 1). (let inside = last.1 in omega (arith, end, inside)))
      (cases_lt (i + 1) m) in
      let step = below_last i
      (λ j k lj lk. rise j k lj (omega (arith, lk, at_end)))
      (λ j lj. (
        (let less = rise j i lj last.1 in omega (arith, less, last.2)),
        (each j (omega (arith, lj, at_end))).1,
      ))
      (λ p lp passes. before i last.2 at_end p lp (all p (omega (arith, lp)) passes)) in
      let one : one_if (test n) ≡ 1 = ap one_if is in
      omega (arith, step, one, at_end)
    where
      before : (i : ℕ) → f i ≡ n → m ≡ i + 1 → (p : ℕ) → p < n → (j : ℕ) × (j < m) × (f j ≡ p) → (j : ℕ) × (j < i) × (f j ≡ p)
      before i top at_end p lp found = (
        found.0,
        ⊎_elim
            (λ (same : found.0 ≡ i). (let equal = ap f same in absurd (omega (arith, equal, top, found.2, lp))))
            (λ (apart : found.0 ≡ i → ⊥). (let inside = found.1 in omega (arith, inside, apart, at_end)))
            (cases_eq found.0 i),
        found.2,
      )

pub open_length : (s : Setting) (h : History) (pieces : List ℕ) → ListsOpen (groups_of s h) pieces → ((i j : ℕ) → Rises pieces i j)
    → length pieces ≡ open_count s h
open_length s h pieces lists rise = counted (piece_count s.torrent) (length pieces) (is_open_piece s h) (at pieces)
    (λ i j lij lj. ⊎_elim (λ less. less) (λ rest. ⊎_elim (λ back. absurd (omega (arith, lij, back))) (λ out. absurd (omega (arith, lj, out))) rest)
    (rise i j))
    (λ i li. (let lp = open_within s h pieces lists i li in (lp, stage_opened s h (at pieces i) lp (listed_open s h pieces lists i li))))
    (λ p lp is. open_listed s h pieces p lists lp (open_stage s h p lp is))

-- ---- which open piece goes on

-- where nothing resumes at this level no begun piece has a usable block
pub none_resume : (s : Setting) (h : History) (q n : ℕ) → ((p : ℕ) → p < piece_count s.torrent → resumes_at s h q n p ≡ false)
    → some_block s.torrent (goes_on s h q n) ≡ false
none_resume s h q n none = none_in_pieces s.torrent (goes_on s h q n) (λ p lp.
    any_none (block_count s.torrent p) (λ k. goes_on s h q n (block s.torrent p k)) (λ k lk.
    false_from_ne_true (goes_on s h q n (block s.torrent p k)) (λ on.
    let c = block s.torrent p k in
    let parts = and_parts (usable s h q c) _ on in
    let rest = and_parts (begun s h p) (level h p == n) parts.1 in
    false≢true (sym (none p lp) ∙ and_from (resumes s h q p) _ (usable_resumes s h q c (block_is_block s.torrent p k lp lk) parts.0 rest.0) rest.1))))

-- with a bound on open pieces the order is by rarity
module _ (s : Setting) (h : History) where
  bounded_order : (p : ℕ) → (s.most_open == 0) ≡ false → resuming_order s h p ≡ order_of s h true 0 p
  bounded_order p is = ap (λ (x : Bool). if x then p else order_of s h true 0 p) is

  pub numbered_order : s.most_open ≡ 0 → resuming_order s h ≡ (λ p. p)
  numbered_order none = λ i p. if eq-eqb s.most_open 0 none i then p else order_of s h true 0 p

  pub rarity_order : (s.most_open ≡ 0 → ⊥) → resuming_order s h ≡ order_of s h true 0
  rarity_order some = λ i p. if ne_eqb s.most_open 0 some i then p else order_of s h true 0 p

  bounded_le : (p r : ℕ) → (s.most_open == 0) ≡ false → resuming_order s h p ≤ resuming_order s h r → order_of s h true 0 p ≤ order_of s h true 0 r
  bounded_le p r is le =
      subst (λ (m : ℕ). m ≤ order_of s h true 0 r) (bounded_order p is) (subst (λ (m : ℕ). resuming_order s h p ≤ m) (bounded_order r is) le)

  -- the piece that ranks first is no rarer than another, and of one that isn't either it has the lower number
  no_rarer : (p r : ℕ) → (s.most_open == 0) ≡ false → r < piece_count s.torrent → resuming_order s h p ≤ resuming_order s h r
      → availability s h p ≤ availability s h r
  no_rarer p r is lr le = order_rank s h true 0 p r lr (bounded_le p r is le)

  lower_number : (p r : ℕ) → resuming_order s h p ≤ resuming_order s h r → ((s.most_open == 0) ≡ false → availability s h r ≤ availability s h p)
      → p ≤ r
  lower_number p r le alike = by_bound (s.most_open == 0) refl where
    by_bound : (x : Bool) → (s.most_open == 0) ≡ x → p ≤ r
    by_bound true is =
        let own : resuming_order s h p ≡ p = ap (λ (x : Bool). if x then p else order_of s h true 0 p) is in
        let other : resuming_order s h r ≡ r = ap (λ (x : Bool). if x then r else order_of s h true 0 r) is in
        subst (λ (m : ℕ). m ≤ r) own (subst (λ (m : ℕ). resuming_order s h p ≤ m) other le)
    by_bound false is =
        let places = later_place (availability s h p) (availability s h r) (2 * piece_count s.torrent) _ _ (alike is) (bounded_le p r is le) in
        let own = place_from (piece_count s.torrent) 0 p (omega arith) in
        let other = place_from (piece_count s.torrent) 0 r (omega arith) in
        omega (arith, places, own, other)

module _ (s : Setting) (h : History) (q n : ℕ) (above : NoneAbove s h q n) where
  -- where a block of the level is usable, one that continues is of an open piece of the level
  continues_resumes : (b : Block) → is_block s.torrent b ≡ true → usable s h q b ≡ true → level h b.piece ≡ n → (p k : ℕ)
      → p < piece_count s.torrent → k < block_count s.torrent p → continues s h q (block s.torrent p k) ≡ true
      → (resumes_at s h q n p ≡ true) × (begun s h p ≡ true) × (goes_first s h q p ≡ true)
  continues_resumes b inside fits same p k lp lk on =
      let c = block s.torrent p k in
      let parts = and_parts (tops s h q c) _ on in
      let rest = and_parts (begun s h p) (goes_first s h q p) parts.1 in
      let usage = top_usable s h q c parts.0 in
      let low = usable_below s h q n above p lp (any_found (block_count s.torrent p) (λ j. usable s h q (block s.torrent p j)) k lk usage) in
      let high = top_above s h q c b parts.0 inside fits in
      let level_is : level h p ≡ n = omega (arith, low, high, same) in (
        and_from (resumes s h q p) _ (usable_resumes s h q c (block_is_block s.torrent p k lp lk) usage rest.0) (eq-eqb (level h p) n level_is),
        rest.0,
        rest.1,
      )

  module _ (p : ℕ) (lp : p < piece_count s.torrent)
      (first : FindsLeast (resumes_at s h q n) (resuming_order s h) 0 (piece_count s.torrent) (Some p)) where
    own_parts : (is_open_piece s h p ≡ true) × (serves s h q p ≡ true) × (level h p ≡ n)
    own_parts = resumes_parts s h q n p first.0

    least_among : (r : ℕ) → r < piece_count s.torrent → resumes s h q r ≡ true → level h r ≡ n → resuming_order s h p ≤ resuming_order s h r
    least_among r lr on same = first.1 r (omega arith) lr (and_from (resumes s h q r) _ on (eq-eqb (level h r) n same))

    -- it may go on, where begun pieces come first or no candidate is rarer
    goes_first_at : (is_strict s h || is_rarest s h q p) ≡ true → goes_first s h q p ≡ true
    goes_first_at leads = by_bound (s.most_open == 0) refl where
      by_bound : (x : Bool) → (s.most_open == 0) ≡ x
          → (x || (none_rarer s h (resumes s h q) p && (is_strict s h || is_rarest s h q p))) ≡ true
      by_bound true is = refl
      by_bound false is = and_from (none_rarer s h (resumes s h q) p) _ (rarer_none s h (resumes s h q) p (λ r lr on same.
          no_rarer s h p r is lr (least_among r lr on (same ∙ own_parts.2)))) leads

    module _ (legal : IsLegal s h) (layout : IsLayout s.torrent) (is : IsLevel n) (near : n ≤ reach h q) (leads : (is_strict s h || is_rarest s h q p) ≡ true) where
      -- its first block that is left is there, continues, and is the pick
      pub going_on : (word : ℕ) (found : Option Block) → FindsOf s.torrent p (is_left s h q) found
          → (b : Block) × (found ≡ Some b) × (is_block s.torrent b ≡ true) × (continues s h q b ≡ true)
          × (is_first s h word (continues s h q) b ≡ true)
      going_on word found finds =
          let stage = open_stage s h p lp own_parts.0 in
          let shown = and_from (serves s h q p) (level h p == n) own_parts.1 (eq-eqb (level h p) n own_parts.2) in
          let known = given s h q n p found near (open_gives s h q n p layout is lp stage shown) finds in
          let b = known.0 in
          let level_is : level h b.piece ≡ n = ap (level h) known.3 ∙ own_parts.2 in
          let under_way : begun s h b.piece ≡ true =
          ap (begun s h) known.3 ∙ (and_parts (begun s h p) _ (and_parts (wanted s h p) _ own_parts.0).1).0 in
          let goes : continues s h q b ≡ true =
          and_from (tops s h q b) _ (tops_at s h q n above b known.4 level_is)
          (and_from (begun s h b.piece) _ under_way (ap (goes_first s h q) known.3 ∙ goes_first_at leads)) in (
            b,
            known.1,
            known.2,
            goes,
            least_first s h word (continues s h q) b goes under_way (λ r k lr lk too.
                let other = continues_resumes b known.2 known.4 level_is r k lr lk too in
                let its = resumes_parts s h q n r other.0 in (
                  (let mine = level_is in let same = its.2 in omega (arith, mine, same)),
                  λ same. (other.1, place b known.1 known.3 r k lr lk too other its.2),
                )),
          )
        where
          place : (b : Block) → found ≡ Some b → b.piece ≡ p → (r k : ℕ) → r < piece_count s.torrent → k < block_count s.torrent r
              → continues s h q (block s.torrent r k) ≡ true
              → (resumes_at s h q n r ≡ true) × (begun s h r ≡ true) × (goes_first s h q r ≡ true) → level h r ≡ n
              → (b.piece < r) ⊎ ((b.piece ≡ r) × (b.begin ≤ block_size * k))
          place b found_is own r k lr lk too other level_is =
              let order = first.1 r (omega arith) lr other.0 in
              let low = lower_number s h p r order (λ bound. rarer_than s h (resumes s h q) r p
              (and_parts (none_rarer s h (resumes s h q) r) _ (sym (ap (λ (x : Bool). x || (none_rarer s h (resumes s h q) r
              && (is_strict s h || is_rarest s h q r))) bound) ∙ other.2)).0 lp
              (and_parts (resumes s h q p) _ first.0).0 (own_parts.2 ∙ sym level_is)) in
              ⊎_elim
              (λ (same : p ≡ r).
              let c = block s.torrent r k in
              let parts = usable_parts (unasked s h c) (wanted s h r) (gives h q r) (not (overdue h q c)) (is_free_for s h q r)
              (top_usable s h q c (and_parts (tops s h q c) _ too).0) in
              subst (λ (x : ℕ). (b.piece < x) ⊎ ((b.piece ≡ x) × (b.begin ≤ block_size * k))) same
              (first_in_piece s.torrent p (is_left s h q) b (subst (FindsOf s.torrent p (is_left s h q)) found_is finds) k
              (subst (λ (x : ℕ). k < block_count s.torrent x) (sym same) lk)
              (ap (λ (x : ℕ). is_left s h q (block s.torrent x k)) same
              ∙ and_from (unasked s h c) (not (overdue h q c)) parts.0 parts.3)))
              (λ (apart : p ≡ r → ⊥). inl (omega (arith, own, low, apart)))
              (cases_eq p r)

      pub going_found : (word : ℕ) (found : Option Block) → FindsOf s.torrent p (is_left s h q) found → (IfSome found (λ b.
          (is_block s.torrent b ≡ true) × (continues s h q b ≡ true) × (is_first s h word (continues s h q) b ≡ true))) × (found ≡ None → ⊥)
      going_found word found finds =
          let known = going_on word found finds in (
            subst (λ (o : Option Block). IfSome o (λ b.
                (is_block s.torrent b ≡ true) × (continues s h q b ≡ true) × (is_first s h word (continues s h q) b ≡ true))) (sym known.1)
                (known.2, known.3, known.4),
            λ none. cc (sym known.1 ∙ none),
          )

    -- ---- a rarer candidate

    -- where begun pieces don't come first, and a candidate is rarer than the open piece, none goes on
    pub none_goes_on : (c : ℕ) → c < piece_count s.torrent → is_candidate_at s h q n c ≡ true → availability s h c < availability s h p
        → is_strict s h ≡ false → (b : Block) → is_block s.torrent b ≡ true → usable s h q b ≡ true → level h b.piece ≡ n
        → some_block s.torrent (continues s h q) ≡ false
    none_goes_on c lc may less loose b inside fits same = none_in_pieces s.torrent (continues s h q) (λ r lr.
        any_none (block_count s.torrent r) (λ k. continues s h q (block s.torrent r k)) (λ k lk.
        false_from_ne_true (continues s h q (block s.torrent r k)) (λ on.
        let known = continues_resumes b inside fits same r k lr lk on in
        let its = resumes_parts s h q n r known.0 in
        let candidate = at_level s h q n c may in
        by_bound r lr known.0 its candidate (s.most_open == 0) refl known.2)))
      where
        by_bound : (r : ℕ) → r < piece_count s.torrent → resumes_at s h q n r ≡ true
            → (is_open_piece s h r ≡ true) × (serves s h q r ≡ true) × (level h r ≡ n)
            → (is_candidate s h q c ≡ true) × (level h c ≡ n) → (x : Bool) → (s.most_open == 0) ≡ x
            → (x || (none_rarer s h (resumes s h q) r && (is_strict s h || is_rarest s h q r))) ≡ true → ⊥
        by_bound r lr on its candidate true is either =
            let none = ltb-false s.most_open (open_count s h) (or_parts (nat_lt s.most_open (open_count s h)) _ loose).0 in
            let some = count_found (piece_count s.torrent) (is_open_piece s h) r lr its.0 in
            let bound = eqb-true s.most_open 0 is in
            omega (arith, none, some, bound)
        by_bound r lr on its candidate false is either =
            let rare = sym (ap (λ (x : Bool). x || is_rarest s h q r) loose)
            ∙ (and_parts (none_rarer s h (resumes s h q) r) (is_strict s h || is_rarest s h q r) either).1 in
            let high = rarer_than s h (is_candidate s h q) r c rare lc candidate.0 (candidate.1 ∙ sym its.2) in
            let low = no_rarer s h p r is lr (first.1 r (omega arith) lr on) in
            omega (arith, high, low, less)

-- a piece is as rare as any candidate where no more peers show it than the rarest one, or there is none
pub as_rare : (s : Setting) (h : History) (q n p : ℕ) (found : Option ℕ) → level h p ≡ n
    → FindsLeast (is_candidate_at s h q n) (rank_of s h true) 0 (piece_count s.torrent) found
    → IfSome found (λ c. availability s h p ≤ availability s h c) → is_rarest s h q p ≡ true
as_rare s h q n p None same none few = rarer_none s h (is_candidate s h q) p (λ r lr may level_is.
    absurd (false≢true (sym (none r (omega arith) lr) ∙ candidate_at s h q n r may (level_is ∙ same))))
as_rare s h q n p (Some c) same some few = rarer_none s h (is_candidate s h q) p (λ r lr may level_is.
    let least = some.1 r (omega arith) lr (candidate_at s h q n r may (level_is ∙ same)) in
    omega (arith, few, least))
