-- The stage of a piece and its group, by the history: each level has groups of its own, one for each stage.
use Rattle.std.proofs.Common.{◌≡◌, ◌⊎◌, ℕ, ◌+◌, ◌-◌, ◌*◌, ◌<◌, ◌≤◌, ◌==◌, Bool, true, false, not, ◌&&◌, List, length, refl, ap, sym, ◌∙◌, subst}
use Rattle.std.proofs.Common.{arith, ⊎_elim, inl, inr}
use Rattle.std.specs.Prelude.{nat_lt, min, if◌then◌else◌}
use Rattle.std.proofs.lemmas.Bool.{and_from, and_parts, cases_eq, cases_lt, eq-eqb, lt-ltb}
use Rattle.bt_meta.specs.Layout.{piece_count}
use Rattle.bt_history.specs.Setting.{Setting, some_block_of, each_block_of}
use Rattle.bt_history.specs.History.{History}
use Rattle.bt_history.specs.Peers.{shows}
use Rattle.bt_history.specs.Pieces.{had, held_or_asked, availability, chosen, is_spent, level, offers, wanted}
use Rattle.bt_history.specs.Legal.{IsLegal}
use Rattle.bt_history.specs.Next.{is_candidate}
use Rattle.bt_history.proofs.Levels.{level_bounded}
use Rattle.bt_tables.specs.Orders.{at, ListsGroup}
use Rattle.bt_tables.specs.declared.piece.Stage.{Stage}
use Rattle.bt_tables.specs.declared.piece.Stage.TheVariants.{AskedOut, Open, Resting, Unbegun}
use Rattle.bt_tables.specs.Standings.{ListsOpen, first_group, group_number, group_of_row, place_in, place_of, slot_of, stage_of_row}
use Rattle.bt_tables.proofs.Apart.{level_cases, place_few, place_in_slot, place_open, slot_above, slot_below, slot_few, slot_usual}
use Rattle.bt_tables.proofs.Tabled.{get_or_table, length_table}
use Rattle.bt_picker.specs.Search.{IsLevel, is_candidate_at}
use Rattle.bt_picker.specs.Tables.{groups_of, piece_of}
use Rattle.bt_tables.specs.declared.piece.TheConstants.{CROWD, GROUPS, SPAN, UNBEGUN}
use Rattle.bt_picker.proofs.Telling.{stage_by, stage_is, wanted_chosen}

-- ---- what a stage tells of a piece

-- of a piece with something left to get
left_by : (d c t u : Bool) (n : ℕ) → 0 < place_of (stage_by d c t u n) → (d ≡ false) × (c ≡ true)
left_by true c t u n some = absurd (omega (arith, some))
left_by false false t u n some = absurd (omega (arith, some))
left_by false true t u n some = (refl, refl)

open_by : (d c t u : Bool) (n : ℕ) → stage_by d c t u n ≡ Open → (d ≡ false) × (c ≡ true) × (t ≡ true) × (u ≡ false)
open_by true c t u n is = absurd (cc is)
open_by false false t u n is = absurd (cc is)
open_by false true false u n is = absurd (cc is)
open_by false true true true n is = absurd (cc is)
open_by false true true false n is = (refl, refl, refl, refl)

unbegun_by : (d c t u : Bool) (v n : ℕ) → place_of (stage_by d c t u v) ≡ place_of (Unbegun n)
    → (d ≡ false) × (c ≡ true) × (t ≡ false) × (min v CROWD ≡ min n CROWD)
unbegun_by true c t u v n is = absurd (omega (arith, is))
unbegun_by false false t u v n is = absurd (omega (arith, is))
unbegun_by false true false u v n is = (refl, refl, refl, omega (arith, is))
unbegun_by false true true true v n is = absurd (omega (arith, is))
unbegun_by false true true false v n is = absurd (omega (arith, is))

-- an unbegun piece that somebody shows stands behind those that nobody does
shown_by : (d c t u : Bool) (v : ℕ) → UNBEGUN < place_of (stage_by d c t u v) → (d ≡ false) × (c ≡ true) × (t ≡ false) × (0 < v)
shown_by true c t u v more = absurd (omega (arith, more))
shown_by false false t u v more = absurd (omega (arith, more))
shown_by false true false u v more = (refl, refl, refl, omega (arith, more))
shown_by false true true true v more = absurd (omega (arith, more))
shown_by false true true false v more = absurd (omega (arith, more))

module _ (s : Setting) (h : History) (p : ℕ) where
  abbrev touched : Bool
  touched = some_block_of s.torrent p (held_or_asked s h)

  abbrev full : Bool
  full = each_block_of s.torrent p (held_or_asked s h)

  -- a piece with something left to get is wanted
  pub stage_left : 0 < place_of (stage_of_row (piece_of s h p)) → (had h p ≡ false) × (chosen h p ≡ true)
  stage_left some =
      left_by (had h p) (chosen h p) touched full (availability s h p) (subst (λ (stage : Stage). 0 < place_of stage) (stage_is s h p) some)

  pub stage_open : stage_of_row (piece_of s h p) ≡ Open → (had h p ≡ false) × (chosen h p ≡ true) × (touched ≡ true) × (full ≡ false)
  stage_open is = open_by (had h p) (chosen h p) touched full (availability s h p) (sym (stage_is s h p) ∙ is)

  pub stage_unbegun : (n : ℕ) → place_of (stage_of_row (piece_of s h p)) ≡ place_of (Unbegun n)
      → (had h p ≡ false) × (chosen h p ≡ true) × (touched ≡ false) × (min (availability s h p) CROWD ≡ min n CROWD)
  stage_unbegun n is = unbegun_by (had h p) (chosen h p) touched full (availability s h p) n (sym (ap place_of (stage_is s h p)) ∙ is)

  pub stage_shown : UNBEGUN < place_of (stage_of_row (piece_of s h p))
      → (had h p ≡ false) × (chosen h p ≡ true) × (touched ≡ false) × (0 < availability s h p)
  stage_shown more =
      shown_by (had h p) (chosen h p) touched full (availability s h p) (subst (λ (stage : Stage). UNBEGUN < place_of stage) (stage_is s h p) more)

  -- and the stage where the tests are known
  pub unbegun_stage : had h p ≡ false → chosen h p ≡ true → touched ≡ false → stage_of_row (piece_of s h p) ≡ Unbegun (availability s h p)
  unbegun_stage lacks picked fresh = stage_is s h p ∙ (λ i. stage_by (lacks i) (picked i) (fresh i) full (availability s h p))

  pub begun_stage : (x : Bool) → had h p ≡ false → chosen h p ≡ true → touched ≡ true → full ≡ x
      → stage_of_row (piece_of s h p) ≡ (if x then AskedOut else Open)
  begun_stage x lacks picked begun all = stage_is s h p ∙ (λ i. stage_by (lacks i) (picked i) (begun i) (all i) (availability s h p))

-- ---- the group that a stage of a level is

-- two levels with one slot are the same
slot_same : (l n : ℕ) → IsLevel l → IsLevel n → slot_of l ≡ slot_of n → l ≡ n
slot_same l n own is same = by_own (level_cases l) where
  by_other : (m : ℕ) → slot_of l ≡ m → (m ≡ 0 → l ≡ 4) → (4 < n → m ≡ min n 7 - 4 → l ≡ n) → (n < 4 → m ≡ 7 - n → l ≡ n) → l ≡ n
  by_other m here usual above below = ⊎_elim
      (λ (either : (n ≡ 0) ⊎ (n ≡ 4)). ⊎_elim
      (λ (none : n ≡ 0). absurd (omega (arith, none, is.0)))
      (λ (four : n ≡ 4). (let zero_is = slot_usual n (inr four) in let mine = usual (omega (arith, here, same, zero_is)) in
      omega (arith, mine, four)))
      either)
      (λ rest. ⊎_elim
      (λ (more : 4 < n). above more (omega (arith, here, same, slot_above n more)))
      (λ (less : (0 < n) × (n < 4)). below less.1 (omega (arith, here, same, slot_below n less.0 less.1)))
      rest)
      (level_cases n)

  by_own : ((l ≡ 0) ⊎ (l ≡ 4)) ⊎ ((4 < l) ⊎ ((0 < l) × (l < 4))) → l ≡ n
  by_own (inl (inl none)) = absurd (omega (arith, none, own.0))
  by_own (inl (inr four)) = by_other 0 (slot_usual l (inr four)) (λ zero_is. four) (λ more there. absurd (omega (arith, there, more, is.1)))
      (λ less there. absurd (omega (arith, there, less)))
  by_own (inr (inl more)) = by_other (min l 7 - 4) (slot_above l more) (λ zero_is. absurd (omega (arith, zero_is, more)))
      (λ high there. omega (arith, there, high, more, own.1, is.1)) (λ less there. absurd (omega (arith, there, less, more)))
  by_own (inr (inr less)) = by_other (7 - l) (slot_below l less.0 less.1) (λ zero_is. absurd (omega (arith, zero_is, less.1)))
      (λ high there. absurd (omega (arith, there, high, less.1))) (λ low there. omega (arith, there, low, less.1))

-- the level of a group, and the place among those of the level, can be told from its number
pub same_place : (l n j k : ℕ) → l ≤ 7 → IsLevel n → j < SPAN → (l ≡ 0 → j ≡ 0) → 0 < k → k < SPAN
    → slot_of l * SPAN + j ≡ slot_of n * SPAN + k → (l ≡ n) × (j ≡ k)
same_place l n j k few is low none some under same =
    let slot : slot_of l ≡ slot_of n = omega (arith, same, low, under) in
    let place : j ≡ k = omega (arith, same, slot) in
    ⊎_elim
    (λ (zero_is : l ≡ 0). (let rest = none zero_is in absurd (omega (arith, rest, place, some))))
    (λ (more : l ≡ 0 → ⊥). (slot_same l n (omega (arith, more), few) is slot, place))
    (cases_eq l 0)

module _ (s : Setting) (h : History) (p : ℕ) (legal : IsLegal s h) where
  -- a piece of level 0 rests
  unchosen_rests : level h p ≡ 0 → stage_of_row (piece_of s h p) ≡ Resting
  unchosen_rests none = stage_is s h p ∙ (λ i. stage_by (had h p) (nat_lt 0 (none i)) (some_block_of s.torrent p (held_or_asked s h))
      (each_block_of s.torrent p (held_or_asked s h)) (availability s h p)) ∙ rests (had h p)
    where
      rests : (d : Bool) → stage_by d false (some_block_of s.torrent p (held_or_asked s h)) (each_block_of s.torrent p (held_or_asked s h))
          (availability s h p) ≡ Resting
      rests true = refl
      rests false = refl

  -- a piece in a group of a level, but for the resting ones, has that level and stands where that stage does
  pub placed : (n : ℕ) (stage : Stage) → IsLevel n → 0 < place_of stage → group_of_row (piece_of s h p) ≡ group_number n stage
      → (level h p ≡ n) × (place_of (stage_of_row (piece_of s h p)) ≡ place_of stage)
  placed n stage is some same =
      let own = stage_of_row (piece_of s h p) in
      same_place (level h p) n (place_of own) (place_of stage) (level_bounded s h p legal) is (place_few own)
      (λ none. ap place_of (unchosen_rests none)) some (place_few stage) same

group_is : (s : Setting) (h : History) (p n : ℕ) (stage : Stage) → level h p ≡ n → place_of (stage_of_row (piece_of s h p)) ≡ place_of stage
    → group_of_row (piece_of s h p) ≡ group_number n stage
group_is s h p n stage level_is place = λ i. first_group (level_is i) + place i

pub level_chosen : (h : History) (p n : ℕ) → IsLevel n → level h p ≡ n → chosen h p ≡ true
level_chosen h p n is same = lt-ltb 0 (level h p) (omega (arith, is.0, same))

-- a piece in the groups of the shown unbegun ones of a level has that level, and is one of them
pub between_shown : (s : Setting) (h : History) (p n : ℕ) → IsLegal s h → IsLevel n → group_number n (Unbegun 1) ≤ group_of_row (piece_of s h p)
    → group_of_row (piece_of s h p) < first_group n + SPAN
    → (level h p ≡ n) × (had h p ≡ false) × (chosen h p ≡ true) × (touched s h p ≡ false) × (0 < availability s h p)
between_shown s h p n legal is low high =
    let own = stage_of_row (piece_of s h p) in
    let few = place_few own in
    let behind = group_of_row (piece_of s h p) - first_group n in
    let place = same_place (level h p) n (place_of own) behind (level_bounded s h p legal) is few
    (λ none. ap place_of (unchosen_rests s h p legal none)) (omega (arith, low)) (omega (arith, low, high)) (omega (arith, low)) in
    let known = stage_shown s h p (omega (arith, place.1, low)) in
    (place.0, known.0, known.1, known.2, known.3)

-- and each such piece is in these groups
pub shown_between : (s : Setting) (h : History) (p n : ℕ) → level h p ≡ n → had h p ≡ false → chosen h p ≡ true → touched s h p ≡ false
    → 0 < availability s h p
    → (group_number n (Unbegun 1) ≤ group_of_row (piece_of s h p)) × (group_of_row (piece_of s h p) < first_group n + SPAN)
shown_between s h p n same lacks picked fresh some =
    let stage = unbegun_stage s h p lacks picked fresh in
    let group = group_is s h p n (Unbegun (availability s h p)) same (ap place_of stage) in
    let few = place_few (Unbegun (availability s h p)) in
    (omega (arith, group, some), omega (arith, group, few))

-- where a piece is in no group of the higher levels it has none of them
pub not_above : (s : Setting) (h : History) (p : ℕ) → IsLegal s h → (SPAN ≤ group_of_row (piece_of s h p) → 4 * SPAN ≤ group_of_row (piece_of s h p))
    → level h p ≤ 4
not_above s h p legal behind = ⊎_elim
    (λ (more : 4 < level h p).
    let slot = slot_above (level h p) more in
    let bound = level_bounded s h p legal in
    let few = place_few (stage_of_row (piece_of s h p)) in
    let far = behind (omega (arith, slot, bound)) in
    absurd (omega (arith, far, slot, more, few)))
    (λ (low : level h p ≤ 4). low)
    (cases_lt 4 (level h p))

-- a group is one of those there are
pub group_few : (s : Setting) (h : History) (p : ℕ) → group_of_row (piece_of s h p) < GROUPS
group_few s h p = omega (arith, slot_few (level h p), place_few (stage_of_row (piece_of s h p)))

-- and where it is in no group of the lower levels, none of those
pub not_below : (s : Setting) (h : History) (p : ℕ) → (4 * SPAN ≤ group_of_row (piece_of s h p) → GROUPS ≤ group_of_row (piece_of s h p))
    → 0 < level h p → 4 ≤ level h p
not_below s h p behind some = ⊎_elim
    (λ (less : level h p < 4).
    let slot = slot_below (level h p) some less in
    let far = behind (omega (arith, slot, less)) in
    absurd (omega (arith, far, group_few s h p)))
    (λ (high : 4 ≤ level h p). high)
    (cases_lt (level h p) 4)

-- ---- the lists of groups

groups_long : (s : Setting) (h : History) → length (groups_of s h) ≡ piece_count s.torrent
groups_long s h = length_table (piece_count s.torrent) (λ r. group_of_row (piece_of s h r))

pub group_at : (s : Setting) (h : History) (p : ℕ) → p < piece_count s.torrent → at (groups_of s h) p ≡ group_of_row (piece_of s h p)
group_at s h p lp = get_or_table (piece_count s.torrent) (λ r. group_of_row (piece_of s h r)) p 0 lp

pub group_within : (s : Setting) (h : History) (n : ℕ) (pieces : List ℕ) → ListsGroup (groups_of s h) n pieces → (i : ℕ) → i < length pieces →
    at pieces i < piece_count s.torrent
group_within s h n pieces lists i li = omega (arith, lists.known i li, groups_long s h)

-- a listed piece has the level of the list and stands where its stage does, and each such piece is listed
pub listed_place : (s : Setting) (h : History) (n : ℕ) (stage : Stage) (pieces : List ℕ) → IsLegal s h → IsLevel n → 0 < place_of stage
    → ListsGroup (groups_of s h) (group_number n stage) pieces → (i : ℕ) → i < length pieces
    → (at pieces i < piece_count s.torrent) × (level h (at pieces i) ≡ n) × (place_of (stage_of_row (piece_of s h (at pieces i))) ≡ place_of stage)
listed_place s h n stage pieces legal is some lists i li =
    let lp = group_within s h (group_number n stage) pieces lists i li in
    let place = placed s h (at pieces i) legal n stage is some (sym (group_at s h (at pieces i) lp) ∙ lists.each i li) in
    (lp, place.0, place.1)

pub place_listed : (s : Setting) (h : History) (n : ℕ) (stage : Stage) (p : ℕ) (pieces : List ℕ)
    → ListsGroup (groups_of s h) (group_number n stage) pieces → p < piece_count s.torrent → level h p ≡ n
    → place_of (stage_of_row (piece_of s h p)) ≡ place_of stage → (i : ℕ) × (i < length pieces) × (at pieces i ≡ p)
place_listed s h n stage p pieces lists lp level_is place =
    lists.all p (omega (arith, groups_long s h, lp)) (group_at s h p lp ∙ group_is s h p n stage level_is place)

-- the place of a piece's group is that of its stage
place_told : (s : Setting) (h : History) (p : ℕ) → p < piece_count s.torrent
    → place_in (at (groups_of s h) p) ≡ place_of (stage_of_row (piece_of s h p))
place_told s h p lp =
    let stage = stage_of_row (piece_of s h p) in
    ap place_in (group_at s h p lp) ∙ place_in_slot (slot_of (level h p)) (place_of stage) (place_few stage)

pub open_within : (s : Setting) (h : History) (pieces : List ℕ) → ListsOpen (groups_of s h) pieces → (i : ℕ) → i < length pieces →
    at pieces i < piece_count s.torrent
open_within s h pieces lists i li = omega (arith, lists.known i li, groups_long s h)

pub listed_open : (s : Setting) (h : History) (pieces : List ℕ) → ListsOpen (groups_of s h) pieces → (i : ℕ) → i < length pieces
    → stage_of_row (piece_of s h (at pieces i)) ≡ Open
listed_open s h pieces lists i li =
    place_open (stage_of_row (piece_of s h (at pieces i)))
    (sym (place_told s h (at pieces i) (open_within s h pieces lists i li)) ∙ lists.each i li)

pub open_listed : (s : Setting) (h : History) (pieces : List ℕ) (p : ℕ) → ListsOpen (groups_of s h) pieces → p < piece_count s.torrent
    → stage_of_row (piece_of s h p) ≡ Open → (i : ℕ) × (i < length pieces) × (at pieces i ≡ p)
open_listed s h pieces p lists lp stage = lists.all p (omega (arith, groups_long s h, lp)) (place_told s h p lp ∙ ap place_of stage)

-- ---- candidates

candidate_cases : (w v d t : Bool) → (w && (v && (not d && not t))) ≡ true → (w ≡ true) × (v ≡ true) × (d ≡ false) × (t ≡ false)
candidate_cases false v d t is = absurd (cc is)
candidate_cases true false d t is = absurd (cc is)
candidate_cases true true true t is = absurd (cc is)
candidate_cases true true false true is = absurd (cc is)
candidate_cases true true false false is = (refl, refl, refl, refl)

pub candidate_parts : (s : Setting) (h : History) (q p : ℕ) → is_candidate s h q p ≡ true
    → (wanted s h p ≡ true) × (shows h q p ≡ true) × (had h p ≡ false) × (some_block_of s.torrent p (held_or_asked s h) ≡ false)
candidate_parts s h q p is =
    let parts = candidate_cases (wanted s h p) (offers s h q p) (had h p) (some_block_of s.torrent p (held_or_asked s h)) is in
    (parts.0, (and_parts (shows h q p) (not (is_spent s h q p)) parts.1).0, parts.2, parts.3)

pub candidate_offered : (s : Setting) (h : History) (q p : ℕ) → is_candidate s h q p ≡ true → offers s h q p ≡ true
candidate_offered s h q p is = (candidate_cases (wanted s h p) (offers s h q p) (had h p) (some_block_of s.torrent p (held_or_asked s h)) is).1

-- a candidate is an unbegun piece of the stage that its availability tells
pub candidate_stage : (s : Setting) (h : History) (q p : ℕ) → is_candidate s h q p ≡ true
    → (offers s h q p ≡ true) × (stage_of_row (piece_of s h p) ≡ Unbegun (availability s h p))
candidate_stage s h q p is =
    let parts = candidate_parts s h q p is in
    let picked : chosen h p ≡ true = (and_parts (nat_lt p (piece_count s.torrent)) (chosen h p) parts.0).1 in
    (candidate_offered s h q p is, unbegun_stage s h p parts.2 picked parts.3)

-- and each unbegun piece that the peer offers is one
pub stage_candidate : (s : Setting) (h : History) (q p n : ℕ) → p < piece_count s.torrent → offers s h q p ≡ true
    → place_of (stage_of_row (piece_of s h p)) ≡ place_of (Unbegun n)
    → (is_candidate s h q p ≡ true) × (min (availability s h p) CROWD ≡ min n CROWD)
stage_candidate s h q p n lp shown is =
    let parts = stage_unbegun s h p n is in (
      and_from (wanted s h p) _ (wanted_chosen s h p lp ∙ parts.1)
          (and_from (offers s h q p) _ shown (and_from (not (had h p)) _ (ap not parts.0) (ap not parts.2))),
      parts.3,
    )

pub candidate_at : (s : Setting) (h : History) (q n p : ℕ) → is_candidate s h q p ≡ true → level h p ≡ n → is_candidate_at s h q n p ≡ true
candidate_at s h q n p is same = and_from (is_candidate s h q p) (level h p == n) is (eq-eqb (level h p) n same)
