-- What an exchange of two numbers, and the move of a border, leave of the arrays of an order.
use Rattle.std.proofs.Common.{◌≡◌, ◌≢◌, ◌⊎◌, ℕ, zero, suc, ◌+◌, ◌-◌, ◌^◌, ◌<◌, ◌≤◌, List, [], ◌∷◌, length, get_or, set, take, drop, ◌++◌}
use Rattle.std.proofs.Common.{◌==◌, false, replicate, refl, ap, sym, ◌∙◌, arith, length-set, ⊎_elim, inl, inr, subst}
use Rattle.std.proofs.lemmas.Bool.{cases_eq, cases_lt, eqb-false}
use Rattle.std.proofs.lemmas.List.{get_or-set_same, get_or-set_other, get_or_read, length-replicate, get_or-replicate}
use Rattle.std.specs.List.{range_with_len}
use Rattle.std.proofs.lemmas.List.FromFn.{get_or-range_with_len, length-range_with_len}
use Rattle.std.proofs.lemmas.Grind.{common_steps}
use Rattle.bt_tables.specs.Orders.{at, AreInverse, AreSplit, Begins, ListsGroup, OrderState, Side, SomeBetween}

-- what is read at k of a list that was written at b
abbrev Reads : List ℕ → ℕ → ℕ → ℕ → Type 0
Reads xs b v k = ((k ≡ b) × (at (set xs b v) k ≡ v)) ⊎ ((k ≢ b) × (at (set xs b v) k ≡ at xs k))

reads : (xs : List ℕ) (b v k : ℕ) → b < length xs → Reads xs b v k
reads xs b v k lb = ⊎_elim
    (λ (same : k ≡ b). inl (same, ap (at (set xs b v)) same ∙ get_or-set_same xs b v 0 lb))
    (λ (apart : k ≡ b → ⊥). inr (apart, get_or-set_other xs b k v 0 apart))
    (cases_eq k b)

-- ---- two numbers take each other's places

module _ (numbers places : List ℕ) (p i : ℕ) (are : AreInverse numbers places) (lp : p < length places) (li : i < length places) where
  -- where number k stands then
  abbrev Stands : ℕ → Type 0
  Stands k =
      ((k ≡ p) × (at (set (set places (at numbers i) (at places p)) p i) k ≡ i))
      ⊎ (((k ≢ p) × (k ≡ at numbers i) × (at (set (set places (at numbers i) (at places p)) p i) k ≡ at places p))
      ⊎ ((k ≢ p) × (k ≢ at numbers i) × (at (set (set places (at numbers i) (at places p)) p i) k ≡ at places k)))

  pub stands : (k : ℕ) → Stands k
  stands k =
      let first = reads places (at numbers i) (at places p) k (are.number i li) in
      let len = length-set places (at numbers i) (at places p) in
      let second = reads (set places (at numbers i) (at places p)) p i k (omega (arith, len)) in
      grind (arith, first, second)

-- ---- a number moves over a border

module _ (groups places numbers ends : List ℕ) (p : ℕ) (are : AreInverse numbers places) (split : AreSplit groups places ends)
    (lp : p < length places) where
  -- the last number of the group of p stands just before its end, and no earlier than p
  module _ (g last : ℕ) (group_is : at groups p ≡ g) (next : g + 1 < length ends) (last_is : last + 1 ≡ at ends g) where
    pub raised_side : (r n : ℕ) → r < length places → n < length ends
        → Side (set groups p (g + 1)) (set (set places (at numbers last) (at places p)) p last) (set ends g last) r n
    raised_side r n lr ln =
        let in_last : last < length places = omega (arith, split.within g (omega arith)) in
        let lq = are.number last in_last in
        let back = are.forth last in_last in
        let place = stands numbers places p last are lp in_last r in
        let group = reads groups p (g + 1) r (omega (arith, split.same)) in
        let end = reads ends g last n (omega arith) in
        let pn = split.side p n lp ln in
        let pg = split.side p g lp (omega arith) in
        let qn = split.side (at numbers last) n lq ln in
        let qg = split.side (at numbers last) g lq (omega arith) in
        let rn = split.side r n lr ln in
        let other : (r ≡ at numbers last) ⊎ (at places r ≢ last) =
        ⊎_elim inl (λ (apart : r ≡ at numbers last → ⊥). inr (λ same. apart (sym (are.back r lr) ∙ ap (at numbers) same)))
        (cases_eq r (at numbers last)) in
        grind (arith, place, group, end, pn, pg, qn, qg, rn, back, other)

    pub raised : AreSplit (set groups p (g + 1)) (set (set places (at numbers last) (at places p)) p last) (set ends g last)
    raised =
        let places_len = length-set (set places (at numbers last) (at places p)) p last ∙ length-set places (at numbers last) (at places p) in
        let groups_len = length-set groups p (g + 1) in
        let ends_len = length-set ends g last in
        record {
          same = omega (arith, split.same);
          few = (omega (arith, split.few.0), omega (arith, split.few.1));
          within = λ n ln.
              let old = split.within n (omega arith) in
              let top = split.within g (omega arith) in
              let end = reads ends g last n (omega arith) in
              omega (arith);
          known = λ r lr.
              let old = split.known r (omega arith) in
              let group = reads groups p (g + 1) r (omega (arith, split.same)) in
              omega (arith);
          side = λ r n lr ln. raised_side r n (omega arith) (omega arith);
        }

  -- the first number of the group after g stands at its end, and no later than p
  module _ (g first : ℕ) (group_is : at groups p ≡ g + 1) (first_is : first ≡ at ends g) where
    pub lowered_first : first < length places
    lowered_first =
        let known = split.known p lp in
        let pg = split.side p g lp (omega arith) in
        let place = are.place p lp in
        omega arith

    pub lowered_side : (r n : ℕ) → r < length places → n < length ends
        → Side (set groups p g) (set (set places (at numbers first) (at places p)) p first) (set ends g (first + 1)) r n
    lowered_side r n lr ln =
        let lf = lowered_first in
        let known = split.known p lp in
        let lq = are.number first lf in
        let back = are.forth first lf in
        let place = stands numbers places p first are lp lf r in
        let group = reads groups p g r (omega (arith, split.same)) in
        let end = reads ends g (first + 1) n (omega arith) in
        let pn = split.side p n lp ln in
        let pg = split.side p g lp (omega arith) in
        let qn = split.side (at numbers first) n lq ln in
        let qg = split.side (at numbers first) g lq (omega arith) in
        let rn = split.side r n lr ln in
        let other : (r ≡ at numbers first) ⊎ (at places r ≢ first) =
        ⊎_elim inl (λ (apart : r ≡ at numbers first → ⊥). inr (λ same. apart (sym (are.back r lr) ∙ ap (at numbers) same)))
        (cases_eq r (at numbers first)) in
        grind (arith, place, group, end, pn, pg, qn, qg, rn, back, other)

    pub lowered : AreSplit (set groups p g) (set (set places (at numbers first) (at places p)) p first) (set ends g (first + 1))
    lowered =
        let places_len = length-set (set places (at numbers first) (at places p)) p first ∙ length-set places (at numbers first) (at places p) in
        let groups_len = length-set groups p g in
        let ends_len = length-set ends g (first + 1) in
        let lf = lowered_first in
        record {
          same = omega (arith, split.same);
          few = (omega (arith, split.few.0), omega (arith, split.few.1));
          within = λ n ln.
              let old = split.within n (omega arith) in
              let end = reads ends g (first + 1) n (omega (arith, split.known p lp)) in
              omega (arith);
          known = λ r lr.
              let old = split.known r (omega arith) in
              let mine = split.known p lp in
              let group = reads groups p g r (omega (arith, split.same)) in
              omega (arith);
          side = λ r n lr ln. lowered_side r n (omega arith) (omega arith);
        }

-- ---- groups that don't end where they begin

module _ (groups numbers places ends : List ℕ) (are : AreInverse numbers places) (split : AreSplit groups places ends) (low top begin : ℕ)
    (up : low ≤ top) (lt : top < length ends) (begins : Begins ends low begin) (apart : begin ≢ at ends top) where
  -- they end behind where they begin
  begins_before : begin < at ends top
  begins_before = ⊎_elim
      (λ (front : (low ≡ 0) × (begin ≡ 0)). omega (arith, front.0, front.1, apart))
      (λ (behind : (m : ℕ) × (low ≡ m + 1) × (begin ≡ at ends m)). ⊎_elim
      (λ (less : begin < at ends top). less)
      (λ (le : at ends top ≤ begin).
      let m = behind.0 in
      let lm : m < length ends = omega (arith, behind.1, up, lt) in
      let within = split.within m lm in
      let inside : at ends top < length places = omega (arith, le, apart, behind.2, within) in
      let known = are.number (at ends top) inside in
      let place = are.forth (at ends top) inside in
      let low_side = split.side (at numbers (at ends top)) m known lm in
      let top_side = split.side (at numbers (at ends top)) top known lt in
      absurd (omega (arith, le, apart, behind.1, behind.2, up, place, low_side, top_side)))
      (cases_lt begin (at ends top)))
      begins

  -- so the number where they begin is in one of them
  pub some_between : SomeBetween groups low (top + 1)
  some_between =
      let less = begins_before in
      let within = split.within top lt in
      let inside : begin < length places = omega (arith, less, within) in
      let p = at numbers begin in
      let known = are.number begin inside in
      let place = are.forth begin inside in
      let top_side = split.side p top known lt in (
        p,
        omega (arith, known, split.same),
        ⊎_elim
            (λ (front : (low ≡ 0) × (begin ≡ 0)). omega (arith, front.0))
            (λ (behind : (m : ℕ) × (low ≡ m + 1) × (begin ≡ at ends m)).
            let low_side = split.side p behind.0 known (omega (arith, behind.1, up, lt)) in
            omega (arith, behind.1, behind.2, place, low_side))
            begins,
        omega (arith, less, place, top_side),
      )

-- the same of an order as contracts see it
pub begins_apart : (groups numbers places ends : List ℕ) (view : OrderState) (low high begin end : ℕ) → AreInverse numbers places
    → AreSplit groups places ends → record { count = length ends; group_of = groups } ≡ view → low < high → high ≤ view.count
    → Begins ends low begin → end ≡ get_or ends (high - 1) end → (begin == end) ≡ false → SomeBetween view.group_of low high
begins_apart groups numbers places ends view low high begin end are split is less few from end_is other =
    let count : length ends ≡ view.count = ap (λ (v : OrderState). v.count) is in
    let groups_is : groups ≡ view.group_of = ap (λ (v : OrderState). v.group_of) is in
    let lt : high - 1 < length ends = omega arith in
    let read : end ≡ at ends (high - 1) = get_or_read ends (high - 1) end lt end_is 0 in
    let found = some_between groups numbers places ends are split low (high - 1) begin (omega arith) lt from
    (λ same. eqb-false begin end other (same ∙ sym read)) in
    let group = ap (λ (xs : List ℕ). at xs found.0) groups_is in
    let long = ap length groups_is in
    (found.0, omega (arith, found.1, long), omega (arith, found.2, group), omega (arith, found.3, group, less))

-- ---- a slice that was lent and came back whole

pub whole : (new old : List ℕ) (n : ℕ) → length new ≡ n → take n (new ++ drop (length new) old) ≡ new
whole new old n len = grind (arith, common_steps)

-- ---- what an order tells of its arrays

-- a number's group, read from the arrays of an order that is seen as this
pub record IsRead (groups places ends : List ℕ) (view : OrderState) (p g : ℕ) : Type 0 where
  pub number : p < length places
  pub group : at groups p ≡ g
  pub seen : at view.group_of p ≡ g
  pub count : length ends ≡ view.count
  pub known : g < length ends

pub is_read : (groups places ends : List ℕ) (view : OrderState) (p g : ℕ) → AreSplit groups places ends
    → record { count = length ends; group_of = groups } ≡ view → p < length view.group_of → g ≡ get_or groups p g → IsRead groups places ends view p g
is_read groups places ends view p g split is lp g_is =
    let groups_is : groups ≡ view.group_of = ap (λ (v : OrderState). v.group_of) is in
    let len : length groups ≡ length view.group_of = ap length groups_is in
    let within : p < length groups = omega arith in
    let number : p < length places = omega (arith, split.same) in
    let group : g ≡ at groups p = get_or_read groups p g within g_is 0 in
    let same : at groups p ≡ at view.group_of p = ap (λ (xs : List ℕ). at xs p) groups_is in
    record {
      number = number;
      group = sym group;
      seen = omega arith;
      count = ap (λ (v : OrderState). v.count) is;
      known = omega (arith, split.known p number);
    }

-- the group of a number has a last place
pub has_last : (groups places ends : List ℕ) (p g last : ℕ) → AreSplit groups places ends → p < length places
    → at groups p ≡ g → last ≡ get_or ends g last → (1 ≤ last) × (last ≡ at ends g)
has_last groups places ends p g last split lp group_is last_is =
    let known = split.known p lp in
    let side = split.side p g lp (omega arith) in
    let read = get_or_read ends g last (omega arith) last_is 0 in
    (omega arith, read)

-- ---- the numbers of a group

module _ (groups numbers places ends : List ℕ) (n begin end : ℕ) (are : AreInverse numbers places) (split : AreSplit groups places ends)
    (ln : n < length ends) (end_is : end ≡ at ends n) where
  pub begins : Begins ends n begin → begin ≤ end
  begins from = ⊎_elim (λ (none : (n ≡ 0) × (begin ≡ 0)). omega (arith, none.1))
      (λ (some : (m : ℕ) × (n ≡ m + 1) × (begin ≡ at ends m)). ⊎_elim
      (λ (before : end < begin).
      let within = split.within some.0 (omega (arith, some.1)) in
      let known : end < length places = omega (arith, some.2) in
      let q = at numbers end in
      let lq = are.number end known in
      let stands = are.forth end known in
      let here = split.side q n lq ln in
      let there = split.side q some.0 lq (omega (arith, some.1)) in
      omega (arith, here, there, stands, some.1, some.2))
      (λ (le : begin ≤ end). le)
      (cases_lt end begin))
      from

  -- a number of the group stands within it
  pub stands_within : Begins ends n begin → (p : ℕ) → p < length places → at groups p ≡ n → (begin ≤ at places p) × (at places p < end)
  stands_within from p lp is =
      let here = split.side p n lp ln in
      ⊎_elim (λ (none : (n ≡ 0) × (begin ≡ 0)). (omega (arith, none.1), omega (arith, here)))
      (λ (some : (m : ℕ) × (n ≡ m + 1) × (begin ≡ at ends m)).
      let there = split.side p some.0 lp (omega (arith, some.1)) in
      (omega (arith, here, there, some.1, some.2), omega (arith, here)))
      from

  -- what stands within it is of the group
  pub within_is : Begins ends n begin → (i : ℕ) → begin ≤ i → i < end → (i < length places) × (at groups (at numbers i) ≡ n)
  within_is from i low high =
      let known : i < length places = omega (arith, split.within n ln) in
      let p = at numbers i in
      let lp = are.number i known in
      let stands = are.forth i known in
      let here = split.side p n lp ln in
      ⊎_elim (λ (none : (n ≡ 0) × (begin ≡ 0)). (known, omega (arith, here, stands, none.0)))
      (λ (some : (m : ℕ) × (n ≡ m + 1) × (begin ≡ at ends m)).
      let there = split.side p some.0 lp (omega (arith, some.1)) in
      (known, omega (arith, here, there, stands, some.1, some.2)))
      from

  pub lists_group : Begins ends n begin → ListsGroup groups n (take (end - begin) (drop begin numbers))
  lists_group from =
      let low = begins from in
      let found = take (end - begin) (drop begin numbers) in
      let len : length found ≡ end - begin = grind (arith, common_steps, are.same, split.within n ln) in
      let read : (i : ℕ) → i < length found → at found i ≡ at numbers (begin + i) = λ i li. grind (arith, common_steps) in
      record {
        known = λ i li.
            let at_i = within_is from (begin + i) (omega arith) (omega arith) in
            let known = are.number (begin + i) at_i.0 in
            omega (arith, read i li, split.same);
        each = λ i li.
            let at_i = within_is from (begin + i) (omega arith) (omega arith) in
            ap (at groups) (read i li) ∙ at_i.1;
        all = λ p lp is.
            let stands = stands_within from p (omega (arith, split.same)) is in
            let i = at places p - begin in
            let li : i < length found = omega (arith, stands.0, stands.1) in
            let sum : begin + i ≡ at places p = omega (arith, stands.0) in
            (i, li, read i li ∙ (ap (at numbers) sum ∙ are.back p (omega (arith, split.same))));
        once = λ i j lt lj same.
            let li : i < length found = omega arith in
            let at_i = within_is from (begin + i) (omega arith) (omega arith) in
            let at_j = within_is from (begin + j) (omega arith) (omega arith) in
            let one : at numbers (begin + i) ≡ at numbers (begin + j) = sym (read i li) ∙ (same ∙ read j lj) in
            let places_one = sym (are.forth (begin + i) at_i.0) ∙ (ap (at places) one ∙ are.forth (begin + j) at_j.0) in
            omega (arith, places_one);
      }

-- the part of the array between the borders of a group, read from the arrays of an order that is seen as this
pub record IsPart (numbers : List ℕ) (view : OrderState) (n begin end : ℕ) : Type 0 where
  pub rises : begin ≤ end
  pub within : end ≤ length numbers
  pub lists : ListsGroup view.group_of n (take (end - begin) (drop begin numbers))

pub is_part : (groups numbers places ends : List ℕ) (view : OrderState) (n begin end : ℕ) → AreInverse numbers places →
    AreSplit groups places ends → record { count = length ends; group_of = groups } ≡ view → n < view.count → Begins ends n begin →
    end ≡ get_or ends n end → IsPart numbers view n begin end
is_part groups numbers places ends view n begin end are split is known from end_is =
    let count : length ends ≡ view.count = ap (λ (v : OrderState). v.count) is in
    let groups_is : groups ≡ view.group_of = ap (λ (v : OrderState). v.group_of) is in
    let ln : n < length ends = omega arith in
    let read : end ≡ at ends n = get_or_read ends n end ln end_is 0 in
    record {
      rises = begins groups numbers places ends n begin end are split ln read from;
      within = omega (arith, split.within n ln, are.same);
      lists = subst (λ (xs : List ℕ). ListsGroup xs n (take (end - begin) (drop begin numbers))) groups_is
          (lists_group groups numbers places ends n begin end are split ln read from);
    }

-- ---- a new order

pub fresh_inverse : (bound : ℕ) → AreInverse (range_with_len 0 bound) (range_with_len 0 bound)
fresh_inverse bound =
    let len = length-range_with_len 0 bound in
    let read : (k : ℕ) → k < bound → at (range_with_len 0 bound) k ≡ k = λ k lt. get_or-range_with_len 0 bound k 0 lt ∙ omega arith in
    record {
      same = refl;
      place = λ p lp. omega (arith, read p (omega arith));
      back = λ p lp. ap (at (range_with_len 0 bound)) (read p (omega arith)) ∙ read p (omega arith);
      number = λ p lp. omega (arith, read p (omega arith));
      forth = λ p lp. ap (at (range_with_len 0 bound)) (read p (omega arith)) ∙ read p (omega arith);
    }

pub fresh_split : (bound count : ℕ) → 0 < count → bound < 2 ^ 32 → count < 2 ^ 16
    → AreSplit (replicate bound 0) (range_with_len 0 bound) (replicate count bound)
fresh_split bound count some short few =
    let len : length (range_with_len 0 bound) ≡ bound = length-range_with_len 0 bound in
    let groups_len : length (replicate {A = ℕ} bound 0) ≡ bound = length-replicate {A = ℕ} bound 0 in
    let ends_len : length (replicate count bound) ≡ count = length-replicate {A = ℕ} count bound in
    let group : (p : ℕ) → p < bound → at (replicate bound 0) p ≡ 0 = λ p lp. get_or-replicate bound p 0 0 lp in
    let end : (n : ℕ) → n < count → at (replicate count bound) n ≡ bound = λ n ln. get_or-replicate count n bound 0 ln in
    record {
      same = groups_len ∙ sym len;
      few = (omega arith, omega arith);
      within = λ n ln. omega (arith, end n (omega arith));
      known = λ p lp. omega (arith, group p (omega arith));
      side = λ p n lp ln.
          let place : at (range_with_len 0 bound) p ≡ p = get_or-range_with_len 0 bound p 0 (omega arith) ∙ omega arith in
          inl (omega (arith, group p (omega arith)), omega (arith, place, end n (omega arith)));
    }

-- ---- one number's group changes, step by step

-- an order that is another one but for its list of groups
pub seen : (v w : OrderState) (groups : List ℕ) → v ≡ record w { group_of = groups } → (v.count ≡ w.count) × (v.group_of ≡ groups)
seen v w groups is = (ap (λ (x : OrderState). x.count) is, ap (λ (x : OrderState). x.group_of) is)

pub states : (v w : OrderState) → v.count ≡ w.count → v.group_of ≡ w.group_of → v ≡ w
states v w count groups = λ i. record { count = count i; group_of = groups i }

set_again : (xs : List ℕ) (p a b : ℕ) → set (set xs p a) p b ≡ set xs p b
set_again [] p a b = refl
set_again (x ∷ xs) zero a b = refl
set_again (x ∷ xs) (suc p) a b = ap (λ l. x ∷ l) (set_again xs p a b)

-- a list that was set at p, and is set there again
pub set_more : (old mid : List ℕ) (p a b : ℕ) → mid ≡ set old p a → set mid p b ≡ set old p b
set_more old mid p a b is = ap (λ (l : List ℕ). set l p b) is ∙ set_again old p a b

pub at_set : (old mid : List ℕ) (p a : ℕ) → p < length old → mid ≡ set old p a → at mid p ≡ a
at_set old mid p a lp is = ap (λ (l : List ℕ). at l p) is ∙ get_or-set_same old p a 0 lp
