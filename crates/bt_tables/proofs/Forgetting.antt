-- A stored block leaves the rows of the peers that it wasn't asked of as they are.
use Rattle.std.proofs.Common.{◌≡◌, ◌≢◌, ℕ, zero, suc, ◌==◌, ◌+◌, ◌<◌, ◌≤◌, Bool, true, false, not, ◌&&◌, ◌||◌, List, [], ◌∷◌, ◌++◌, length, get_or}
use Rattle.std.proofs.Common.{take, refl, ap, sym, ◌∙◌, arith, ⊎_elim}
use Rattle.std.specs.Prelude.{IfNone, IfSome, None, Option, Some, if◌then◌else◌, is_some, slice_index_or}
use Rattle.std.specs.List.{filter, list_any, remove}
use Rattle.std.proofs.lemmas.Bool.{and_from, and_parts, cases_Bool, cases_eq, eq-eqb, eqb-true, false≢true, ne_eqb, or_from, or_parts, or_right}
use Rattle.std.proofs.Math.Bool.{and-true}
use Rattle.std.proofs.lemmas.List.{append-nil, get_or_default}
use Rattle.bt_meta.specs.declared.block.Block.{Block}
use Rattle.bt_history.specs.Counting.{count_below, table}
use Rattle.bt_history.specs.History.{same_begin}
use Rattle.bt_history.specs.Peers.{AreApart, has_place}
use Rattle.bt_tables.specs.Tables.{one_if, PeerState, asks_at, edit, expects_at, fresh_peer, is_late_at, peer_row, without_block}
use Rattle.bt_tables.proofs.Tabled.{get_or_edit_other, get_or_edit_same, length_edit, table_from}

-- ---- counts

count_has : (n : ℕ) (f : ℕ → Bool) (k : ℕ) → k < n → one_if (f k) ≤ count_below n f
count_has zero f k lt = absurd (omega arith)
count_has (suc n) f k lt = ⊎_elim
    (λ (last : k ≡ n). (let same : one_if (f k) ≡ one_if (f n) = ap (λ (j : ℕ). one_if (f j)) last in omega arith))
    (λ (apart : k ≡ n → ⊥). (let less = count_has n f k (omega (arith, lt, apart)) in omega arith))
    (cases_eq k n)

count_two : (n : ℕ) (f : ℕ → Bool) (w k : ℕ) → w < n → k < n → k ≢ w → one_if (f w) + one_if (f k) ≤ count_below n f
count_two zero f w k lw lk apart = absurd (omega arith)
count_two (suc n) f w k lw lk apart = ⊎_elim
    (λ (last : w ≡ n). (
    let same : one_if (f w) ≡ one_if (f n) = ap (λ (j : ℕ). one_if (f j)) last in
    let less = count_has n f k (omega (arith, lk, apart, last)) in omega arith))
    (λ (wn : w ≡ n → ⊥). ⊎_elim
    (λ (last : k ≡ n). (
    let same : one_if (f k) ≡ one_if (f n) = ap (λ (j : ℕ). one_if (f j)) last in
    let less = count_has n f w (omega (arith, lw, wn)) in omega arith))
    (λ (kn : k ≡ n → ⊥). (let less = count_two n f w k (omega (arith, lw, wn)) (omega (arith, lk, kn)) apart in omega arith))
    (cases_eq k n))
    (cases_eq w n)

none_else : (x : Bool) → one_if x ≤ 0 → x ≡ false
none_else false le = refl
none_else true le = absurd (omega (arith, le))

-- where a count is no more than what one number adds, no other passes
pub count_alone : (n : ℕ) (f : ℕ → Bool) (w k : ℕ) → w < n → count_below n f ≤ one_if (f w) → k < n → k ≢ w → f k ≡ false
count_alone n f w k lw most lk apart = none_else (f k) (let two = count_two n f w k lw lk apart in omega (arith, two, most))

-- ---- a row that the block isn't asked of

filter_none : (test : Block → Bool) (bs : List Block) → list_any test bs ≡ false → filter test bs ≡ []
filter_none test [] none = refl
filter_none test (b ∷ bs) none = by_test (test b) none (filter_none test bs) where
  by_test : (x : Bool) → (x || list_any test bs) ≡ false → (list_any test bs ≡ false → filter test bs ≡ []) →
      (if x then b ∷ filter test bs else filter test bs) ≡ []
  by_test true is rest = absurd (cc is)
  by_test false is rest = rest is

pub filter_all : (test : Block → Bool) (bs : List Block) → list_any test bs ≡ false → filter (λ b. not (test b)) bs ≡ bs
filter_all test [] none = refl
filter_all test (b ∷ bs) none = by_test (test b) none (filter_all test bs) where
  by_test : (x : Bool) → (x || list_any test bs) ≡ false → (list_any test bs ≡ false → filter (λ a. not (test a)) bs ≡ bs) →
      (if not x then b ∷ filter (λ a. not (test a)) bs else filter (λ a. not (test a)) bs) ≡ b ∷ bs
  by_test true is rest = absurd (cc is)
  by_test false is rest = ap (λ (l : List Block). b ∷ l) (rest is)

unasked_row : (piece begin : ℕ) (row : PeerState) → asks_at piece begin row ≡ false → is_late_at piece begin row ≡ false
    → without_block piece begin false row ≡ row
unasked_row piece begin row none late =
    let test : Block → Bool = λ b. (piece == b.piece) && (begin == b.begin) in
    λ i. record row {
      asked = filter_all test row.asked none i;
      overdue = filter_all test row.overdue late i;
      due = (ap (λ (bs : List Block). row.due ++ bs) (filter_none test row.asked none) ∙ append-nil row.due) i;
    }

-- ---- the rows

-- where no other peer than its own is expected to bring a block, the row of one that is late with nothing stays
pub others_spared : (peers : List PeerState) (w piece begin askers : ℕ) → w < length peers
    → askers ≡ count_below (length peers) (λ r. expects_at piece begin (peer_row peers r)) → askers ≤ one_if (expects_at piece begin (peer_row peers w))
    → (q : ℕ) → q < length peers → q ≢ w → (peer_row peers q).overdue ≡ []
    → without_block piece begin false (peer_row peers q) ≡ peer_row peers q
others_spared peers w piece begin askers lw counted few q lq apart prompt =
    let at : Block → Bool = λ b. (piece == b.piece) && (begin == b.begin) in
    let in_time : is_late_at piece begin (peer_row peers q) ≡ false = ap (list_any at) prompt in
    let none = count_alone (length peers) (λ r. expects_at piece begin (peer_row peers r)) w q lw (omega (arith, few, counted)) lq apart in
    unasked_row piece begin (peer_row peers q)
    (sym (and-true (asks_at piece begin (peer_row peers q))) ∙ (ap (λ (x : Bool). asks_at piece begin (peer_row peers q) && not x) (sym in_time) ∙ none))
    in_time

pub forgotten : (peers : List PeerState) (w piece begin : ℕ) → w < length peers
    → ((q : ℕ) → q < length peers → q ≢ w → without_block piece begin false (peer_row peers q) ≡ peer_row peers q)
    → edit peers w (without_block piece begin true) ≡ table (length peers) (λ q. without_block piece begin (w == q) (peer_row peers q))
forgotten peers w piece begin lw spared =
    let f : ℕ → PeerState = λ q. without_block piece begin (w == q) (peer_row peers q) in
    let change = without_block piece begin true in
    table_from (length peers) f (edit peers w change) (length_edit peers w change) (λ k d lt. ⊎_elim
    (λ (here : k ≡ w).
    ap (λ (j : ℕ). get_or (edit peers w change) j d) here ∙ (get_or_edit_same peers w change d lw
    ∙ (ap change (get_or_default peers w d (fresh_peer 0 0) lw)
    ∙ (ap (λ (x : Bool). without_block piece begin x (peer_row peers w)) (sym (eq-eqb w w refl)) ∙ ap f (sym here)))))
    (λ (apart : k ≡ w → ⊥).
    get_or_edit_other peers w k change d apart ∙ (get_or_default peers k d (fresh_peer 0 0) lt
    ∙ (sym (spared k lt apart)
    ∙ ap (λ (x : Bool). without_block piece begin x (peer_row peers k)) (sym (ne_eqb w k (λ e. apart (sym e)))))))
    (cases_eq k w))

-- ---- the one block of a line that begins at a place

-- what is said of the place of the first block of a line that begins there
pub record IsPlaceIn (piece begin : ℕ) (line : List Block) (found : Option ℕ) : Type 0 where
  pub some : IfSome found (λ i. (i < length line)
      × (list_any (λ b. (piece == b.piece) && (begin == b.begin)) (take i line) ≡ false)
      × ((d : Block) → ((piece == (slice_index_or line i d).piece) && (begin == (slice_index_or line i d).begin)) ≡ true))
  pub none : IfNone found (list_any (λ b. (piece == b.piece) && (begin == b.begin)) line ≡ false)

module _ (piece begin : ℕ) where
  abbrev pub begins : Block → Bool
  begins b = (piece == b.piece) && (begin == b.begin)

  both_begin : (b c : Block) → begins b ≡ true → begins c ≡ true → same_begin c b ≡ true
  both_begin b c here there =
      let first = and_parts (piece == b.piece) (begin == b.begin) here in
      let second = and_parts (piece == c.piece) (begin == c.begin) there in
      and_from (c.piece == b.piece) (c.begin == b.begin)
      (eq-eqb c.piece b.piece (sym (eqb-true piece c.piece second.0) ∙ eqb-true piece b.piece first.0))
      (eq-eqb c.begin b.begin (sym (eqb-true begin c.begin second.1) ∙ eqb-true begin b.begin first.1))

  -- no other block of a line begins where this one does
  pub no_other : (b : Block) (bs : List Block) → begins b ≡ true → has_place b bs ≡ false → list_any begins bs ≡ false
  no_other b [] here none = refl
  no_other b (c ∷ bs) here none =
      let parts = or_parts (same_begin c b) (has_place b bs) none in
      or_from (begins c) (list_any begins bs)
      (⊎_elim (λ (there : begins c ≡ true). absurd (false≢true (sym parts.0 ∙ both_begin b c here there))) (λ (apart : begins c ≡ false). apart)
      (cases_Bool (begins c)))
      (no_other b bs here parts.1)

  -- without the blocks that begin there, the line is without that one
  pub without_place : (bs : List Block) (i : ℕ) (d : Block) → AreApart bs → i < length bs → list_any begins (take i bs) ≡ false
      → begins (get_or bs i d) ≡ true → filter (λ b. not (begins b)) bs ≡ remove bs i
  unfolding AreApart
  without_place [] i d are lt none here = absurd (omega (arith, lt))
  without_place (b ∷ bs) zero d are lt none here =
      ap (λ (x : Bool). if not x then b ∷ filter (λ c. not (begins c)) bs else filter (λ c. not (begins c)) bs) here
      ∙ filter_all begins bs (no_other b bs here are.0)
  without_place (b ∷ bs) (suc i) d are lt none here =
      let parts = or_parts (begins b) (list_any begins (take i bs)) none in
      ap (λ (x : Bool). if not x then b ∷ filter (λ c. not (begins c)) bs else filter (λ c. not (begins c)) bs) parts.0
      ∙ ap (λ (l : List Block). b ∷ l) (without_place bs i d are.1 (omega (arith, lt)) parts.1 here)

  -- and that one is all that begins there
  pub at_place : (bs : List Block) (i : ℕ) (d : Block) → AreApart bs → i < length bs → list_any begins (take i bs) ≡ false
      → begins (get_or bs i d) ≡ true → filter begins bs ≡ get_or bs i d ∷ []
  unfolding AreApart
  at_place [] i d are lt none here = absurd (omega (arith, lt))
  at_place (b ∷ bs) zero d are lt none here =
      ap (λ (x : Bool). if x then b ∷ filter begins bs else filter begins bs) here
      ∙ ap (λ (l : List Block). b ∷ l) (filter_none begins bs (no_other b bs here are.0))
  at_place (b ∷ bs) (suc i) d are lt none here =
      let parts = or_parts (begins b) (list_any begins (take i bs)) none in
      ap (λ (x : Bool). if x then b ∷ filter begins bs else filter begins bs) parts.0 ∙ at_place bs i d are.1 (omega (arith, lt)) parts.1 here

  -- where none begins there, the line stays
  pub no_place : (bs : List Block) → list_any begins bs ≡ false → filter (λ b. not (begins b)) bs ≡ bs
  no_place bs none = filter_all begins bs none

  pub none_at_place : (bs : List Block) → list_any begins bs ≡ false → filter begins bs ≡ []
  none_at_place bs none = filter_none begins bs none

-- whether a place was found in the line is whether a block begins there
pub place_there : (piece begin : ℕ) (line : List Block) (found : Option ℕ) → IsPlaceIn piece begin line found
    → list_any (begins piece begin) line ≡ is_some found
place_there piece begin line None is = is.none
place_there piece begin line (Some i) is = any_at (begins piece begin) line i is.some.0 is.some.2 where
  any_at : (test : Block → Bool) (bs : List Block) (i : ℕ) → i < length bs → ((d : Block) → test (get_or bs i d) ≡ true) → list_any test bs ≡ true
  any_at test [] i lt at = absurd (omega (arith, lt))
  any_at test (b ∷ bs) zero lt at = ap (λ (x : Bool). x || list_any test bs) (at b)
  any_at test (b ∷ bs) (suc i) lt at = or_right (test b) (list_any test bs) (any_at test bs i (omega (arith, lt)) at)

pub apart_none : AreApart []
unfolding AreApart
apart_none = tt
