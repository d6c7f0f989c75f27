-- What holds of open pieces: how many there are, and which goes on before another one begins.
use Rattle.std.proofs.Common.{◌≡◌, ◌⊎◌, ℕ, ◌==◌, ◌<◌, ◌≤◌, Bool, true, false, not, ◌&&◌, ◌||◌, refl, ap, sym, ◌∙◌, arith, ⊎_elim, inl, inr, subst}
use Rattle.std.specs.Prelude.{if◌then◌else◌, nat_le, nat_lt}
use Rattle.std.proofs.lemmas.Bool.{and_from, and_parts, cases_Bool, cases_lt, eq-eqb, eqb-true, false≢true, false_from_ne_true, le-leb, leb-true, lt-ltb}
use Rattle.std.proofs.lemmas.Bool.{ne_eqb, not-true, or_left, or_parts, or_right}
use Rattle.std.proofs.Math.Bool.{and-true}
use Rattle.bt_meta.specs.declared.block.Block.{Block}
use Rattle.bt_meta.specs.Layout.{piece_count, block_count, block}
use Rattle.bt_history.specs.declared.call.Reply.TheVariants.{Request, Choked, PipeFull, Idle, NothingLeft}
use Rattle.bt_history.specs.declared.event.Event.{Event}
use Rattle.bt_history.specs.Setting.{Setting, is_block, some_block, some_block_of}
use Rattle.bt_history.specs.History.{History}
use Rattle.bt_history.specs.Peers.{shows, is_open, asked_count, due, depth_of, overdue, reach}
use Rattle.bt_history.specs.Pieces.{availability, begun, endgame, had, had_count, held, held_or_asked, comes_in_order, gives, interesting, is_open_piece, level}
use Rattle.bt_history.specs.Pieces.{is_spent, offers, open_count, unasked, unbegun, wanted}
use Rattle.bt_history.specs.Next.{Answer, Exactly, CancelOf, RequestOf, usable, tops, none_rarer, resumes, is_candidate, is_rarest, is_strict}
use Rattle.bt_history.specs.Next.{goes_first, continues, starts, rises, tops_in_order, doubles, rushes, next_answer}
use Rattle.bt_history.specs.Before.{continues_strictly, next_strict}
use Rattle.bt_history.specs.Legal.{IsAllowed, IsLegal, Permits}
use Rattle.bt_history.proofs.Allowed.{request_next, top_usable}
use Rattle.bt_history.proofs.Below.{all_at, all_found, any_found, least_among}
use Rattle.bt_history.proofs.Delays.{left_to_ask, left_unspent}
use Rattle.bt_history.proofs.Levels.{implied, level_tops, none_in_order}
use Rattle.bt_history.proofs.HeldLaws.{had_full}
use Rattle.bt_history.proofs.LineLaws.{block_index, block_is_block, some_found}
use Rattle.bt_history.proofs.NextCases.{next_is, next_request}
use Rattle.bt_history.specs.Pieces.{is_free_for}

-- ---- with 0 open pieces

-- a test that only a bound beyond 0 looks at
pub unbounded : (bound : ℕ) (x y : Bool) → bound ≡ 0 → (x && ((bound == 0) || y)) ≡ x
unbounded bound x y none = ap (λ (z : Bool). x && (z || y)) (eq-eqb bound 0 none) ∙ and-true x

pub strict_answer : (s : Setting) (h : History) (q : ℕ) → s.most_open ≡ 0 → next_answer s h q ≡ next_strict s h q
unfolding next_answer next_strict
strict_answer s h q none = λ i.
    if some_block s.torrent (due h q) then CancelOf (due h q)
    else if not (is_open h q) then Exactly Choked
    else if nat_le (depth_of s h q) (asked_count s h q) then Exactly PipeFull
    else if some_block s.torrent (tops_in_order s h q) then RequestOf (rises s h q)
    else if some_block s.torrent (λ b. on b i) then RequestOf (λ b. on b i)
    else if some_block s.torrent (usable s h q) then RequestOf (starts s h q)
    else if rushes s h q && (endgame s h && some_block s.torrent (doubles s h q)) then RequestOf (doubles s h q)
    else if interesting s h q then Exactly Idle
    else Exactly NothingLeft
  where
    on : (b : Block) → continues s h q b ≡ continues_strictly s h q b
    on b = λ i. tops s h q b && unbounded s.most_open (begun s h b.piece) (none_rarer s h (resumes s h q) b.piece
        && (is_strict s h || is_rarest s h q b.piece)) none i

-- ---- which pieces go on

-- no piece of p's level that passes the test is rarer than p
pub rarer_none : (s : Setting) (h : History) (test : ℕ → Bool) (p : ℕ)
    → ((r : ℕ) → r < piece_count s.torrent → test r ≡ true → level h r ≡ level h p → availability s h p ≤ availability s h r)
    → none_rarer s h test p ≡ true
rarer_none s h test p least = all_found (piece_count s.torrent) _ (λ r lr. ⊎_elim
    (λ (both : (test r && (level h r == level h p)) ≡ true).
    let parts = and_parts (test r) (level h r == level h p) both in
    or_right (not (test r && (level h r == level h p))) (nat_le (availability s h p) (availability s h r))
    (le-leb (availability s h p) (availability s h r) (least r lr parts.0 (eqb-true (level h r) (level h p) parts.1))))
    (λ (fails : (test r && (level h r == level h p)) ≡ false).
    or_left (not (test r && (level h r == level h p))) (nat_le (availability s h p) (availability s h r)) (ap not fails))
    (cases_Bool (test r && (level h r == level h p))))

-- and what that says of another such piece
pub rarer_than : (s : Setting) (h : History) (test : ℕ → Bool) (p r : ℕ) → none_rarer s h test p ≡ true → r < piece_count s.torrent
    → test r ≡ true → level h r ≡ level h p → availability s h p ≤ availability s h r
rarer_than s h test p r none lr is same =
    leb-true (availability s h p) (availability s h r)
    (implied (test r && (level h r == level h p)) (nat_le (availability s h p) (availability s h r))
    (all_at (piece_count s.torrent) (λ x. not (test x && (level h x == level h p)) || nat_le (availability s h p) (availability s h x)) r none lr)
    (and_from (test r) (level h r == level h p) is (eq-eqb (level h r) (level h p) same)))

module _ (s : Setting) (h : History) (q : ℕ) where
  -- a usable block is of a level that the peer reaches
  pub usable_near : (c : Block) → usable s h q c ≡ true → nat_le (level h c.piece) (reach h q) ≡ true
  usable_near c fits = (and_parts (shows h q c.piece) (nat_le (level h c.piece) (reach h q))
      (and_parts (gives h q c.piece) _ (and_parts (wanted s h c.piece) _ (and_parts (unasked s h c) _ fits).1).1).0).1

  -- a peer offers the piece of a block that is usable
  pub usable_offered : (c : Block) → is_block s.torrent c ≡ true → usable s h q c ≡ true → offers s h q c.piece ≡ true
  usable_offered c inside fits =
      let at = block_index s.torrent c inside in
      let parts = and_parts (unasked s h c) _ fits in
      let given = and_parts (gives h q c.piece) _ (and_parts (wanted s h c.piece) _ parts.1).1 in
      and_from (shows h q c.piece) (not (is_spent s h q c.piece)) (and_parts (shows h q c.piece) _ given.0).0
      (ap not (left_unspent s h q c.piece at.index at.within (ap (unasked s h) (sym at.is) ∙ parts.0)
      (ap (overdue h q) (sym at.is) ∙ not-true (overdue h q c) (and_parts (not (overdue h q c)) _ given.1).0)))

  -- a peer may take part in the piece of a block that is usable
  pub usable_free : (c : Block) → usable s h q c ≡ true → is_free_for s h q c.piece ≡ true
  usable_free c fits = (and_parts (not (overdue h q c)) _ (and_parts (gives h q c.piece) _ (and_parts (wanted s h c.piece) _
      (and_parts (unasked s h c) _ fits).1).1).1).1

  -- a usable block of a begun piece is of an open piece that the peer offers
  pub usable_resumes : (c : Block) → is_block s.torrent c ≡ true → usable s h q c ≡ true → begun s h c.piece ≡ true → resumes s h q c.piece ≡ true
  usable_resumes c inside fits on =
      let at = block_index s.torrent c inside in
      let parts = and_parts (unasked s h c) _ fits in
      let rest = and_parts (wanted s h c.piece) _ parts.1 in
      and_from (is_open_piece s h c.piece) _
      (and_from (wanted s h c.piece) _ rest.0 (and_from (begun s h c.piece) _ on
      (any_found (block_count s.torrent c.piece) (λ k. unasked s h (block s.torrent c.piece k)) at.index at.within
      (ap (unasked s h) (sym at.is) ∙ parts.0))))
      (and_from (offers s h q c.piece) (is_free_for s h q c.piece) (usable_offered c inside fits) (usable_free c fits))

  -- where a usable block of a begun piece tops, one of an open piece of its level that fewest peers show goes on
  pub some_continues : (c : Block) → is_block s.torrent c ≡ true → tops s h q c ≡ true → begun s h c.piece ≡ true
      → ((is_strict s h ≡ true) ⊎ ((r : ℕ) → r < piece_count s.torrent → is_candidate s h q r ≡ true → level h r ≡ level h c.piece
      → availability s h c.piece ≤ availability s h r))
      → some_block s.torrent (continues s h q) ≡ true
  some_continues c inside top on first =
      let test : ℕ → Bool = λ r. resumes s h q r && (level h r == level h c.piece) in
      let at = block_index s.torrent c inside in
      let own : test c.piece ≡ true =
      and_from (resumes s h q c.piece) _ (usable_resumes c inside (top_usable s h q c top) on) (eq-eqb (level h c.piece) (level h c.piece) refl) in
      let found = least_among (piece_count s.torrent) test (availability s h) (any_found (piece_count s.torrent) test c.piece at.piece own) in
      let p = found.number in
      let parts = and_parts (resumes s h q p) (level h p == level h c.piece) found.passes in
      let same = eqb-true (level h p) (level h c.piece) parts.1 in
      let shown = and_parts (is_open_piece s h p) _ parts.0 in
      let part = and_parts (offers s h q p) (is_free_for s h q p) shown.1 in
      let offered = and_parts (shows h q p) (not (is_spent s h q p)) part.0 in
      let wants = and_parts (wanted s h p) _ shown.0 in
      let under_way = and_parts (begun s h p) (some_block_of s.torrent p (unasked s h)) wants.1 in
      let one = left_to_ask s h q p under_way.1 (not-true (is_spent s h q p) offered.1) in
      let d = block s.torrent p one.0 in
      let near : nat_le (level h p) (reach h q) ≡ true = ap (λ (n : ℕ). nat_le n (reach h q)) same ∙ (usable_near c (top_usable s h q c top)) in
      let fits : usable s h q d ≡ true = and_from (unasked s h d) _ one.2 (and_from (wanted s h p) _ wants.0
      (and_from (gives h q p) _ (and_from (shows h q p) (nat_le (level h p) (reach h q)) offered.0 near)
      (and_from (not (overdue h q d)) (is_free_for s h q p) (ap not one.3) part.1))) in
      let none : none_rarer s h (resumes s h q) p ≡ true = rarer_none s h (resumes s h q) p (λ r lr is level_is.
      found.least r lr (and_from (resumes s h q r) _ is (eq-eqb (level h r) (level h c.piece) (level_is ∙ same)))) in
      let before : (is_strict s h || is_rarest s h q p) ≡ true = ⊎_elim
      (λ (strict : is_strict s h ≡ true). or_left (is_strict s h) (is_rarest s h q p) strict)
      (λ rare. or_right (is_strict s h) (is_rarest s h q p) (rarer_none s h (is_candidate s h q) p (λ r lr may level_is.
      let low = found.least c.piece at.piece own in
      let high = rare r lr may (level_is ∙ same) in
      omega (arith, low, high))))
      first in
      some_found s.torrent (continues s h q) d (block_is_block s.torrent p one.0 found.within one.1)
      (and_from (tops s h q d) _ (level_tops s h q c d top fits same) (and_from (begun s h p) (goes_first s h q p) under_way.0
      (or_right (s.most_open == 0) _ (and_from (none_rarer s h (resumes s h q) p) _ none before))))

-- a piece isn't both begun and unbegun
never_both : (had touched : Bool) → (not had && touched) ≡ true → (not had && not touched) ≡ true → ⊥
never_both true touched on off = false≢true on
never_both false true on off = false≢true off
never_both false false on off = false≢true on

-- a request out of order: its piece goes on, or begins and none goes on, or nothing is usable
abbrev Asking : Setting → History → ℕ → Block → Type 0
Asking s h q b =
    (continues s h q b ≡ true)
    ⊎ (((some_block s.torrent (continues s h q) ≡ false) × (starts s h q b ≡ true)) ⊎ (some_block s.torrent (usable s h q) ≡ false))

requested_kind : (s : Setting) (h : History) (e : Event) (b : Block) → IsAllowed s h e → e.reply ≡ Request b → comes_in_order h b.piece ≡ false
    → Asking s h e.worker b
requested_kind s h e b allowed is unordered =
    let q = e.worker in
    let permitted = request_next s h e b allowed is in
    let facts = next_request s.torrent _ _ _ _ _ _ _ _ _ _ _ _ _ b
    (subst (λ (a : Answer). Permits s.torrent a (Request b)) (next_is s h q) permitted) in
    facts.unordered (none_in_order s h q b permitted unordered)

module _ (s : Setting) (h : History) (e : Event) (b : Block) (allowed : IsAllowed s h e) (is : e.reply ≡ Request b) (unordered : comes_in_order h b.piece ≡ false)
  where
    -- where more pieces are open than may be, none begins while one that is open could go on
    pub few_open : s.most_open < open_count s h → unbegun s h b.piece ≡ true → (c : Block) → is_block s.torrent c ≡ true
        → usable s h e.worker c ≡ true → level h c.piece ≡ level h b.piece → begun s h c.piece ≡ false
    few_open many fresh c inside fits same = false_from_ne_true (begun s h c.piece) (λ on. ⊎_elim
        (λ (goes : continues s h e.worker b ≡ true). never_both (had h b.piece) (some_block_of s.torrent b.piece (held_or_asked s h))
        (and_parts (begun s h b.piece) _ (and_parts (tops s h e.worker b) _ goes).1).0 fresh)
        (λ others. ⊎_elim
        (λ (begins : (some_block s.torrent (continues s h e.worker) ≡ false) × (starts s h e.worker b ≡ true)).
        let top = level_tops s h e.worker b c (and_parts (tops s h e.worker b) _ begins.1).0 fits same in
        let strict = or_left (nat_lt s.most_open (open_count s h)) (nat_lt (had_count s h) s.random) (lt-ltb s.most_open (open_count s h) many) in
        false≢true (sym begins.0 ∙ some_continues s h e.worker c inside top on (inl strict)))
        (λ (none : some_block s.torrent (usable s h e.worker) ≡ false).
        false≢true (sym none ∙ some_found s.torrent (usable s h e.worker) c inside fits))
        others)
        (requested_kind s h e b allowed is unordered))

-- ---- which piece leads

-- a test that a bound beyond 0 looks at
bounded : (bound : ℕ) (y : Bool) → 0 < bound → ((bound == 0) || y) ≡ true → y ≡ true
bounded bound y some is = sym (ap (λ (x : Bool). x || y) (ne_eqb bound 0 (λ same. omega (arith, same, some)))) ∙ is

-- the piece of a usable block is begun, or may begin
usable_kind : (s : Setting) (h : History) (q : ℕ) (c : Block) → IsLegal s h → is_block s.torrent c ≡ true → usable s h q c ≡ true
    → (begun s h c.piece ≡ true) ⊎ (is_candidate s h q c.piece ≡ true)
usable_kind s h q c legal inside fits =
    let at = block_index s.torrent c inside in
    let parts = and_parts (unasked s h c) _ fits in
    let rest = and_parts (wanted s h c.piece) _ parts.1 in
    let lacking : had h c.piece ≡ false = false_from_ne_true (had h c.piece) (λ was.
    let whole = ap (held h) at.is ∙ had_full s h c.piece at.index legal was at.within in
    false≢true (sym (or_parts (held h c) _ (not-true (held_or_asked s h c) parts.0)).0 ∙ whole)) in
    ⊎_elim
    (λ (touched : some_block_of s.torrent c.piece (held_or_asked s h) ≡ true). inl (and_from (not (had h c.piece)) _ (ap not lacking) touched))
    (λ (fresh : some_block_of s.torrent c.piece (held_or_asked s h) ≡ false).
    inr (and_from (wanted s h c.piece) _ rest.0 (and_from (offers s h q c.piece) _ (usable_offered s h q c inside fits)
    (and_from (not (had h c.piece)) _ (ap not lacking) (ap not fresh)))))
    (cases_Bool (some_block_of s.torrent c.piece (held_or_asked s h)))

module _ (s : Setting) (h : History) (e : Event) (b : Block) (allowed : IsAllowed s h e) (is : e.reply ≡ Request b) (unordered : comes_in_order h b.piece ≡ false)
    (legal : IsLegal s h) (some : 0 < s.most_open) where
  -- among begun pieces one that fewest peers show goes on
  pub goes_rarest : (c : Block) → continues s h e.worker b ≡ true → is_block s.torrent c ≡ true → usable s h e.worker c ≡ true
      → level h c.piece ≡ level h b.piece → begun s h c.piece ≡ true → availability s h b.piece ≤ availability s h c.piece
  goes_rarest c goes inside fits same on =
      let rest = (and_parts (begun s h b.piece) _ (and_parts (tops s h e.worker b) _ goes).1).1 in
      let first = and_parts (none_rarer s h (resumes s h e.worker) b.piece) _ (bounded s.most_open _ some rest) in
      rarer_than s h (resumes s h e.worker) b.piece c.piece first.0 (block_index s.torrent c inside).piece (usable_resumes s h e.worker c inside fits on)
      same

  module _ (room : is_strict s h ≡ false) (c : Block) (inside : is_block s.torrent c ≡ true) (fits : usable s h e.worker c ≡ true)
      (same : level h c.piece ≡ level h b.piece) where
    -- a piece that begins is a rarest candidate
    rarest_start : starts s h e.worker b ≡ true → is_rarest s h e.worker b.piece ≡ true
    rarest_start begins =
        let either = (and_parts (unbegun s h b.piece) _ (and_parts (tops s h e.worker b) _ begins).1).1 in
        let settled = (or_parts (nat_lt s.most_open (open_count s h)) (nat_lt (had_count s h) s.random) room).1 in
        sym (ap (λ (x : Bool). x || is_rarest s h e.worker b.piece) settled) ∙ either

    -- and rarer than each begun one, where none goes on
    begins_rarer : some_block s.torrent (continues s h e.worker) ≡ false → starts s h e.worker b ≡ true → begun s h c.piece ≡ true
        → availability s h b.piece < availability s h c.piece
    begins_rarer none begins on = ⊎_elim
        (λ (less : availability s h b.piece < availability s h c.piece). less)
        (λ (more : availability s h c.piece ≤ availability s h b.piece).
        let top = level_tops s h e.worker b c (and_parts (tops s h e.worker b) _ begins).0 fits same in
        absurd (false≢true (sym none ∙ some_continues s h e.worker c inside top on (inr (λ r lr may level_is.
        let low = rarer_than s h (is_candidate s h e.worker) b.piece r (rarest_start begins) lr may (level_is ∙ same) in
        omega (arith, low, more))))))
        (cases_lt (availability s h b.piece) (availability s h c.piece))

    -- a piece that goes on is as rare as any candidate
    goes_as_rare : continues s h e.worker b ≡ true → is_candidate s h e.worker c.piece ≡ true
        → availability s h b.piece ≤ availability s h c.piece
    goes_as_rare goes may =
        let rest = (and_parts (begun s h b.piece) _ (and_parts (tops s h e.worker b) _ goes).1).1 in
        let first = and_parts (none_rarer s h (resumes s h e.worker) b.piece) _ (bounded s.most_open _ some rest) in
        let rare = sym (ap (λ (x : Bool). x || is_rarest s h e.worker b.piece) room) ∙ first.1 in
        rarer_than s h (is_candidate s h e.worker) b.piece c.piece rare (block_index s.torrent c inside).piece may same

    -- what is asked for is of a piece that fewest peers show, of a begun one if one is as rare
    pub leads_all : (availability s h b.piece ≤ availability s h c.piece)
        × (availability s h c.piece ≡ availability s h b.piece → begun s h c.piece ≡ true → begun s h b.piece ≡ true)
    leads_all = ⊎_elim
        (λ (goes : continues s h e.worker b ≡ true). (
          ⊎_elim (goes_rarest c goes inside fits same) (goes_as_rare goes) (usable_kind s h e.worker c legal inside fits),
          λ alike on. (and_parts (begun s h b.piece) _ (and_parts (tops s h e.worker b) _ goes).1).0,
        ))
        (λ others. ⊎_elim
        (λ (begins : (some_block s.torrent (continues s h e.worker) ≡ false) × (starts s h e.worker b ≡ true)). (
          ⊎_elim
              (λ (on : begun s h c.piece ≡ true). (let less = begins_rarer begins.0 begins.1 on in omega (arith, less)))
              (λ (may : is_candidate s h e.worker c.piece ≡ true).
              rarer_than s h (is_candidate s h e.worker) b.piece c.piece (rarest_start begins.1) (block_index s.torrent c inside).piece may same)
              (usable_kind s h e.worker c legal inside fits),
          λ alike on. (let less = begins_rarer begins.0 begins.1 on in absurd (omega (arith, less, alike))),
        ))
        (λ (none : some_block s.torrent (usable s h e.worker) ≡ false).
        absurd (false≢true (sym none ∙ some_found s.torrent (usable s h e.worker) c inside fits)))
        others)
        (requested_kind s h e b allowed is unordered)

  -- a request of a begun piece is of one that fewest peers show of those that are open
  pub open_goes_rarest : (c : Block) → begun s h b.piece ≡ true → is_block s.torrent c ≡ true → usable s h e.worker c ≡ true
      → level h c.piece ≡ level h b.piece → begun s h c.piece ≡ true → availability s h b.piece ≤ availability s h c.piece
  open_goes_rarest c own inside fits same on = ⊎_elim
      (λ (goes : continues s h e.worker b ≡ true). goes_rarest c goes inside fits same on)
      (λ others. ⊎_elim
      (λ (begins : (some_block s.torrent (continues s h e.worker) ≡ false) × (starts s h e.worker b ≡ true)).
      absurd (never_both (had h b.piece) (some_block_of s.torrent b.piece (held_or_asked s h)) own
      (and_parts (unbegun s h b.piece) _ (and_parts (tops s h e.worker b) _ begins.1).1).0))
      (λ (none : some_block s.torrent (usable s h e.worker) ≡ false).
      absurd (false≢true (sym none ∙ some_found s.torrent (usable s h e.worker) c inside fits)))
      others)
      (requested_kind s h e b allowed is unordered)
