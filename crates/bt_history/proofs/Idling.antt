-- A peer that has nothing to be asked for stays so until the epoch rises.
use Rattle.std.proofs.Common.{◌≡◌, ◌⊎◌, ℕ, ◌==◌, ◌+◌, ◌<◌, ◌≤◌, Bool, true, false, not, ◌&&◌, ◌||◌, List, [], ◌∷◌, ◌++◌, Option, None}
use Rattle.std.proofs.Common.{Some, refl, ap, sym, subst, ◌∙◌, arith, ⊎_elim, inl, inr}
use Rattle.std.specs.Prelude.{if◌then◌else◌, is_none, is_some, nat_lt, nat_le, unwrap_or}
use Rattle.std.specs.List.{list_any}
use Rattle.std.proofs.lemmas.Bool.{and_parts, and_from, and_left, and_right, or_parts, or_cases, or_left, or_right, not-true, not-false, eq-eqb}
use Rattle.std.proofs.lemmas.Bool.{cases_eq, eqb-true, false_from_ne_true, false≢true, ltb-true, lt-ltb}
use Rattle.std.proofs.Math.Bool.{and-true}
use Rattle.bt_meta.specs.declared.block.Block.{Block}
use Rattle.bt_meta.specs.Layout.{Layout, piece_count, block_count, block}
use Rattle.bt_history.specs.declared.call.Reply.{Reply}
use Rattle.bt_history.specs.declared.call.Reply.TheVariants.{InFlight, Request, Idle, NothingLeft, Refused}
use Rattle.bt_history.specs.declared.event.Action.{Action}
use Rattle.bt_history.specs.declared.event.Action.TheVariants.{Join, Choke, Next, Arrived, Settle, Leave, Want, Release, Level, Levels, Lack, Late, Alone, Lose, Discard}
use Rattle.bt_history.specs.declared.event.Event.{Event}
use Rattle.bt_history.specs.Counting.{all_below, any_below, count_below}
use Rattle.bt_history.specs.Setting.{Setting, is_block, some_block, some_block_of, each_block, each_block_of, count_blocks}
use Rattle.bt_history.specs.History.{History, counts, counted_call, own_call, same_begin, stores, stored, bytes_for, requested, requested_by}
use Rattle.bt_history.specs.History.{cancelled, cancelled_by, freed, frees, lost, loses, passed, is_failed, is_had, settles}
use Rattle.bt_history.specs.Peers.{asked, asks, asked_count, resets, releases, lasts, shows, shows_after, is_open, is_open_after, told_depth}
use Rattle.bt_history.specs.Peers.{alone, alone_after, delays, told_after, depth_of, due, expected, overdue, reach, reach_after}
use Rattle.bt_history.specs.Pieces.{kept, held, had, gives, level, level_after, wanted, interesting, asked_of_some, asker_count, held_or_asked}
use Rattle.bt_history.specs.Pieces.{unasked, awaited, begun, belongs, endgame, is_free_for, is_late_at_some, is_of, is_own, is_peer, is_sole, sender}
use Rattle.bt_history.specs.Next.{Exactly, usable, tops, tops_in_order, continues, starts, rises, doubles, rushes, next_answer}
use Rattle.bt_history.specs.Legal.{IsLegal, IsAllowed, place_at}
use Rattle.bt_history.specs.Logs.{answers, call_mark}
use Rattle.bt_history.specs.Epochs.{asked_alone, begins_endgame, epoch, is_idle, is_request, pass_by, passes_by, stirs, stores_beyond, unsettles}
use Rattle.bt_history.proofs.Below.{any_fails, any_none, any_found, one_alone, any_witness, all_at, all_found}
use Rattle.bt_history.proofs.Allowed.{allowed_answers, count_usable, flight_facts, request_kinds, top_usable, usable_or_doubles, worker_below}
use Rattle.bt_history.proofs.Arrivals.{stored_unheld}
use Rattle.bt_history.proofs.Askers.{count_less}
use Rattle.bt_history.proofs.Endgame.{awaited_on}
use Rattle.bt_history.proofs.Delays.{expected_at, expected_cases, neither_asked, overdue_at, unasked_in_time}
use Rattle.bt_history.proofs.HeldLaws.{asking}
use Rattle.bt_history.proofs.LineLaws.{block_is_block}
use Rattle.bt_history.proofs.NextCases.{next_cases, next_is}
use Rattle.bt_history.proofs.Owning.{awaited_touched, doubled_awaited, own_alone, own_facts, usable_part}

-- ---- an entry that doesn't stir

-- what such an entry leaves alone
record Calm (s : Setting) (h : History) (e : Event) : Type 0 where
  pub resets_none : (q : ℕ) → resets (own_call q e) ≡ false
  pub releases_none : (q : ℕ) (b : Block) → releases (own_call q e) b ≡ false
  pub frees_none : (b : Block) → freed e b ≡ false
  pub loses_none : (p : ℕ) → lost e p ≡ false
  pub passes_none : (p : ℕ) → passed e p ≡ false
  pub levels_same : (p before : ℕ) → level_after (counted_call e) p before ≡ before
  pub delays_none : (q : ℕ) (b : Block) → delays (own_call q e) b ≡ false
  pub alone_same : (q : ℕ) (before : Bool) → alone_after (own_call q e) before ≡ before
  pub stores_own : (b : Block) → is_some (stored e b) ≡ true
      → (expected h e.worker b ≡ true) × (asker_count s h b ≡ 1) × (is_late_at_some s h b ≡ false)
  pub begins_none : (b : Block) → requested_by e.reply ≡ b ∷ [] → (not (endgame s h) && endgame s (e ∷ h)) ≡ false

calm_resets : (call : Action) (x : Bool) → unsettles call ≡ false → resets (if x then Some call else None) ≡ false
calm_resets call false is = refl
calm_resets Join true is = absurd (cc is)
calm_resets Choke true is = absurd (cc is)
calm_resets Leave true is = absurd (cc is)
calm_resets call true is = refl

calm_releases : (call : Action) (x : Bool) (b : Block) → unsettles call ≡ false → releases (if x then Some call else None) b ≡ false
calm_releases call false b is = refl
calm_releases (Release p begin) true b is = absurd (cc is)
calm_releases (Lack p) true b is = absurd (cc is)
calm_releases call true b is = refl

calm_delays : (call : Action) (x : Bool) (b : Block) → unsettles call ≡ false → delays (if x then Some call else None) b ≡ false
calm_delays call false b is = refl
calm_delays (Late p begin) true b is = absurd (cc is)
calm_delays call true b is = refl

calm_alone : (call : Action) (x before : Bool) → unsettles call ≡ false → alone_after (if x then Some call else None) before ≡ before
calm_alone call false before is = refl
calm_alone (Alone alone) true before is = absurd (cc is)
calm_alone Join true before is = absurd (cc is)
calm_alone call true before is = refl

calm_frees : (call : Action) (b : Block) → unsettles call ≡ false → frees call b ≡ false
calm_frees (Settle p bytes) b is = absurd (cc is)
calm_frees (Lose p) b is = absurd (cc is)
calm_frees (Discard p begin) b is = absurd (cc is)
calm_frees call b is = refl

calm_loses : (call : Action) (p : ℕ) → unsettles call ≡ false → loses call p ≡ false
calm_loses (Lose r) p is = absurd (cc is)
calm_loses call p is = refl

calm_settles : (call : Action) (p : ℕ) → unsettles call ≡ false → settles call p ≡ false
calm_settles (Settle r bytes) p is = absurd (cc is)
calm_settles call p is = refl

calm_levels : (call : Action) (x : Bool) (p before : ℕ) → unsettles call ≡ false
    → level_after (if x then Some call else None) p before ≡ before
calm_levels call false p before is = refl
calm_levels (Want flags) true p before is = absurd (cc is)
calm_levels (Levels levels) true p before is = absurd (cc is)
calm_levels (Level piece n) true p before is = absurd (cc is)
calm_levels call true p before is = refl

-- the reply asks, stores, cancels and checks nothing
record SaysNothing (r : Reply) : Type 0 where
  pub asks : requested_by r ≡ []
  pub stores_none : stores r ≡ false
  pub fails : is_failed r ≡ false
  pub passes : is_had r ≡ false
  pub cancels : (b : Block) → cancelled_by r b ≡ false

refused_says : (r : Reply) → counts r ≡ false → SaysNothing r
refused_says (Refused reason) is = record { asks = refl; stores_none = refl; fails = refl; passes = refl; cancels = λ b. refl }
refused_says r is = absurd (cc is)

idle_says : (r : Reply) → is_idle r ≡ true → SaysNothing r
idle_says Idle is = record { asks = refl; stores_none = refl; fails = refl; passes = refl; cancels = λ b. refl }
idle_says NothingLeft is = record { asks = refl; stores_none = refl; fails = refl; passes = refl; cancels = λ b. refl }
idle_says r is = absurd (cc is)

-- a reply that asks is a request, which counts
asking_is_request : (r : Reply) (b : Block) → requested_by r ≡ b ∷ [] → is_request r ≡ true
asking_is_request (Request a) b is = refl
asking_is_request (InFlight a) b is = refl
asking_is_request r b is = absurd (cc is)

asking_counts : (r : Reply) (b : Block) → requested_by r ≡ b ∷ [] → counts r ≡ true
asking_counts (Refused reason) b is = absurd (cc is)
asking_counts r b is = refl

-- a refused entry changes nothing
refused_calm : (s : Setting) (h : History) (e : Event) → counts e.reply ≡ false → Calm s h e
refused_calm s h e refused = record {
  resets_none = λ q. ap (λ (x : Bool). resets (if x && (e.worker == q) then Some e.action else None)) refused;
  releases_none = λ q b. ap (λ (x : Bool). releases (if x && (e.worker == q) then Some e.action else None) b) refused;
  frees_none = λ b. and_left (is_failed e.reply) _ (refused_says e.reply refused).fails;
  loses_none = λ p. and_left (is_failed e.reply) _ (refused_says e.reply refused).fails;
  passes_none = λ p. and_left (is_had e.reply) _ (refused_says e.reply refused).passes;
  levels_same = λ p before. ap (λ (x : Bool). level_after (if x then Some e.action else None) p before) refused;
  delays_none = λ q b. ap (λ (x : Bool). delays (if x && (e.worker == q) then Some e.action else None) b) refused;
  alone_same = λ q before. ap (λ (x : Bool). alone_after (if x && (e.worker == q) then Some e.action else None) before) refused;
  stores_own = λ b is. absurd
      (false≢true (sym (ap (λ (x : Bool). is_some (if x then bytes_for b e.action else None)) (refused_says e.reply refused).stores_none) ∙ is));
  begins_none = λ b is. absurd (false≢true (sym refused ∙ asking_counts e.reply b is));
}

-- a stored block that its own peer alone was asked for, and wasn't late with
stored_alone : (s : Setting) (h : History) (e : Event) (b : Block) (call : Action) → stores_beyond s h e call ≡ false
    → is_some (if stores e.reply then bytes_for b call else None) ≡ true
    → (expected h e.worker b ≡ true) × (asker_count s h b ≡ 1) × (is_late_at_some s h b ≡ false)
stored_alone s h e b (Arrived p begin bytes) within is = by_reply (stores e.reply) within is where
  by_place : (x : Bool) → ((p == b.piece) && (begin == b.begin)) ≡ x → asked_alone s h e.worker p begin ≡ true
      → is_some (if x then Some bytes else None) ≡ true
      → (expected h e.worker b ≡ true) × (asker_count s h b ≡ 1) × (is_late_at_some s h b ≡ false)
  by_place false here alone some = absurd (cc some)
  by_place true here alone some =
      let parts = and_parts (expected h e.worker (place_at p begin)) _ alone in
      let rest = and_parts (asker_count s h (place_at p begin) == 1) (not (is_late_at_some s h (place_at p begin))) parts.1 in
      let same : (q : ℕ) → expected h q b ≡ expected h q (place_at p begin) = λ q. expected_at h q (place_at p begin) b here in (
        same e.worker ∙ parts.0,
        (λ i. count_below s.workers (λ q. same q i)) ∙ eqb-true (asker_count s h (place_at p begin)) 1 rest.0,
        (λ i. any_below s.workers (λ q. overdue_at h q (place_at p begin) b here i)) ∙ not-true (is_late_at_some s h (place_at p begin)) rest.1,
      )

  by_reply : (x : Bool) → (x && not (asked_alone s h e.worker p begin)) ≡ false
      → is_some (if x then bytes_for b (Arrived p begin bytes) else None) ≡ true
      → (expected h e.worker b ≡ true) × (asker_count s h b ≡ 1) × (is_late_at_some s h b ≡ false)
  by_reply false none some = absurd (cc some)
  by_reply true none some = by_place ((p == b.piece) && (begin == b.begin)) refl (not-false (asked_alone s h e.worker p begin) none) some
stored_alone s h e b call within is = absurd (false≢true (sym (nothing (stores e.reply)) ∙ is)) where
  nothing : (x : Bool) → is_some (if x then bytes_for b call else None) ≡ false
  nothing true = refl
  nothing false = refl

still_calm : (s : Setting) (h : History) (e : Event) → unsettles e.action ≡ false → begins_endgame s h e ≡ false
    → stores_beyond s h e e.action ≡ false → Calm s h e
still_calm s h e settled begun_none within = record {
  resets_none = λ q. calm_resets e.action (counts e.reply && (e.worker == q)) settled;
  releases_none = λ q b. calm_releases e.action (counts e.reply && (e.worker == q)) b settled;
  frees_none = λ b. and_right (is_failed e.reply) (frees e.action b) (calm_frees e.action b settled);
  loses_none = λ p. and_right (is_failed e.reply) (loses e.action p) (calm_loses e.action p settled);
  passes_none = λ p. and_right (is_had e.reply) (settles e.action p) (calm_settles e.action p settled);
  levels_same = λ p before. calm_levels e.action (counts e.reply) p before settled;
  delays_none = λ q b. calm_delays e.action (counts e.reply && (e.worker == q)) b settled;
  alone_same = λ q before. calm_alone e.action (counts e.reply && (e.worker == q)) before settled;
  stores_own = λ b is. stored_alone s h e b e.action within is;
  begins_none = λ b is. sym (ap (λ (x : Bool). x && (not (endgame s h) && endgame s (e ∷ h))) (asking_is_request e.reply b is)) ∙ begun_none;
}

calm : (s : Setting) (h : History) (e : Event) → stirs s h e ≡ false → Calm s h e
calm s h e quiet = by_reply (counts e.reply) refl quiet where
  by_reply : (x : Bool) → counts e.reply ≡ x → (x && (unsettles e.action || (begins_endgame s h e || stores_beyond s h e e.action))) ≡ false
      → Calm s h e
  by_reply false refused none = refused_calm s h e refused
  by_reply true counted none =
      let parts = or_parts (unsettles e.action) (begins_endgame s h e || stores_beyond s h e e.action) none in
      let rest = or_parts (begins_endgame s h e) (stores_beyond s h e e.action) parts.1 in
      still_calm s h e parts.0 rest.0 rest.1

-- ---- tests over all blocks

some_weaker : (t : Layout) (f g : Block → Bool) → ((b : Block) → f b ≡ true → g b ≡ true) → some_block t f ≡ true → some_block t g ≡ true
some_weaker t f g weaker is =
    let piece = any_witness (piece_count t) (λ p. some_block_of t p f) is in
    let at = any_witness (block_count t piece.0) (λ k. f (block t piece.0 k)) piece.2 in
    any_found (piece_count t) (λ p. some_block_of t p g) piece.0 piece.1
    (any_found (block_count t piece.0) (λ k. g (block t piece.0 k)) at.0 at.1 (weaker (block t piece.0 at.0) at.2))

each_stronger : (t : Layout) (f g : Block → Bool) → ((b : Block) → f b ≡ true → g b ≡ true) → each_block t f ≡ true → each_block t g ≡ true
each_stronger t f g stronger is =
    all_found (piece_count t) (λ p. each_block_of t p g) (λ p lp.
    all_found (block_count t p) (λ k. g (block t p k)) (λ k lk.
    stronger (block t p k) (all_at (block_count t p) (λ j. f (block t p j)) k (all_at (piece_count t) (λ r. each_block_of t r f) p is lp) lk)))

-- where each block of the torrent that passes a test passes another one that none passes, none passes the first either
none_stronger_of : (t : Layout) (f g : Block → Bool) → ((b : Block) → is_block t b ≡ true → g b ≡ true → f b ≡ true) → some_block t f ≡ false
    → some_block t g ≡ false
none_stronger_of t f g stronger none =
    any_none (piece_count t) (λ p. some_block_of t p g) (λ p lp. any_none (block_count t p) (λ k. g (block t p k)) (λ k lk.
    false_from_ne_true (g (block t p k)) (λ is. false≢true
    (sym (any_fails (block_count t p) (λ j. f (block t p j)) k (any_fails (piece_count t) (λ r. some_block_of t r f) p none lp) lk)
    ∙ stronger (block t p k) (block_is_block t p k lp lk) is))))

none_stronger : (t : Layout) (f g : Block → Bool) → ((b : Block) → g b ≡ true → f b ≡ true) → some_block t f ≡ false → some_block t g ≡ false
none_stronger t f g stronger none = none_stronger_of t f g (λ b inside is. stronger b is) none

-- ---- what an allowed entry that doesn't stir leaves

-- a peer that lets itself be asked does so until it takes that back
open_unless : (call : Option Action) → resets call ≡ false → is_open_after call true ≡ true
open_unless None is = refl
open_unless (Some Choke) is = absurd (cc is)
open_unless (Some Join) is = absurd (cc is)
open_unless (Some Leave) is = absurd (cc is)
open_unless (Some call) is = refl

second : (x y : Bool) → x ≡ false → (x || y) ≡ true → y ≡ true
second true y fails is = absurd (cc fails)
second false y fails is = is

none_is : (o : Option (List ℕ)) → is_some o ≡ false → is_none o ≡ true
none_is None is = refl
none_is (Some x) is = absurd (cc is)

module _ (s : Setting) (h : History) (e : Event) (allowed : IsAllowed s h e) (still : Calm s h e) where
  -- what was held is held
  held_on : (b : Block) → held h b ≡ true → held (e ∷ h) b ≡ true
  unfolding kept
  held_on b is = by_test (stored e b) (freed e b) (still.frees_none b) where
    by_test : (o : Option (List ℕ)) (x : Bool) → x ≡ false → is_some (if x then None else if is_some o then o else kept h b) ≡ true
    by_test o true fails = absurd (cc fails)
    by_test None false fails = is
    by_test (Some bytes) false fails = refl

  -- what is stored is held
  stored_held : (b : Block) → is_some (stored e b) ≡ true → held (e ∷ h) b ≡ true
  unfolding kept
  stored_held b is = by_test (stored e b) (freed e b) is (still.frees_none b) where
    by_test : (o : Option (List ℕ)) (x : Bool) → is_some o ≡ true → x ≡ false → is_some (if x then None else if is_some o then o else kept h b) ≡ true
    by_test o true some fails = absurd (cc fails)
    by_test None false some fails = absurd (cc some)
    by_test (Some bytes) false some fails = refl

  -- what isn't held now wasn't, and isn't stored
  unheld_before : (b : Block) → held (e ∷ h) b ≡ false → held h b ≡ false
  unheld_before b is = by_test (held h b) refl where
    by_test : (x : Bool) → held h b ≡ x → x ≡ false
    by_test true before = absurd (false≢true (sym is ∙ held_on b before))
    by_test false before = refl

  unstored_now : (b : Block) → held (e ∷ h) b ≡ false → is_some (stored e b) ≡ false
  unstored_now b is = by_test (is_some (stored e b)) refl where
    by_test : (x : Bool) → is_some (stored e b) ≡ x → x ≡ false
    by_test true some = absurd (false≢true (sym is ∙ stored_held b some))
    by_test false some = refl

  -- what is asked of a peer, by the entry
  asked_now : (q : ℕ) (b : Block) → asked (e ∷ h) q b ≡ ((is_none (stored e b) && asked h q b) || asks q e b)
  unfolding asked
  asked_now q b =
      ap (λ (x : Bool). not x && ((lasts q e b && asked h q b) || asks q e b)) (still.resets_none q)
      ∙ ap (λ (x : Bool). ((is_none (stored e b) && not x) && asked h q b) || asks q e b) (still.releases_none q b)
      ∙ ap (λ (x : Bool). (x && asked h q b) || asks q e b) (and_true (is_none (stored e b)))
    where
      and_true : (x : Bool) → (x && true) ≡ x
      and_true true = refl
      and_true false = refl

  -- what was asked is asked, if it isn't held now
  asked_on : (q : ℕ) (b : Block) → held (e ∷ h) b ≡ false → asked h q b ≡ true → asked (e ∷ h) q b ≡ true
  asked_on q b lacking is =
      asked_now q b ∙ or_left (is_none (stored e b) && asked h q b) (asks q e b)
      (and_from (is_none (stored e b)) (asked h q b) (none_is (stored e b) (unstored_now b lacking)) is)

  -- who is late is so still, but with what is stored
  overdue_now : (q : ℕ) (b : Block) → overdue (e ∷ h) q b ≡ (is_none (stored e b) && overdue h q b)
  unfolding overdue
  overdue_now q b =
      (λ i. not (still.resets_none q i) && ((is_none (stored e b) && not (still.releases_none q b i))
      && ((still.delays_none q b i && asked h q b) || overdue h q b)))
      ∙ ap (λ (x : Bool). x && overdue h q b) (and-true (is_none (stored e b)))

  -- what was expected is expected, if it isn't held now
  expected_on : (q : ℕ) (b : Block) → held (e ∷ h) b ≡ false → expected h q b ≡ true → expected (e ∷ h) q b ≡ true
  expected_on q b lacking is =
      let parts = and_parts (asked h q b) (not (overdue h q b)) is in
      and_from (asked (e ∷ h) q b) (not (overdue (e ∷ h) q b)) (asked_on q b lacking parts.0)
      (ap not (overdue_now q b ∙ and_right (is_none (stored e b)) (overdue h q b) (not-true (overdue h q b) parts.1)))

  -- a block is asked of no fewer peers, if it isn't held now
  askers_on : (b : Block) → held (e ∷ h) b ≡ false → asker_count s h b ≤ asker_count s (e ∷ h) b
  askers_on b lacking = count_less s.workers (λ q. expected h q b) (λ q. expected (e ∷ h) q b) (λ q lq is. expected_on q b lacking is)

  wanted_same : (p : ℕ) → wanted s (e ∷ h) p ≡ wanted s h p
  unfolding level
  wanted_same p = ap (λ (n : ℕ). nat_lt p (piece_count s.torrent) && nat_lt 0 n) (still.levels_same p (level h p))

  had_same : (p : ℕ) → had (e ∷ h) p ≡ had h p
  unfolding had
  had_same p = λ i. still.passes_none p i || (not (still.loses_none p i) && had h p)

  -- what was held or asked is so
  touched_on : (b : Block) → held_or_asked s h b ≡ true → held_or_asked s (e ∷ h) b ≡ true
  touched_on b is = by_held (held (e ∷ h) b) refl where
    by_held : (x : Bool) → held (e ∷ h) b ≡ x → held_or_asked s (e ∷ h) b ≡ true
    by_held true now = or_left (held (e ∷ h) b) (asked_of_some s (e ∷ h) b) now
    by_held false now =
        let some : asked_of_some s h b ≡ true = second (held h b) (asked_of_some s h b) (unheld_before b now) is in
        let found = any_witness s.workers (λ q. expected h q b) some in
        or_right (held (e ∷ h) b) (asked_of_some s (e ∷ h) b)
        (any_found s.workers (λ q. expected (e ∷ h) q b) found.0 found.1 (expected_on found.0 b now found.2))

  -- and from whom
  sender_on : (b : Block) → held h b ≡ true → sender (e ∷ h) b ≡ sender h b
  unfolding sender
  sender_on b is =
      ap (λ (x : Bool). if x then None else if is_some (stored e b) then Some e.worker else sender h b) (still.frees_none b)
      ∙ ap (λ (x : Bool). if x then Some e.worker else sender h b)
      (false_from_ne_true (is_some (stored e b)) (λ some. false≢true (sym (stored_unheld s h e b allowed some) ∙ is)))

  sender_now : (b : Block) → is_some (stored e b) ≡ true → sender (e ∷ h) b ≡ Some e.worker
  unfolding sender
  sender_now b some =
      ap (λ (x : Bool). if x then None else if is_some (stored e b) then Some e.worker else sender h b) (still.frees_none b)
      ∙ ap (λ (x : Bool). if x then Some e.worker else sender h b) some

  -- what is held now and wasn't is stored
  newly_held : (b : Block) → held h b ≡ false → held (e ∷ h) b ≡ true → is_some (stored e b) ≡ true
  unfolding kept
  newly_held b lacking holds = by_test (stored e b) (freed e b) holds where
    by_test : (o : Option (List ℕ)) (x : Bool) → is_some (if x then None else if is_some o then o else kept h b) ≡ true → is_some o ≡ true
    by_test o true none = absurd (cc none)
    by_test None false some = absurd (false≢true (sym lacking ∙ some))
    by_test (Some bytes) false some = refl

  -- a block that nobody was asked for is not held now
  fresh_held : (b : Block) → held_or_asked s h b ≡ false → held (e ∷ h) b ≡ true → ⊥
  fresh_held b none holds =
      let parts = or_parts (held h b) (asked_of_some s h b) none in
      let asked_one = (still.stores_own b (newly_held b parts.0 holds)).0 in
      false≢true (sym (any_fails s.workers (λ w. expected h w b) e.worker parts.1 (worker_below s h e allowed)) ∙ asked_one)

  -- nor is it asked of somebody, where an endgame came that wasn't: the entry would have begun it
  fresh_asked : endgame s (e ∷ h) ≡ true → endgame s h ≡ false → (b : Block) → held_or_asked s h b ≡ false → asked_of_some s (e ∷ h) b ≡ true → ⊥
  fresh_asked now older b none some =
      let parts = or_parts (held h b) (asked_of_some s h b) none in
      let found = any_witness s.workers (λ q. expected (e ∷ h) q b) some in
      let q = found.0 in
      let asks_it : asks q e b ≡ true = ⊎_elim
      (λ (now_asked : asks q e b ≡ true). now_asked)
      (λ (before : expected h q b ≡ true). absurd (false≢true (sym (any_fails s.workers (λ w. expected h w b) q parts.1 found.1) ∙ before)))
      (expected_cases h e q b found.2) in
      let request = asking q e b asks_it in
      false≢true (sym (still.begins_none request.0 request.1.reply) ∙ and_from (not (endgame s h)) (endgame s (e ∷ h)) (ap not older) now)

  -- what is held or asked in such an endgame was so
  touched_before : endgame s (e ∷ h) ≡ true → endgame s h ≡ false → (b : Block) → held_or_asked s (e ∷ h) b ≡ true → held_or_asked s h b ≡ true
  touched_before now older b touched = by_before (held_or_asked s h b) refl where
    by_before : (y : Bool) → held_or_asked s h b ≡ y → y ≡ true
    by_before true before = refl
    by_before false before = absurd (⊎_elim
        (λ (holds : held (e ∷ h) b ≡ true). fresh_held b before holds)
        (λ (some : asked_of_some s (e ∷ h) b ≡ true). fresh_asked now older b before some)
        (or_cases (held (e ∷ h) b) (asked_of_some s (e ∷ h) b) touched))

  lacking_before : (b : Block) → (wanted s (e ∷ h) b.piece && not (held (e ∷ h) b)) ≡ true → (wanted s h b.piece && not (held h b)) ≡ true
  lacking_before b is =
      let both = and_parts (wanted s (e ∷ h) b.piece) (not (held (e ∷ h) b)) is in
      and_from (wanted s h b.piece) (not (held h b)) (sym (wanted_same b.piece) ∙ both.0)
      (ap not (unheld_before b (not-true (held (e ∷ h) b) both.1)))

  each_before : endgame s (e ∷ h) ≡ true → endgame s h ≡ false → (b : Block) → (not (awaited s (e ∷ h) b.piece) || held_or_asked s (e ∷ h) b) ≡ true
      → (not (awaited s h b.piece) || held_or_asked s h b) ≡ true
  each_before now older b is = by_awaited (awaited s h b.piece) refl where
    by_awaited : (x : Bool) → awaited s h b.piece ≡ x → (not x || held_or_asked s h b) ≡ true
    by_awaited false isnt = refl
    by_awaited true before = touched_before now older b
        (sym (ap (λ (x : Bool). not x || held_or_asked s (e ∷ h) b) (awaited_on s h e allowed still.resets_none still.releases_none b.piece (wanted_same b.piece) before)) ∙ is)

  -- an endgame now was one before
  endgame_before : endgame s (e ∷ h) ≡ true → endgame s h ≡ true
  endgame_before now = by_before (endgame s h) refl where
    parts : (each_block s.torrent (λ b. not (awaited s (e ∷ h) b.piece) || held_or_asked s (e ∷ h) b) ≡ true)
        × (some_block s.torrent (λ b. wanted s (e ∷ h) b.piece && not (held (e ∷ h) b)) ≡ true)
    parts = and_parts (each_block s.torrent (λ b. not (awaited s (e ∷ h) b.piece) || held_or_asked s (e ∷ h) b))
        (some_block s.torrent (λ b. wanted s (e ∷ h) b.piece && not (held (e ∷ h) b))) now

    by_before : (x : Bool) → endgame s h ≡ x → x ≡ true
    by_before true older = refl
    by_before false older =
        sym older ∙ and_from (each_block s.torrent (λ b. not (awaited s h b.piece) || held_or_asked s h b))
        (some_block s.torrent (λ b. wanted s h b.piece && not (held h b)))
        (each_stronger s.torrent (λ b. not (awaited s (e ∷ h) b.piece) || held_or_asked s (e ∷ h) b)
        (λ b. not (awaited s h b.piece) || held_or_asked s h b) (each_before now older) parts.0)
        (some_weaker s.torrent (λ b. wanted s (e ∷ h) b.piece && not (held (e ∷ h) b)) (λ b. wanted s h b.piece && not (held h b)) lacking_before
        parts.1)

  -- ---- whose a piece is

  begun_on : (p : ℕ) → begun s h p ≡ true → begun s (e ∷ h) p ≡ true
  begun_on p is =
      let parts = and_parts (not (had h p)) _ is in
      let one = any_witness (block_count s.torrent p) (λ k. held_or_asked s h (block s.torrent p k)) parts.1 in
      and_from (not (had (e ∷ h) p)) _ (ap not (had_same p) ∙ parts.0) (any_found (block_count s.torrent p)
      (λ k. held_or_asked s (e ∷ h) (block s.torrent p k)) one.0 one.1 (touched_on (block s.torrent p one.0) one.2))

  open_on : (w : ℕ) → is_open h w ≡ true → is_open (e ∷ h) w ≡ true
  unfolding is_open
  open_on w is = ap (is_open_after (own_call w e)) is ∙ open_unless (own_call w e) (still.resets_none w)

  -- a block that is one peer's stays so, where none is requested but of that peer
  of_on : (w : ℕ) (b : Block) → ((r : ℕ) → asks r e b ≡ true → r ≡ w) → is_of s h w b ≡ true → is_of s (e ∷ h) w b ≡ true
  of_on w b own is = by_held (held h b) (held (e ∷ h) b) refl refl where
    before : (x : Bool) → held h b ≡ x → (if x then is_peer (sender h b) w else all_below s.workers (λ r. not (expected h r b) || (r == w))) ≡ true
    before x was = sym (ap (λ (y : Bool). if y then is_peer (sender h b) w else all_below s.workers (λ r. not (expected h r b) || (r == w))) was) ∙ is

    now : (x : Bool) → held (e ∷ h) b ≡ x
        → (if x then is_peer (sender (e ∷ h) b) w else all_below s.workers (λ r. not (expected (e ∷ h) r b) || (r == w))) ≡ true
        → is_of s (e ∷ h) w b ≡ true
    now x holds =
        λ rest. ap (λ (y : Bool). if y then is_peer (sender (e ∷ h) b) w else all_below s.workers (λ r. not (expected (e ∷ h) r b) || (r == w))) holds
        ∙ rest

    only : held h b ≡ false → (r : ℕ) → r < s.workers → expected h r b ≡ true → (r == w) ≡ true
    only was r lr waits = sym (ap (λ (x : Bool). not x || (r == w)) waits)
        ∙ all_at s.workers (λ v. not (expected h v b) || (v == w)) r (before false was) lr

    by_held : (x y : Bool) → held h b ≡ x → held (e ∷ h) b ≡ y → is_of s (e ∷ h) w b ≡ true
    by_held true y was holds =
        now true (held_on b was) (ap (λ (o : Option ℕ). is_peer o w) (sender_on b was) ∙ before true was)
    by_held false true was holds =
        let some = newly_held b was holds in
        now true holds (ap (λ (o : Option ℕ). is_peer o w) (sender_now b some)
        ∙ only was e.worker (worker_below s h e allowed) (still.stores_own b some).0)
    by_held false false was holds = now false holds (all_found s.workers (λ r. not (expected (e ∷ h) r b) || (r == w)) (λ r lr.
        by_expected r lr (expected (e ∷ h) r b) refl)) where
          by_expected : (r : ℕ) → r < s.workers → (x : Bool) → expected (e ∷ h) r b ≡ x → (not x || (r == w)) ≡ true
          by_expected r lr false isnt = refl
          by_expected r lr true waits = ⊎_elim
              (λ (asked_now : asks r e b ≡ true). eq-eqb r w (own r asked_now))
              (λ (waited : expected h r b ≡ true). only was r lr waited)
              (expected_cases h e r b waits)

  -- so a piece that is a peer's own stays that
  own_on : (w p : ℕ) → ((r : ℕ) (b : Block) → b.piece ≡ p → asks r e b ≡ true → r ≡ w) → is_own s h w p ≡ true → is_own s (e ∷ h) w p ≡ true
  unfolding alone
  own_on w p own is =
      let facts = own_facts s h w p is in
      and_from (alone (e ∷ h) w) _ (still.alone_same w (alone h w) ∙ facts.works)
      (and_from (is_open (e ∷ h) w) _ (open_on w facts.opened)
      (and_from (begun s (e ∷ h) p) (is_sole s (e ∷ h) w p) (begun_on p facts.on)
      (all_found (block_count s.torrent p) (λ k. is_of s (e ∷ h) w (block s.torrent p k)) (λ k lk.
      of_on w (block s.torrent p k) (λ r asks_it. own r (block s.torrent p k) refl asks_it)
      (all_at (block_count s.torrent p) (λ j. is_of s h w (block s.torrent p j)) k facts.sole lk)))))

  -- a block is requested of another peer than the one whose own its piece is only where no block of that piece is unasked
  asked_of_owner : (w r : ℕ) (b c : Block) → w < s.workers → is_own s h w b.piece ≡ true → b.piece ≡ c.piece → is_block s.torrent c ≡ true
      → held_or_asked s h c ≡ false → asks r e b ≡ true → r ≡ w
  asked_of_owner w r b c lw is same inside none asks_it =
      let named = asking r e b asks_it in
      let a = named.0 in
      let at : a.piece ≡ b.piece = eqb-true a.piece b.piece (and_parts (a.piece == b.piece) (a.begin == b.begin) named.2).0 in
      let of_owner : usable s h e.worker a ≡ true → r ≡ w = λ fits.
      sym named.1.worker ∙ own_alone s h w e.worker a.piece lw (subst (λ (p : ℕ). is_own s h w p ≡ true) (sym at) is) (usable_part s h e.worker a fits) in
      ⊎_elim
      (λ (reply : e.reply ≡ Request a). ⊎_elim
      of_owner
      (λ (again : (endgame s h ≡ true) × (doubles s h e.worker a ≡ true)). absurd (false≢true (sym none
      ∙ awaited_touched s h c again.0 (subst (λ (p : ℕ). awaited s h p ≡ true) (at ∙ same) (doubled_awaited s h e a allowed reply again.1)) inside)))
      (usable_or_doubles s h e a allowed reply))
      (λ (counts : e.reply ≡ InFlight a). of_owner (count_usable s h e.worker a (flight_facts s h e a allowed counts).counts))
      (request_kinds e.reply a named.1.reply)

-- ---- a peer that the entry tells nothing of

-- only Next is answered so
idle_next : (call : Action) (r : Reply) → is_idle r ≡ true → answers (call_mark call) r ≡ true → (word : ℕ) × (call ≡ Next word)
idle_next (Next word) r is fits = (word, refl)
idle_next call Idle is fits = absurd (cc fits)
idle_next call NothingLeft is fits = absurd (cc fits)
idle_next call r is fits = absurd (cc is)

-- what the entry leaves of q
record Silent (h : History) (e : Event) (q : ℕ) : Type 0 where
  pub call : (own_call q e ≡ None) ⊎ ((word : ℕ) × (own_call q e ≡ Some (Next word)))
  pub asks_none : requested q e ≡ []
  pub cancels_none : (b : Block) → cancelled q e b ≡ false
  pub stores_none : (b : Block) → is_some (stored e b) ≡ true → asked h q b ≡ false

silent : (s : Setting) (h : History) (e : Event) (q : ℕ) → IsAllowed s h e → Calm s h e → q < s.workers → passes_by q e ≡ true → Silent h e q
silent s h e q allowed still lq is = ⊎_elim
    (λ (refused : not (counts e.reply) ≡ true).
    let none = not-true (counts e.reply) refused in record {
      call = inl (ap (λ (x : Bool). if x && (e.worker == q) then Some e.action else None) none);
      asks_none = nothing (e.worker == q) (requested_by e.reply) (refused_says e.reply none).asks;
      cancels_none = λ b. and_right (e.worker == q) (cancelled_by e.reply b) ((refused_says e.reply none).cancels b);
      stores_none = λ b some. absurd (false≢true (sym (unstored e b (refused_says e.reply none).stores_none) ∙ some));
    })
    (λ rest. ⊎_elim
    (λ (other : not (e.worker == q) ≡ true).
    let apart = not-true (e.worker == q) other in record {
      call = inl (ap (λ (x : Bool). if x then Some e.action else None) (and_right (counts e.reply) (e.worker == q) apart));
      asks_none = ap (λ (x : Bool). if x then requested_by e.reply else []) apart;
      cancels_none = λ b. and_left (e.worker == q) (cancelled_by e.reply b) apart;
      stores_none = λ b some.
          let awaited_by = still.stores_own b some in
          neither_asked h q b (one_alone s.workers (λ w. expected h w b) e.worker q (worker_below s h e allowed) lq
          (λ same. false≢true (sym apart ∙ eq-eqb e.worker q (sym same))) awaited_by.0 awaited_by.1)
          (any_fails s.workers (λ w. overdue h w b) q awaited_by.2 lq);
    })
    (λ (nothing_to_ask : is_idle e.reply ≡ true).
    let next = idle_next e.action e.reply nothing_to_ask (allowed_answers s h e allowed) in record {
      call = by_own (counts e.reply && (e.worker == q)) e.action next.0 next.1;
      asks_none = nothing (e.worker == q) (requested_by e.reply) (idle_says e.reply nothing_to_ask).asks;
      cancels_none = λ b. and_right (e.worker == q) (cancelled_by e.reply b) ((idle_says e.reply nothing_to_ask).cancels b);
      stores_none = λ b some. absurd (false≢true (sym (unstored e b (idle_says e.reply nothing_to_ask).stores_none) ∙ some));
    })
    (or_cases (not (e.worker == q)) (is_idle e.reply) rest))
    (or_cases (not (counts e.reply)) (not (e.worker == q) || is_idle e.reply) is)
  where
    nothing : (x : Bool) (bs : List Block) → bs ≡ [] → (if x then bs else []) ≡ []
    nothing true bs none = none
    nothing false bs none = refl

    unstored : (e : Event) (b : Block) → stores e.reply ≡ false → is_some (stored e b) ≡ false
    unstored e b none = ap (λ (x : Bool). is_some (if x then bytes_for b e.action else None)) none

    by_own : (x : Bool) (call : Action) (word : ℕ) → call ≡ Next word
        → ((if x then Some call else None) ≡ None) ⊎ ((v : ℕ) × ((if x then Some call else None) ≡ Some (Next v)))
    by_own false call word is = inl refl
    by_own true call word is = inr (word, ap Some is)

-- ---- the answer stays

after_call : (call : Option Action) → (call ≡ None) ⊎ ((word : ℕ) × (call ≡ Some (Next word))) → (p : ℕ) (before : Bool)
    → shows_after call p before ≡ before
after_call call which p before = ⊎_elim
    (λ (none : call ≡ None). ap (λ (c : Option Action). shows_after c p before) none)
    (λ (next : (word : ℕ) × (call ≡ Some (Next word))). ap (λ (c : Option Action). shows_after c p before) next.1)
    which

open_after : (call : Option Action) → (call ≡ None) ⊎ ((word : ℕ) × (call ≡ Some (Next word))) → (before : Bool) → is_open_after call before ≡ before
open_after call which before = ⊎_elim
    (λ (none : call ≡ None). ap (λ (c : Option Action). is_open_after c before) none)
    (λ (next : (word : ℕ) × (call ≡ Some (Next word))). ap (λ (c : Option Action). is_open_after c before) next.1)
    which

depth_after : (call : Option Action) → (call ≡ None) ⊎ ((word : ℕ) × (call ≡ Some (Next word))) → (before : Option ℕ) →
    told_after call before ≡ before
depth_after call which before = ⊎_elim
    (λ (none : call ≡ None). ap (λ (c : Option Action). told_after c before) none)
    (λ (next : (word : ℕ) × (call ≡ Some (Next word))). ap (λ (c : Option Action). told_after c before) next.1)
    which

near_after : (call : Option Action) → (call ≡ None) ⊎ ((word : ℕ) × (call ≡ Some (Next word))) → (before : ℕ) → reach_after call before ≡ before
near_after call which before = ⊎_elim
    (λ (none : call ≡ None). ap (λ (c : Option Action). reach_after c before) none)
    (λ (next : (word : ℕ) × (call ≡ Some (Next word))). ap (λ (c : Option Action). reach_after c before) next.1)
    which

-- what an answer that there is nothing shows of the tests
record NothingToAsk (has_due is_in full starts_one doubles_one waits : Bool) (reply : Reply) : Type 0 where
  pub due : has_due ≡ false
  pub opened : is_in ≡ true
  pub room : full ≡ false
  pub first : starts_one ≡ false
  pub again : doubles_one ≡ false
  pub says : (if waits then Idle else NothingLeft) ≡ reply

nothing_to_ask : (has_due opened full rises_one goes_on starts_one doubles_one waits : Bool) (cancels risings ons firsts seconds : Block → Bool)
    (reply : Reply) → is_idle reply ≡ true
    → next_cases has_due opened full rises_one goes_on starts_one doubles_one waits cancels risings ons firsts seconds ≡ Exactly reply
    → NothingToAsk has_due opened full starts_one doubles_one waits reply
unfolding next_cases
nothing_to_ask true _ _ _ _ _ _ _ cancels risings ons firsts seconds reply idle is = absurd (cc is)
nothing_to_ask false false _ _ _ _ _ _ cancels risings ons firsts seconds reply idle is = absurd (cc (is, idle))
nothing_to_ask false true true _ _ _ _ _ cancels risings ons firsts seconds reply idle is = absurd (cc (is, idle))
nothing_to_ask false true false true _ _ _ _ cancels risings ons firsts seconds reply idle is = absurd (cc is)
nothing_to_ask false true false false true _ _ _ cancels risings ons firsts seconds reply idle is = absurd (cc is)
nothing_to_ask false true false false false true _ _ cancels risings ons firsts seconds reply idle is = absurd (cc is)
nothing_to_ask false true false false false false true _ cancels risings ons firsts seconds reply idle is = absurd (cc is)
nothing_to_ask false true false false false false false true cancels risings ons firsts seconds reply idle is =
    record { due = refl; opened = refl; room = refl; first = refl; again = refl; says = cc is }
nothing_to_ask false true false false false false false false cancels risings ons firsts seconds reply idle is =
    record { due = refl; opened = refl; room = refl; first = refl; again = refl; says = cc is }

module _ (s : Setting) (h : History) (e : Event) (q : ℕ) (allowed : IsAllowed s h e) (still : Calm s h e) (quiet : Silent h e q) where
  asked_same : (b : Block) → asked (e ∷ h) q b ≡ asked h q b
  asked_same b =
      asked_now s h e allowed still q b
      ∙ ap (λ (bs : List Block). (is_none (stored e b) && asked h q b) || list_any (λ a. same_begin a b) bs) quiet.asks_none
      ∙ by_stored (stored e b) (asked h q b) (quiet.stores_none b)
    where
      by_stored : (o : Option (List ℕ)) (x : Bool) → (is_some o ≡ true → x ≡ false) → ((is_none o && x) || false) ≡ x
      by_stored None true none = refl
      by_stored None false none = refl
      by_stored (Some bytes) x none = sym (none refl)

  overdue_same : (b : Block) → overdue (e ∷ h) q b ≡ overdue h q b
  overdue_same b = overdue_now s h e allowed still q b ∙ by_stored (stored e b) (λ some. unasked_in_time h q b (quiet.stores_none b some)) where
    by_stored : (o : Option (List ℕ)) → (is_some o ≡ true → overdue h q b ≡ false) → (is_none o && overdue h q b) ≡ overdue h q b
    by_stored None none = refl
    by_stored (Some bytes) none = sym (none refl)

  due_same : (b : Block) → due (e ∷ h) q b ≡ due h q b
  unfolding due
  due_same b =
      (λ i. not (still.resets_none q i) &&
      (not (quiet.cancels_none b i) && (due h q b || (is_some (stored e b) && (not (e.worker == q) && asked h q b)))))
      ∙ by_stored (due h q b) (stored e b) (not (e.worker == q)) (asked h q b) (quiet.stores_none b)
    where
      by_stored : (d : Bool) (o : Option (List ℕ)) (w x : Bool) → (is_some o ≡ true → x ≡ false) → (d || (is_some o && (w && x))) ≡ d
      by_stored true o w x none = refl
      by_stored false None w x none = refl
      by_stored false (Some bytes) w x none = and_right w x (none refl)

  shows_same : (p : ℕ) → shows (e ∷ h) q p ≡ shows h q p
  unfolding shows
  shows_same p = after_call (own_call q e) quiet.call p (shows h q p)

  open_same : is_open (e ∷ h) q ≡ is_open h q
  unfolding is_open
  open_same = open_after (own_call q e) quiet.call (is_open h q)

  depth_same : depth_of s (e ∷ h) q ≡ depth_of s h q
  unfolding told_depth
  depth_same = ap (λ (o : Option ℕ). unwrap_or o s.depth) (depth_after (own_call q e) quiet.call (told_depth h q))

  gives_same : (p : ℕ) → gives (e ∷ h) q p ≡ gives h q p
  unfolding level reach
  gives_same p = λ i. shows_same p i && nat_le (still.levels_same p (level h p) i) (near_after (own_call q e) quiet.call (reach h q) i)

  alone_same : alone (e ∷ h) q ≡ alone h q
  unfolding alone
  alone_same = still.alone_same q (alone h q)

  -- a block that is its own now was
  of_before : (b : Block) → is_of s (e ∷ h) q b ≡ true → is_of s h q b ≡ true
  of_before b is = by_held (held h b) (held (e ∷ h) b) refl refl where
    now : (x : Bool) → held (e ∷ h) b ≡ x
        → (if x then is_peer (sender (e ∷ h) b) q else all_below s.workers (λ r. not (expected (e ∷ h) r b) || (r == q))) ≡ true
    now x holds = sym (ap (λ (y : Bool). if y then is_peer (sender (e ∷ h) b) q
        else all_below s.workers (λ r. not (expected (e ∷ h) r b) || (r == q))) holds) ∙ is

    before : (x : Bool) → held h b ≡ x → (if x then is_peer (sender h b) q else all_below s.workers (λ r. not (expected h r b) || (r == q))) ≡ true
        → is_of s h q b ≡ true
    before x was rest =
        ap (λ (y : Bool). if y then is_peer (sender h b) q else all_below s.workers (λ r. not (expected h r b) || (r == q))) was ∙ rest

    by_held : (x y : Bool) → held h b ≡ x → held (e ∷ h) b ≡ y → is_of s h q b ≡ true
    by_held true y was holds = before true was (ap (λ (o : Option ℕ). is_peer o q) (sym (sender_on s h e allowed still b was))
        ∙ now true (held_on s h e allowed still b was))
    by_held false true was holds =
        let some = newly_held s h e allowed still b was holds in
        let brought = still.stores_own b some in
        let own : (e.worker == q) ≡ true = sym (ap (λ (o : Option ℕ). is_peer o q) (sender_now s h e allowed still b some)) ∙ now true holds in
        before false was (all_found s.workers (λ r. not (expected h r b) || (r == q)) (λ r lr.
        by_worker r lr (cases_eq r e.worker) brought.0 brought.1 own)) where
          by_worker : (r : ℕ) → r < s.workers → (r ≡ e.worker) ⊎ (r ≡ e.worker → ⊥) → expected h e.worker b ≡ true → asker_count s h b ≡ 1
              → (e.worker == q) ≡ true → (not (expected h r b) || (r == q)) ≡ true
          by_worker r lr which waits one own = ⊎_elim
              (λ (same : r ≡ e.worker). or_right (not (expected h r b)) (r == q) (ap (λ (v : ℕ). v == q) same ∙ own))
              (λ (other : r ≡ e.worker → ⊥). or_left (not (expected h r b)) (r == q) (ap not
              (one_alone s.workers (λ v. expected h v b) e.worker r (worker_below s h e allowed) lr other waits one)))
              which
    by_held false false was holds = before false was (all_found s.workers (λ r. not (expected h r b) || (r == q)) (λ r lr.
        by_expected r lr (expected h r b) refl)) where
          by_expected : (r : ℕ) → r < s.workers → (x : Bool) → expected h r b ≡ x → (not x || (r == q)) ≡ true
          by_expected r lr false isnt = refl
          by_expected r lr true waits = sym (ap (λ (x : Bool). not x || (r == q)) (expected_on s h e allowed still r b holds waits))
              ∙ all_at s.workers (λ v. not (expected (e ∷ h) v b) || (v == q)) r (now false holds) lr

  -- a piece that it may take part in now was one before, if a block of it was unasked
  free_before : (b : Block) → is_block s.torrent b ≡ true → held_or_asked s h b ≡ false → is_free_for s (e ∷ h) q b.piece ≡ true
      → is_free_for s h q b.piece ≡ true
  free_before b inside none is = by_alone (alone h q) refl where
    p : ℕ
    p = b.piece

    now : (x : Bool) → alone h q ≡ x → (if x then is_sole s (e ∷ h) q p else not (belongs s (e ∷ h) p)) ≡ true
    now x was = sym (ap (λ (y : Bool). if y then is_sole s (e ∷ h) q p else not (belongs s (e ∷ h) p)) (alone_same ∙ was)) ∙ is

    before : (x : Bool) → alone h q ≡ x → (if x then is_sole s h q p else not (belongs s h p)) ≡ true → is_free_for s h q p ≡ true
    before x was rest = ap (λ (y : Bool). if y then is_sole s h q p else not (belongs s h p)) was ∙ rest

    by_alone : (x : Bool) → alone h q ≡ x → is_free_for s h q p ≡ true
    by_alone true works = before true works (all_found (block_count s.torrent p) (λ k. is_of s h q (block s.torrent p k)) (λ k lk.
        of_before (block s.torrent p k) (all_at (block_count s.torrent p) (λ j. is_of s (e ∷ h) q (block s.torrent p j)) k (now true works) lk)))
    by_alone false shares = before false shares (ap not (false_from_ne_true (belongs s h p) (λ owned.
        let found = any_witness s.workers (λ w. is_own s h w p) owned in
        false≢true (sym (not-true (belongs s (e ∷ h) p) (now false shares))
        ∙ any_found s.workers (λ w. is_own s (e ∷ h) w p) found.0 found.1 (own_on s h e allowed still found.0 p
        (λ r c same asks_it. asked_of_owner s h e allowed still found.0 r c b found.1
        (subst (λ (v : ℕ). is_own s h found.0 v ≡ true) (sym same) found.2) same inside none asks_it) found.2)))))

  usable_before : (b : Block) → is_block s.torrent b ≡ true → usable s (e ∷ h) q b ≡ true → usable s h q b ≡ true
  usable_before b inside is =
      let parts = and_parts (unasked s (e ∷ h) b) _ is in
      let wants = and_parts (wanted s (e ∷ h) b.piece) _ parts.1 in
      let given = and_parts (gives (e ∷ h) q b.piece) _ wants.1 in
      let rest = and_parts (not (overdue (e ∷ h) q b)) (is_free_for s (e ∷ h) q b.piece) given.1 in
      let none = untouched (not-true (held_or_asked s (e ∷ h) b) parts.0) in
      and_from (unasked s h b) _ (ap not none)
      (and_from (wanted s h b.piece) _ (sym (wanted_same s h e allowed still b.piece) ∙ wants.0)
      (and_from (gives h q b.piece) _ (sym (gives_same b.piece) ∙ given.0)
      (and_from (not (overdue h q b)) (is_free_for s h q b.piece) (ap not (sym (overdue_same b)) ∙ rest.0) (free_before b inside none rest.1))))
    where
      untouched : held_or_asked s (e ∷ h) b ≡ false → held_or_asked s h b ≡ false
      untouched none = false_from_ne_true (held_or_asked s h b) (λ was. false≢true (sym none ∙ touched_on s h e allowed still b was))

  doubles_before : (b : Block) → doubles s (e ∷ h) q b ≡ true → doubles s h q b ≡ true
  doubles_before b is =
      let wants = and_parts (wanted s (e ∷ h) b.piece) _ is in
      let shown = and_parts (gives (e ∷ h) q b.piece) _ wants.1 in
      let lacking = and_parts (not (held (e ∷ h) b)) _ shown.1 in
      let few = and_parts (nat_lt (asker_count s (e ∷ h) b) s.askers) (not (asked (e ∷ h) q b)) lacking.1 in
      let unheld = not-true (held (e ∷ h) b) lacking.0 in
      let less = ltb-true (asker_count s (e ∷ h) b) s.askers few.0 in
      let most = askers_on s h e allowed still b unheld in
      and_from (wanted s h b.piece) _ (sym (wanted_same s h e allowed still b.piece) ∙ wants.0)
      (and_from (gives h q b.piece) _ (sym (gives_same b.piece) ∙ shown.0)
      (and_from (not (held h b)) _ (ap not (unheld_before s h e allowed still b unheld))
      (and_from (nat_lt (asker_count s h b) s.askers) (not (asked h q b)) (lt-ltb (asker_count s h b) s.askers (omega (arith, less, most)))
      (ap not (sym (asked_same b)) ∙ few.1))))

  idle_step : (reply : Reply) → is_idle reply ≡ true → next_answer s h q ≡ Exactly reply → next_answer s (e ∷ h) q ≡ Exactly reply
  unfolding next_cases
  idle_step reply idle is =
      let facts = nothing_to_ask _ _ _ _ _ _ _ _ (due h q) (rises s h q) (continues s h q) (starts s h q) (doubles s h q) reply idle
      (sym (next_is s h q) ∙ is) in
      let none_due : some_block s.torrent (due (e ∷ h) q) ≡ false = (λ i. some_block s.torrent (λ b. due_same b i)) ∙ facts.due in
      let room : nat_le (depth_of s (e ∷ h) q) (asked_count s (e ∷ h) q) ≡ false =
      (λ i. nat_le (depth_same i) (count_blocks s.torrent (λ b. asked_same b i))) ∙ facts.room in
      let first : some_block s.torrent (usable s (e ∷ h) q) ≡ false =
      none_stronger_of s.torrent (usable s h q) (usable s (e ∷ h) q) usable_before facts.first in
      let on : some_block s.torrent (continues s (e ∷ h) q) ≡ false =
      none_stronger s.torrent (usable s (e ∷ h) q) (continues s (e ∷ h) q)
      (λ b both. top_usable s (e ∷ h) q b (and_parts (tops s (e ∷ h) q b) _ both).0) first in
      let up : some_block s.torrent (tops_in_order s (e ∷ h) q) ≡ false =
      none_stronger s.torrent (usable s (e ∷ h) q) (tops_in_order s (e ∷ h) q)
      (λ b both. top_usable s (e ∷ h) q b (and_parts (tops s (e ∷ h) q b) _ both).0) first in
      let again : (rushes s (e ∷ h) q && (endgame s (e ∷ h) && some_block s.torrent (doubles s (e ∷ h) q))) ≡ false = none_again facts.again in
      let waits : interesting s (e ∷ h) q ≡ interesting s h q =
      λ i. any_below (piece_count s.torrent)
      (λ p. wanted_same s h e allowed still p i && (shows_same p i && not (had_same s h e allowed still p i))) in
      rw (next_is s (e ∷ h) q, none_due, open_same ∙ facts.opened, room, up, on, first, again, waits) (by_waits (interesting s h q) facts.says)
    where
      rushes_same : rushes s (e ∷ h) q ≡ rushes s h q
      rushes_same = λ i. nat_lt (count_blocks s.torrent (λ b. asked_same b i)) s.rush

      none_again : (rushes s h q && (endgame s h && some_block s.torrent (doubles s h q))) ≡ false
          → (rushes s (e ∷ h) q && (endgame s (e ∷ h) && some_block s.torrent (doubles s (e ∷ h) q))) ≡ false
      none_again none = ap (λ (x : Bool). x && (endgame s (e ∷ h) && some_block s.torrent (doubles s (e ∷ h) q))) rushes_same
          ∙ by_rush (rushes s h q) none where
            by_test : (x : Bool) → endgame s (e ∷ h) ≡ x → (endgame s h && some_block s.torrent (doubles s h q)) ≡ false
                → (x && some_block s.torrent (doubles s (e ∷ h) q)) ≡ false
            by_test false now none = refl
            by_test true now none =
                none_stronger s.torrent (doubles s h q) (doubles s (e ∷ h) q) doubles_before
                (sym (ap (λ (x : Bool). x && some_block s.torrent (doubles s h q)) (endgame_before s h e allowed still now)) ∙ none)

            by_rush : (x : Bool) → (x && (endgame s h && some_block s.torrent (doubles s h q))) ≡ false
                → (x && (endgame s (e ∷ h) && some_block s.torrent (doubles s (e ∷ h) q))) ≡ false
            by_rush false none = refl
            by_rush true none = by_test (endgame s (e ∷ h)) refl none

      by_waits : (x : Bool) → (if x then Idle else NothingLeft) ≡ reply → (if x then Exactly Idle else Exactly NothingLeft) ≡ Exactly reply
      by_waits true says = ap Exactly says
      by_waits false says = ap Exactly says

-- ---- over entries

-- an entry that doesn't raise the epoch, and tells nothing of q, leaves the answer that there is nothing to ask of q
pub idle_stays : (s : Setting) (h : History) (e : Event) (q : ℕ) (reply : Reply) → IsAllowed s h e → q < s.workers → is_idle reply ≡ true
    → passes_by q e ≡ true → stirs s h e ≡ false → next_answer s h q ≡ Exactly reply → next_answer s (e ∷ h) q ≡ Exactly reply
idle_stays s h e q reply allowed lq idle by quiet is =
    let still = calm s h e quiet in
    idle_step s h e q allowed still (silent s h e q allowed still lq by) reply idle is

-- the epoch never falls
epoch_rises : (s : Setting) (newer h : History) → epoch s h ≤ epoch s (newer ++ h)
unfolding epoch
epoch_rises s [] h = omega arith
epoch_rises s (e ∷ newer) h = (let rest = epoch_rises s newer h in omega (arith, rest))

-- nor do these entries, however many
pub idle_lasts : (s : Setting) (newer h : History) (q : ℕ) (reply : Reply) → IsLegal s (newer ++ h) → q < s.workers → is_idle reply ≡ true
    → pass_by q newer ≡ true → epoch s (newer ++ h) ≡ epoch s h → next_answer s h q ≡ Exactly reply → next_answer s (newer ++ h) q ≡ Exactly reply
unfolding epoch pass_by
idle_lasts s [] h q reply legal lq idle by same is = is
idle_lasts s (e ∷ newer) h q reply legal lq idle by same is =
    let parts = and_parts (passes_by q e) (pass_by q newer) by in
    let rises = epoch_rises s newer h in
    let step = by_test (stirs s (newer ++ h) e) same rises in
    idle_stays s (newer ++ h) e q reply legal.1 lq idle parts.0 step.0 (idle_lasts s newer h q reply legal.0 lq idle parts.1 step.1 is)
  where
    by_test : (x : Bool) → epoch s (newer ++ h) + (if x then 1 else 0) ≡ epoch s h → epoch s h ≤ epoch s (newer ++ h)
        → (x ≡ false) × (epoch s (newer ++ h) ≡ epoch s h)
    by_test false same rises = (refl, omega (arith, same))
    by_test true same rises = absurd (omega (arith, same, rises))
