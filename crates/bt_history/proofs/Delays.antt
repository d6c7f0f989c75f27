-- What holds of blocks that a peer is late with.
use Rattle.std.proofs.Common.{◌≡◌, ◌⊎◌, ℕ, ◌<◌, Bool, true, false, not, ◌&&◌, ◌||◌, [], ◌∷◌, Option, None, Some, refl, ap, sym, ◌∙◌, ⊎_elim, inl, inr}
use Rattle.std.specs.Prelude.{if◌then◌else◌, ◌==◌}
use Rattle.std.proofs.lemmas.Bool.{and_from, and_parts, cases_Bool, false_from_ne_true, false≢true, not-false, not-true, or_cases, or_left, or_parts}
use Rattle.std.proofs.lemmas.Bool.{or_right}
use Rattle.std.proofs.Math.Bool.{and-true}
use Rattle.bt_meta.specs.declared.block.Block.{Block}
use Rattle.bt_meta.specs.Layout.{block, block_count}
use Rattle.bt_history.specs.declared.event.Action.{Action}
use Rattle.bt_history.specs.declared.event.Action.TheVariants.{Late}
use Rattle.bt_history.specs.declared.event.Event.{Event}
use Rattle.bt_history.specs.Before.{any_asker_count, asked_alone_undelayed, asked_of_any, is_candidate_undelayed, is_delay, never_delays}
use Rattle.bt_history.specs.Before.{resumes_undelayed, usable_undelayed}
use Rattle.bt_history.specs.Counting.{any_below, count_below}
use Rattle.bt_history.specs.Epochs.{asked_alone}
use Rattle.bt_history.specs.Legal.{place_at}
use Rattle.bt_history.specs.Next.{is_candidate, resumes, usable}
use Rattle.bt_history.specs.Setting.{Setting, each_block_of, some_block_of}
use Rattle.bt_history.specs.History.{History, counts, own_call, same_begin}
use Rattle.bt_history.specs.Peers.{asked, asks, delays, expected, lasts, overdue, resets, shows}
use Rattle.bt_history.specs.Pieces.{asked_of_some, asker_count, gives, held_or_asked, is_late_at_some, is_open_piece, is_spent, offers}
use Rattle.bt_history.specs.Pieces.{unasked, unbegun, wanted}
use Rattle.bt_history.proofs.Below.{all_at, all_found, any_fails, any_none, any_witness}
use Rattle.bt_history.proofs.Lines.{asked_at, lasts_at}
use Rattle.bt_history.proofs.SameBegin.{resized, same_but_len}
use Rattle.bt_history.specs.Pieces.{is_free_for}

-- a block that a peer is late with is asked of it
pub overdue_asked : (h : History) (q : ℕ) (b : Block) → overdue h q b ≡ true → asked h q b ≡ true
unfolding overdue asked
overdue_asked [] q b is = absurd (cc is)
overdue_asked (e ∷ h) q b is =
    let parts = and_parts (not (resets (own_call q e))) _ is in
    let lasting = and_parts (lasts q e b) _ parts.1 in
    let before : asked h q b ≡ true = ⊎_elim
    (λ (now : (delays (own_call q e) b && asked h q b) ≡ true). (and_parts (delays (own_call q e) b) (asked h q b) now).1)
    (λ (older : overdue h q b ≡ true). overdue_asked h q b older)
    (or_cases (delays (own_call q e) b && asked h q b) (overdue h q b) lasting.1) in
    and_from (not (resets (own_call q e))) ((lasts q e b && asked h q b) || asks q e b) parts.0
    (or_left (lasts q e b && asked h q b) (asks q e b) (and_from (lasts q e b) (asked h q b) lasting.0 before))

-- so it isn't late with one that isn't
pub unasked_in_time : (h : History) (q : ℕ) (b : Block) → asked h q b ≡ false → overdue h q b ≡ false
unasked_in_time h q b none = false_from_ne_true (overdue h q b) (λ was. false≢true (sym none ∙ overdue_asked h q b was))

-- a block that is neither expected nor late isn't asked
pub neither_asked : (h : History) (q : ℕ) (b : Block) → expected h q b ≡ false → overdue h q b ≡ false → asked h q b ≡ false
neither_asked h q b waits in_time = false_from_ne_true (asked h q b) (λ is.
    false≢true (sym waits ∙ and_from (asked h q b) (not (overdue h q b)) is (ap not in_time)))

-- nor is one that nobody is expected to bring, and that isn't late
pub nobody_asked : (s : Setting) (h : History) (q : ℕ) (b : Block) → q < s.workers → asked_of_some s h b ≡ false → overdue h q b ≡ false
    → asked h q b ≡ false
nobody_asked s h q b lq none in_time = neither_asked h q b (any_fails s.workers (λ w. expected h w b) q none lq) in_time

-- a block is expected after an entry that just asked it, or was before
pub expected_cases : (h : History) (e : Event) (q : ℕ) (b : Block) → expected (e ∷ h) q b ≡ true → (asks q e b ≡ true) ⊎ (expected h q b ≡ true)
unfolding overdue asked
expected_cases h e q b is =
    let both = and_parts (asked (e ∷ h) q b) (not (overdue (e ∷ h) q b)) is in
    let parts = and_parts (not (resets (own_call q e))) ((lasts q e b && asked h q b) || asks q e b) both.0 in
    ⊎_elim
    (λ (before : (lasts q e b && asked h q b) ≡ true).
    let old = and_parts (lasts q e b) (asked h q b) before in
    let in_time : overdue h q b ≡ false = false_from_ne_true (overdue h q b) (λ was. false≢true (sym (not-true (overdue (e ∷ h) q b) both.1)
    ∙ and_from (not (resets (own_call q e))) _ parts.0 (and_from (lasts q e b) _ old.0
    (or_right (delays (own_call q e) b && asked h q b) (overdue h q b) was)))) in
    inr (and_from (asked h q b) (not (overdue h q b)) old.1 (ap not in_time)))
    (λ (now : asks q e b ≡ true). inl now)
    (or_cases (lasts q e b && asked h q b) (asks q e b) parts.1)

delays_resized : (call : Option Action) (b : Block) (n : ℕ) → delays call (resized b n) ≡ delays call b
delays_resized (Some (Late p begin)) b n = refl
delays_resized _ b n = refl

-- whether a peer is late with a block depends on where it begins alone, and so does whether it is expected
pub overdue_at : (h : History) (q : ℕ) (a b : Block) → same_begin a b ≡ true → overdue h q b ≡ overdue h q a
unfolding overdue
overdue_at [] q a b same = refl
overdue_at (e ∷ h) q a b same =
    let delayed : delays (own_call q e) b ≡ delays (own_call q e) a =
    ap (delays (own_call q e)) (same_but_len a b same) ∙ delays_resized (own_call q e) a b.len in
    λ i. not (resets (own_call q e))
    && (sym (lasts_at q e a b same) i && ((delayed i && asked_at h q a b same i) || overdue_at h q a b same i))

pub expected_at : (h : History) (q : ℕ) (a b : Block) → same_begin a b ≡ true → expected h q b ≡ expected h q a
expected_at h q a b same = λ i. asked_at h q a b same i && not (overdue_at h q a b same i)

-- ---- what is left to ask of a peer

module _ (s : Setting) (h : History) (q p : ℕ) where
  -- a piece with an unasked block that isn't spent has one to ask of the peer
  pub left_to_ask : some_block_of s.torrent p (unasked s h) ≡ true → is_spent s h q p ≡ false
      → (k : ℕ) × (k < block_count s.torrent p) × (unasked s h (block s.torrent p k) ≡ true) × (overdue h q (block s.torrent p k) ≡ false)
  left_to_ask some isnt = ⊎_elim
      (λ (is_late : some_block_of s.torrent p (overdue h q) ≡ true).
      let left : each_block_of s.torrent p (λ b. held_or_asked s h b || overdue h q b) ≡ false =
      sym (ap (λ (x : Bool). x && each_block_of s.torrent p (λ b. held_or_asked s h b || overdue h q b)) is_late) ∙ isnt in
      let found = ⊎_elim
      (λ (none : any_below (block_count s.torrent p) (λ k. not (held_or_asked s h (block s.torrent p k) || overdue h q (block s.torrent p k))) ≡ false).
      absurd (false≢true (sym left ∙ all_found (block_count s.torrent p) _ (λ k lk. not-false _ (any_fails (block_count s.torrent p)
      (λ j. not (held_or_asked s h (block s.torrent p j) || overdue h q (block s.torrent p j))) k none lk)))))
      (λ (one : any_below (block_count s.torrent p) (λ k. not (held_or_asked s h (block s.torrent p k) || overdue h q (block s.torrent p k))) ≡ true).
      any_witness (block_count s.torrent p) (λ k. not (held_or_asked s h (block s.torrent p k) || overdue h q (block s.torrent p k))) one)
      (cases_not (any_below (block_count s.torrent p) (λ k. not (held_or_asked s h (block s.torrent p k) || overdue h q (block s.torrent p k))))) in
      let parts = or_parts (held_or_asked s h (block s.torrent p found.0)) (overdue h q (block s.torrent p found.0)) (not-true _ found.2) in
      (found.0, found.1, ap not parts.0, parts.1))
      (λ (in_time : some_block_of s.torrent p (overdue h q) ≡ false).
      let one = any_witness (block_count s.torrent p) (λ k. unasked s h (block s.torrent p k)) some in
      (one.0, one.1, one.2, any_fails (block_count s.torrent p) (λ k. overdue h q (block s.torrent p k)) one.0 in_time one.1))
      (cases_Bool (some_block_of s.torrent p (overdue h q)))
    where
      cases_not : (x : Bool) → (x ≡ false) ⊎ (x ≡ true)
      cases_not true = inr refl
      cases_not false = inl refl

  -- and one that has isn't spent
  pub left_unspent : (k : ℕ) → k < block_count s.torrent p → unasked s h (block s.torrent p k) ≡ true → overdue h q (block s.torrent p k) ≡ false
      → is_spent s h q p ≡ false
  left_unspent k lk free in_time = false_from_ne_true (is_spent s h q p) (λ is.
      let all = (and_parts (some_block_of s.torrent p (overdue h q)) _ is).1 in
      let here = all_at (block_count s.torrent p) (λ j. held_or_asked s h (block s.torrent p j) || overdue h q (block s.torrent p j)) k all lk in
      ⊎_elim
      (λ (touched : held_or_asked s h (block s.torrent p k) ≡ true). false≢true (sym (not-true _ free) ∙ touched))
      (λ (was : overdue h q (block s.torrent p k) ≡ true). false≢true (sym in_time ∙ was))
      (or_cases (held_or_asked s h (block s.torrent p k)) (overdue h q (block s.torrent p k)) here))

-- ---- where nobody was told to be late

delay_none : (call : Action) (x : Bool) (b : Block) → is_delay call ≡ false → delays (if x then Some call else None) b ≡ false
delay_none call false b isnt = refl
delay_none (Late p begin) true b isnt = absurd (cc isnt)
delay_none call true b isnt = refl

-- nobody is late
pub all_in_time : (h : History) (q : ℕ) (b : Block) → never_delays h ≡ true → overdue h q b ≡ false
unfolding overdue never_delays
all_in_time [] q b never = refl
all_in_time (e ∷ h) q b never =
    let parts = and_parts (not (is_delay e.action)) (never_delays h) never in
    (λ i. not (resets (own_call q e)) && (lasts q e b
    && ((delay_none e.action (counts e.reply && (e.worker == q)) b (not-true (is_delay e.action) parts.0) i && asked h q b)
    || all_in_time h q b parts.1 i)))
    ∙ nothing (not (resets (own_call q e))) (lasts q e b)
  where
    nothing : (x y : Bool) → (x && (y && false)) ≡ false
    nothing true true = refl
    nothing true false = refl
    nothing false y = refl

module _ (h : History) (never : never_delays h ≡ true) where
  -- what is asked of a peer is expected of it
  pub expected_undelayed : (q : ℕ) (b : Block) → expected h q b ≡ asked h q b
  expected_undelayed q b = ap (λ (x : Bool). asked h q b && not x) (all_in_time h q b never) ∙ and-true (asked h q b)

  pub offers_undelayed : (s : Setting) (q p : ℕ) → offers s h q p ≡ shows h q p
  offers_undelayed s q p =
      ap (λ (x : Bool). shows h q p && not (x && each_block_of s.torrent p (λ b. held_or_asked s h b || overdue h q b)))
      (any_none (block_count s.torrent p) (λ k. overdue h q (block s.torrent p k)) (λ k lk. all_in_time h q (block s.torrent p k) never))
      ∙ and-true (shows h q p)

  module _ (s : Setting) where
    pub asked_undelayed : (b : Block) → asked_of_some s h b ≡ asked_of_any s h b
    asked_undelayed b = λ i. any_below s.workers (λ q. expected_undelayed q b i)

    pub askers_undelayed : (b : Block) → asker_count s h b ≡ any_asker_count s h b
    askers_undelayed b = λ i. count_below s.workers (λ q. expected_undelayed q b i)

    pub usable_as_undelayed : (q : ℕ) (b : Block) → usable s h q b ≡ usable_undelayed s h q b
    usable_as_undelayed q b =
        λ i. unasked s h b && (wanted s h b.piece && (gives h q b.piece && (not (all_in_time h q b never i) && is_free_for s h q b.piece)))

    pub resumes_as_undelayed : (q p : ℕ) → resumes s h q p ≡ resumes_undelayed s h q p
    resumes_as_undelayed q p = ap (λ (x : Bool). is_open_piece s h p && (x && is_free_for s h q p)) (offers_undelayed s q p)

    pub candidate_as_undelayed : (q p : ℕ) → is_candidate s h q p ≡ is_candidate_undelayed s h q p
    candidate_as_undelayed q p = ap (λ (x : Bool). wanted s h p && (x && unbegun s h p)) (offers_undelayed s q p)

    pub alone_undelayed : (w p begin : ℕ) → asked_alone s h w p begin ≡ asked_alone_undelayed s h w p begin
    alone_undelayed w p begin =
        (λ i. expected_undelayed w (place_at p begin) i && ((askers_undelayed (place_at p begin) i == 1)
        && not (none_late i)))
        ∙ ap (λ (x : Bool). asked h w (place_at p begin) && x) (and-true (any_asker_count s h (place_at p begin) == 1))
      where
        none_late : is_late_at_some s h (place_at p begin) ≡ false
        none_late = any_none s.workers (λ q. overdue h q (place_at p begin)) (λ q lq. all_in_time h q (place_at p begin) never)
