-- A plain history is legal just where it was before there were later calls.
use Rattle.std.proofs.Common.{◌≡◌, ◌↔◌, ℕ, ◌==◌, ◌<◌, ◌≤◌, Bool, true, false, not, ◌&&◌, ◌||◌, [], ◌∷◌, refl, sym, ◌∙◌}
use Rattle.std.proofs.Common.{arith, subst}
use Rattle.std.specs.Prelude.{if◌then◌else◌, is_some, nat_lt, nat_le}
use Rattle.std.proofs.lemmas.Bool.{and_parts, and_from, leb-false, lt-ltb}
use Rattle.std.proofs.Math.Bool.{and-true}
use Rattle.bt_meta.specs.declared.block.Block.{Block}
use Rattle.bt_meta.specs.Layout.{piece_count}
use Rattle.bt_history.specs.declared.call.Reason.TheVariants.{LateBits}
use Rattle.bt_history.specs.declared.call.Reply.TheVariants.{Noted, Choked, PipeFull, Idle, NothingLeft}
use Rattle.bt_history.specs.declared.event.Action.{Action}
use Rattle.bt_history.specs.declared.event.Action.TheVariants.{Bits, Have, Next}
use Rattle.bt_history.specs.declared.event.Event.{Event}
use Rattle.bt_history.specs.Counting.{any_below, all_below, count_below}
use Rattle.bt_history.specs.Setting.{Setting, some_block_of, some_block, each_block, count_blocks}
use Rattle.bt_history.specs.History.{History, own_call, stored, cancelled}
use Rattle.bt_history.specs.Peers.{flag, joined, shows, is_open, asked_count, depth_of, due, resets}
use Rattle.bt_history.specs.Pieces.{held, held_or_asked, had, had_count, begun, unbegun, availability, wanted, awaited, endgame, gives, interesting, lacks}
use Rattle.bt_history.specs.Next.{Answer, Exactly, CancelOf, RequestOf, usable, is_candidate, is_strict, resumes, doubles, rushes, next_answer}
use Rattle.bt_history.specs.Legal.{first_cause, no_peer, no_count, refusal, answer, answer_unless, Permits, IsAllowed, IsLegal}
use Rattle.bt_history.specs.Before.{continues_before, goes_first_before, is_rarest_before, none_rarer_before, starts_before, next_before}
use Rattle.bt_history.specs.Before.{is_release, never_releases, is_depth, never_deepens, is_haves, never_adds, is_levelling, never_levels}
use Rattle.bt_history.specs.Before.{is_delay, is_reach, never_delays, never_reaches}
use Rattle.bt_history.specs.Before.{shows_before}
use Rattle.bt_history.specs.Plain.{plain_due, plain_held_or_asked, plain_begun, plain_unbegun, plain_availability, plain_wanted}
use Rattle.bt_history.specs.Plain.{plain_endgame, plain_lacks, plain_usable, plain_continues, plain_candidate, plain_rarest, plain_starts}
use Rattle.bt_history.specs.Plain.{plain_doubles, plain_next, plain_refusal, plain_answer, is_plain, IsAllowedBefore, IsLegalBefore}
use Rattle.bt_history.proofs.Before.{asked_as_before, doubles_as_before, shows_as_before, late_as_before}
use Rattle.bt_history.proofs.Delays.{asked_undelayed, candidate_as_undelayed, usable_as_undelayed}
use Rattle.bt_history.proofs.Depths.{depth_as_before}
use Rattle.bt_history.proofs.Flat.{answer_as_before, chosen_as_before, flat_bounded}
use Rattle.bt_history.proofs.NextCases.{next_cases, without_test}
use Rattle.bt_history.proofs.Opening.{unbounded}
use Rattle.bt_history.proofs.Reaching.{gives_full}
use Rattle.bt_history.proofs.Owning.{free_unowned}
use Rattle.bt_history.specs.Before.{is_loss, never_alone, never_loses, tells_alone}

-- no entry of the history is a later call
pub record IsPlain (h : History) : Type 0 where
  pub releases : never_releases h ≡ true
  pub depths : never_deepens h ≡ true
  pub adds : never_adds h ≡ true
  pub levels : never_levels h ≡ true
  pub reaches : never_reaches h ≡ true
  pub delays : never_delays h ≡ true
  pub alone : never_alone h ≡ true
  pub losses : never_loses h ≡ true

-- the rules have nothing that came with a later number: no bound on askers or on whom endgame asks, begun pieces first, and an endgame that
-- waits for all that is wanted
pub record AreOld (s : Setting) : Type 0 where
  pub wide : s.workers ≤ s.askers
  pub strict : s.most_open ≡ 0
  pub deep : s.depth ≤ s.rush
  pub all : s.shown ≡ false

-- of a plain history the newest call is plain, and so are the older ones
plain_newest : (e : Event) (h : History) → IsPlain (e ∷ h) → is_plain e.action ≡ true
unfolding never_releases never_deepens never_adds never_levels never_reaches never_delays never_alone never_loses
plain_newest e h plain =
    and_from (not (is_release e.action)) _ (and_parts _ (never_releases h) plain.releases).0
    (and_from (not (is_depth e.action)) _ (and_parts _ (never_deepens h) plain.depths).0
    (and_from (not (is_haves e.action)) _ (and_parts _ (never_adds h) plain.adds).0
    (and_from (not (is_levelling e.action)) _ (and_parts _ (never_levels h) plain.levels).0
    (and_from (not (is_reach e.action)) _ (and_parts _ (never_reaches h) plain.reaches).0
    (and_from (not (is_delay e.action)) _ (and_parts _ (never_delays h) plain.delays).0
    (and_from (not (tells_alone e.action)) (not (is_loss e.action)) (and_parts _ (never_alone h) plain.alone).0
    (and_parts _ (never_loses h) plain.losses).0))))))

plain_older : (e : Event) (h : History) → IsPlain (e ∷ h) → IsPlain h
unfolding never_releases never_deepens never_adds never_levels never_reaches never_delays never_alone never_loses
plain_older e h plain = record {
  releases = (and_parts (not (is_release e.action)) (never_releases h) plain.releases).1;
  depths = (and_parts (not (is_depth e.action)) (never_deepens h) plain.depths).1;
  adds = (and_parts (not (is_haves e.action)) (never_adds h) plain.adds).1;
  levels = (and_parts (not (is_levelling e.action)) (never_levels h) plain.levels).1;
  reaches = (and_parts (not (is_reach e.action)) (never_reaches h) plain.reaches).1;
  delays = (and_parts (not (is_delay e.action)) (never_delays h) plain.delays).1;
  alone = (and_parts (not (tells_alone e.action)) (never_alone h) plain.alone).1;
  losses = (and_parts (not (is_loss e.action)) (never_loses h) plain.losses).1;
}

due_is_plain : (h : History) (q : ℕ) (b : Block) → never_releases h ≡ true → due h q b ≡ plain_due h q b
unfolding due plain_due never_releases
due_is_plain [] q b never = refl
due_is_plain (e ∷ h) q b never =
    let older = (and_parts (not (is_release e.action)) (never_releases h) never).1 in
    λ i. not (resets (own_call q e)) && (not (cancelled q e b)
    && (due_is_plain h q b older i || (is_some (stored e b) && (not (e.worker == q) && asked_as_before h q b older i))))

module _ (s : Setting) (h : History) (plain : IsPlain h) where
  -- ---- peers, blocks and pieces

  some_asked : (b : Block) → held_or_asked s h b ≡ plain_held_or_asked s h b
  some_asked b =
      (λ i. held h b || asked_undelayed h plain.delays s b i)
      ∙ (λ i. held h b || any_below s.workers (λ q. asked_as_before h q b plain.releases i))

  begun_plain : (p : ℕ) → begun s h p ≡ plain_begun s h p
  begun_plain p = λ i. not (had h p) && some_block_of s.torrent p (λ b. some_asked b i)

  unbegun_plain : (p : ℕ) → unbegun s h p ≡ plain_unbegun s h p
  unbegun_plain p = λ i. not (had h p) && not (some_block_of s.torrent p (λ b. some_asked b i))

  availability_plain : (p : ℕ) → availability s h p ≡ plain_availability s h p
  availability_plain p = λ i. count_below s.workers (λ q. joined h q && shows_as_before h q p plain.adds i)

  wanted_plain : (p : ℕ) → wanted s h p ≡ plain_wanted s h p
  wanted_plain p = λ i. nat_lt p (piece_count s.torrent) && chosen_as_before h p plain.levels i

  awaited_plain : s.shown ≡ false → (p : ℕ) → awaited s h p ≡ plain_wanted s h p
  awaited_plain all p = (λ i. wanted_plain p i && (not (all i) || nat_lt 0 (availability s h p))) ∙ and-true (plain_wanted s h p)

  endgame_plain : s.shown ≡ false → endgame s h ≡ plain_endgame s h
  endgame_plain all = λ i.
      each_block s.torrent (λ b. not (awaited_plain all b.piece i) || some_asked b i)
      && some_block s.torrent (λ b. wanted_plain b.piece i && not (held h b))

  lacks_plain : (shown older : ℕ → Bool) → ((p : ℕ) → shown p ≡ older p) → lacks s h shown ≡ plain_lacks s h older
  lacks_plain shown older same = λ i. any_below (piece_count s.torrent) (λ p. wanted_plain p i && (same p i && not (had h p)))

  -- ---- the answer to Next

  gives_plain : (q p : ℕ) → gives h q p ≡ shows_before h q p
  gives_plain q p = gives_full h q p plain.reaches (flat_bounded h p plain.levels) ∙ shows_as_before h q p plain.adds

  usable_plain : (q : ℕ) (b : Block) → usable s h q b ≡ plain_usable s h q b
  usable_plain q b =
      usable_as_undelayed h plain.delays s q b
      ∙ (λ i. not (some_asked b i) && (wanted_plain b.piece i && (gives_plain q b.piece i && free_unowned h plain.alone s q b.piece i)))
      ∙ (λ i. not (plain_held_or_asked s h b) && (plain_wanted s h b.piece && and-true (shows_before h q b.piece) i))

  candidate_plain : (q p : ℕ) → is_candidate s h q p ≡ plain_candidate s h q p
  candidate_plain q p =
      candidate_as_undelayed h plain.delays s q p ∙ (λ i. wanted_plain p i && (shows_as_before h q p plain.adds i && unbegun_plain p i))

  rarest_plain : (q p : ℕ) → is_rarest_before s h q p ≡ plain_rarest s h q p
  rarest_plain q p = λ i. all_below (piece_count s.torrent) (λ r.
      not (candidate_plain q r i) || nat_le (availability_plain p i) (availability_plain r i))

  starts_plain : (q : ℕ) (b : Block) → starts_before s h q b ≡ plain_starts s h q b
  starts_plain q b = λ i.
      usable_plain q b i && (unbegun_plain b.piece i
      && (nat_lt (had_count s h) s.random || rarest_plain q b.piece i))

  module _ (q : ℕ) (lt : q < s.workers) (old : AreOld s) where
    continues_plain : (b : Block) → continues_before s h q b ≡ plain_continues s h q b
    continues_plain b =
        (λ i. usable_plain q b i && (begun_plain b.piece i && goes_first_before s h q b.piece))
        ∙ (λ i. plain_usable s h q b && unbounded s.most_open (plain_begun s h b.piece)
        (none_rarer_before s h (resumes s h q) b.piece && (is_strict s h || is_rarest_before s h q b.piece)) old.strict i)

    doubles_plain : (b : Block) → doubles s h q b ≡ plain_doubles s h q b
    doubles_plain b = doubles_as_before s h q b lt old.wide ∙ (λ i.
        wanted_plain b.piece i && (gives_plain q b.piece i && (not (held h b) && not (asked_as_before h q b plain.releases i))))

    -- whom endgame asks makes no difference: a peer's pipe is full before it is asked for too many
    few_plain : nat_le (depth_of s h q) (asked_count s h q) ≡ false → rushes s h q ≡ true
    few_plain room =
        let less = leb-false (depth_of s h q) (asked_count s h q) room in
        let depth = depth_as_before s h q plain.depths in
        let deep = old.deep in
        lt-ltb (asked_count s h q) s.rush (omega (arith, less, depth, deep))

    next_plain : next_answer s h q ≡ plain_next s h q
    unfolding next_before next_cases plain_next
    next_plain = answer_as_before s h q plain.levels
        ∙ without_test (rushes s h q) (some_block s.torrent (due h q)) (is_open h q) (nat_le (depth_of s h q) (asked_count s h q)) false
        (some_block s.torrent (continues_before s h q)) (some_block s.torrent (usable s h q))
        (endgame s h && some_block s.torrent (doubles s h q)) (interesting s h q)
        (due h q) (usable s h q) (continues_before s h q) (starts_before s h q) (doubles s h q) few_plain
        ∙ (λ i.
        if some_block s.torrent (λ b. due_is_plain h q b plain.releases i) then CancelOf (λ b. due_is_plain h q b plain.releases i)
        else if not (is_open h q) then Exactly Choked
        else if nat_le (depth_as_before s h q plain.depths i) (count_blocks s.torrent (λ b. asked_as_before h q b plain.releases i)) then Exactly PipeFull
        else if some_block s.torrent (λ b. continues_plain b i) then RequestOf (λ b. continues_plain b i)
        else if some_block s.torrent (λ b. usable_plain q b i) then RequestOf (λ b. starts_plain q b i)
        else if endgame_plain old.all i && some_block s.torrent (λ b. doubles_plain b i) then RequestOf (λ b. doubles_plain b i)
        else if lacks_plain (shows h q) _ (λ p. shows_as_before h q p plain.adds) i then Exactly Idle
        else Exactly NothingLeft)

    -- ---- each call

    refusal_plain : (call : Action) → refusal s h q call ≡ plain_refusal s h q call
    unfolding plain_refusal
    refusal_plain (Bits flags) = λ i. first_cause (no_peer h q ∷ (late_as_before h q plain.adds i, LateBits) ∷ no_count s flags ∷ [])
    refusal_plain _ = refl

    answer_plain : (call : Action) → answer s h q call ≡ plain_answer s h q call
    unfolding plain_answer
    answer_plain (Bits flags) = λ i. Exactly (Noted (lacks_plain (λ p. flag flags p) (λ p. flag flags p) (λ p. refl) i))
    answer_plain (Have p) = λ i. Exactly (Noted (lacks_plain (λ r. (p == r) || shows h q r) _ (λ r. λ j. (p == r) || shows_as_before h q r plain.adds j) i))
    answer_plain (Next word) = next_plain
    answer_plain _ = refl

-- ---- whole histories

module _ (s : Setting) (old : AreOld s) where
  -- what is permitted is the same
  answers_plain : (h : History) (e : Event) → IsPlain h → e.worker < s.workers
      → answer_unless (refusal s h e.worker e.action) (answer s h e.worker e.action)
      ≡ answer_unless (plain_refusal s h e.worker e.action) (plain_answer s h e.worker e.action)
  answers_plain h e plain lt = λ i.
      answer_unless (refusal_plain s h plain e.worker lt old e.action i) (answer_plain s h plain e.worker lt old e.action i)

  allowed_plain : (h : History) (e : Event) → IsPlain (e ∷ h) → IsAllowed s h e ↔ IsAllowedBefore s h e
  unfolding IsAllowed IsAllowedBefore
  allowed_plain h e plain = (
    λ now. (
      plain_newest e h plain,
      now.0,
      subst (λ (a : Answer). Permits s.torrent a e.reply) (answers_plain h e (plain_older e h plain) now.0) now.1,
    ),
    λ before. (before.1, subst (λ (a : Answer). Permits s.torrent a e.reply) (sym (answers_plain h e (plain_older e h plain) before.1)) before.2),
  )

  pub legal_plain : (h : History) → IsPlain h → IsLegal s h ↔ IsLegalBefore s h
  legal_plain [] plain = (λ now. tt, λ before. tt)
  legal_plain (e ∷ h) plain =
      let older = legal_plain h (plain_older e h plain) in
      let newest = allowed_plain h e plain in
      (λ now. (older.0 now.0, newest.0 now.1), λ before. (older.1 before.0, newest.1 before.1))
