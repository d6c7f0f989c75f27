-- The rule that a request tells is the one that it is by.
use Rattle.std.proofs.Common.{◌≡◌, ◌≢◌, ◌⊎◌, ℕ, ◌+◌, ◌*◌, ◌==◌, ◌<◌, Bool, true, false, not, ◌&&◌, ◌||◌, List, [], ◌∷◌, None, Some, refl, ap, sym, ◌∙◌}
use Rattle.std.proofs.Common.{arith, ⊎_elim, subst}
use Rattle.std.proofs.Math.Bool.{or-false}
use Rattle.std.specs.Prelude.{if◌then◌else◌, nat_lt}
use Rattle.std.specs.List.{list_any}
use Rattle.std.proofs.lemmas.Bool.{and_from, and_parts, cases_Bool, eq-eqb, eqb-true, false≢true, false_from_ne_true, le-ltb, lt-ltb, ne_eqb, not-false}
use Rattle.std.proofs.lemmas.Bool.{not-true, or_from, or_parts, or_right}
use Rattle.bt_meta.specs.declared.block.Block.{Block}
use Rattle.bt_meta.specs.Layout.{piece_count, block_count, block, block_size}
use Rattle.bt_history.specs.declared.call.Reply.{Reply}
use Rattle.bt_history.specs.declared.call.Reply.TheVariants.{Request}
use Rattle.bt_history.specs.declared.event.Action.TheVariants.{Next}
use Rattle.bt_history.specs.declared.event.Event.{Event}
use Rattle.bt_history.specs.Counting.{any_below, count_below}
use Rattle.bt_history.specs.Setting.{Setting, is_block, some_block, some_block_of}
use Rattle.bt_history.specs.History.{History, same_begin}
use Rattle.bt_history.specs.Peers.{asked, delays, expected, overdue, releases, resets, shows}
use Rattle.bt_history.specs.Pieces.{asked_of_some, asker_count, begun, comes_in_order, endgame, gives, had, had_count, held, held_or_asked, kept, level}
use Rattle.bt_history.specs.Pieces.{is_late_at_some, order_from, unasked, unbegun, wanted}
use Rattle.bt_history.specs.Next.{Answer, continues, doubles, is_rarest, rises, rushes, starts, tops, tops_in_order, usable}
use Rattle.bt_history.specs.PickRules.{IsBy, rule_by, rule_of, touched_count}
use Rattle.bt_history.specs.Legal.{IsAllowed, IsLegal, Permits}
use Rattle.bt_history.specs.Logs.{answers, call_mark}
use Rattle.bt_history.proofs.Allowed.{next_alone, request_facts, request_next, top_usable, worker_below, allowed_answers}
use Rattle.bt_history.proofs.Below.{any_fails, any_found, any_same, any_witness, count_at, count_found, count_none, one_if}
use Rattle.bt_history.proofs.Delays.{unasked_in_time}
use Rattle.bt_history.proofs.Endgame.{shown_awaited}
use Rattle.bt_history.proofs.HeldLaws.{endgame_asks_all}
use Rattle.bt_history.proofs.Levels.{none_in_order}
use Rattle.bt_history.proofs.LineLaws.{block_index, some_found}
use Rattle.bt_history.proofs.NextCases.{next_is, next_request}
use Rattle.bt_history.proofs.SameBegin.{same_begin_self}

module _ (s : Setting) (h : History) (w word : ℕ) (b : Block) where
  -- the entry
  abbrev e : Event
  e = record { worker = w; action = Next word; reply = Request b }

  -- what is asked then
  asked_then : (r : ℕ) (c : Block) → asked (e ∷ h) r c ≡ (asked h r c || ((w == r) && same_begin b c))
  unfolding asked
  asked_then r c = by_worker (w == r) where
    by_worker : (x : Bool) → (not (resets (if x then Some (Next word) else None))
        && (((true && not (releases (if x then Some (Next word) else None) c)) && asked h r c)
        || list_any (λ a. same_begin a c) (if◌then◌else◌ {A = List Block} x (b ∷ []) [])))
        ≡ (asked h r c || (x && same_begin b c))
    by_worker true = ap (λ (x : Bool). asked h r c || x) (or-false (same_begin b c))
    by_worker false = refl

  -- nobody is late that wasn't
  overdue_then : (r : ℕ) (c : Block) → overdue (e ∷ h) r c ≡ overdue h r c
  unfolding overdue
  overdue_then r c = by_worker (w == r) where
    by_worker : (x : Bool) → (not (resets (if x then Some (Next word) else None))
        && ((true && not (releases (if x then Some (Next word) else None) c))
        && ((delays (if x then Some (Next word) else None) c && asked h r c) || overdue h r c))) ≡ overdue h r c
    by_worker true = refl
    by_worker false = refl

  -- of another peer the same is expected
  expected_then : (r : ℕ) (c : Block) → ((w == r) && same_begin b c) ≡ false → expected (e ∷ h) r c ≡ expected h r c
  expected_then r c other = λ i. (asked_then r c ∙ ap (λ (x : Bool). asked h r c || x) other ∙ or-false (asked h r c)) i && not (overdue_then r c i)

  -- and the block of the peer itself, if it wasn't asked before
  expected_own : asked h w b ≡ false → expected (e ∷ h) w b ≡ true
  expected_own not_asked = and_from (asked (e ∷ h) w b) (not (overdue (e ∷ h) w b))
      (asked_then w b ∙ or_right (asked h w b) ((w == w) && same_begin b b)
      (and_from (w == w) (same_begin b b) (eq-eqb w w refl) (same_begin_self b)))
      (ap not (overdue_then w b ∙ unasked_in_time h w b not_asked))

  late_then : is_late_at_some s (e ∷ h) b ≡ is_late_at_some s h b
  late_then = λ i. any_below s.workers (λ r. overdue_then r b i)

  held_then : (c : Block) → held (e ∷ h) c ≡ held h c
  unfolding kept
  held_then c = refl

  had_then : (p : ℕ) → had (e ∷ h) p ≡ had h p
  unfolding had
  had_then p = refl

  ordered_then : comes_in_order (e ∷ h) b.piece ≡ comes_in_order h b.piece
  unfolding order_from level
  ordered_then = refl

  random_then : nat_lt (had_count s (e ∷ h)) s.random ≡ nat_lt (had_count s h) s.random
  random_then = λ i. nat_lt (count_below (piece_count s.torrent) (λ p. had_then p i)) s.random

  module _ (lw : w < s.workers) where
    -- one peer more is asked for the block
    askers_then : asked h w b ≡ false → asker_count s (e ∷ h) b ≡ asker_count s h b + 1
    askers_then not_asked =
        let at = count_at s.workers (λ r. expected h r b) (λ r. expected (e ∷ h) r b) w lw (λ r lr apart.
        sym (expected_then r b (ap (λ (x : Bool). x && same_begin b b) (ne_eqb w r (λ same. apart (sym same)))))) in
        let zero_w : one_if (expected h w b) ≡ 0 = ap one_if (ap (λ (x : Bool). x && not (overdue h w b)) not_asked) in
        let one_w : one_if (expected (e ∷ h) w b) ≡ 1 = ap one_if (expected_own not_asked) in
        omega (arith, at, zero_w, one_w)

    -- the block is touched, and each other one is as it was
    touched_here : asked h w b ≡ false → held_or_asked s (e ∷ h) b ≡ true
    touched_here not_asked = or_right (held (e ∷ h) b) (asked_of_some s (e ∷ h) b)
        (any_found s.workers (λ r. expected (e ∷ h) r b) w lw (expected_own not_asked))

    touched_there : (c : Block) → same_begin b c ≡ false → held_or_asked s (e ∷ h) c ≡ held_or_asked s h c
    touched_there c other = λ i. held_then c i || any_same s.workers (λ r. expected (e ∷ h) r c) (λ r. expected h r c) (λ r lr.
        expected_then r c (ap (λ (x : Bool). (w == r) && x) other ∙ none (w == r))) i
      where
        none : (x : Bool) → (x && false) ≡ false
        none true = refl
        none false = refl

    -- of its piece one block more is touched
    more_touched : is_block s.torrent b ≡ true → asked h w b ≡ false → held_or_asked s h b ≡ false
        → touched_count s (e ∷ h) b.piece ≡ touched_count s h b.piece + 1
    more_touched inside not_asked free =
        let at = block_index s.torrent b inside in
        let p = b.piece in
        let before : ℕ → Bool = λ k. held_or_asked s h (block s.torrent p k) in
        let after : ℕ → Bool = λ k. held_or_asked s (e ∷ h) (block s.torrent p k) in
        let counted = count_at (block_count s.torrent p) before after at.index at.within (λ k lk apart.
        sym (touched_there (block s.torrent p k) (elsewhere at.index k at.is apart))) in
        let was : one_if (before at.index) ≡ 0 = ap one_if (ap (held_or_asked s h) (sym at.is) ∙ free) in
        let now : one_if (after at.index) ≡ 1 = ap one_if (ap (held_or_asked s (e ∷ h)) (sym at.is) ∙ touched_here not_asked) in
        omega (arith, counted, was, now)
      where
        elsewhere : (i k : ℕ) → b ≡ block s.torrent b.piece i → k ≢ i → same_begin b (block s.torrent b.piece k) ≡ false
        elsewhere i k is apart = false_from_ne_true (same_begin b (block s.torrent b.piece k)) (λ same.
            let begins = eqb-true b.begin (block_size * k) (and_parts (b.piece == b.piece) (b.begin == block_size * k) same).1 in
            let own : b.begin ≡ block_size * i = ap (λ (c : Block). c.begin) is in
            apart (omega (arith, begins, own)))

    module _ (legal : IsLegal s h) (allowed : IsAllowed s h e) where
      -- what another peer is asked for already comes of endgame
      second_by : asked_of_some s h b ≡ true → (rises s h w b ≡ true) ⊎ ((continues s h w b ≡ true) ⊎ ((starts s h w b ≡ true) ⊎
          (((rushes s h w && (endgame s h && some_block s.torrent (doubles s h w))) ≡ true) × (doubles s h w b ≡ true))))
          → (endgame s h ≡ true) × (doubles s h w b ≡ true)
      second_by some kind = ⊎_elim
          (λ (up : rises s h w b ≡ true). from_top (and_parts (tops s h w b) _ up).0)
          (λ others. ⊎_elim
          (λ (on : continues s h w b ≡ true). from_top (and_parts (tops s h w b) _ on).0)
          (λ rest. ⊎_elim
          (λ (first : starts s h w b ≡ true). from_top (and_parts (tops s h w b) _ first).0)
          (λ (both : ((rushes s h w && (endgame s h && some_block s.torrent (doubles s h w))) ≡ true) × (doubles s h w b ≡ true)).
          ((and_parts (endgame s h) _ (and_parts (rushes s h w) _ both.0).1).0, both.1))
          rest)
          others)
          kind
        where
          from_top : tops s h w b ≡ true → (endgame s h ≡ true) × (doubles s h w b ≡ true)
          from_top top =
              let free = not-true (held_or_asked s h b) (and_parts (unasked s h b) _ (top_usable s h w b top)).0 in
              absurd (false≢true (sym (or_parts (held h b) (asked_of_some s h b) free).1 ∙ some))

      -- what nobody is asked for tops
      first_tops : asked_of_some s h b ≡ false → (rises s h w b ≡ true) ⊎ ((continues s h w b ≡ true) ⊎ ((starts s h w b ≡ true) ⊎
          (((rushes s h w && (endgame s h && some_block s.torrent (doubles s h w))) ≡ true) × (doubles s h w b ≡ true))))
          → is_block s.torrent b ≡ true → held h b ≡ false → tops s h w b ≡ true
      first_tops none kind inside lacking = ⊎_elim
          (λ (up : rises s h w b ≡ true). (and_parts (tops s h w b) _ up).0)
          (λ others. ⊎_elim
          (λ (on : continues s h w b ≡ true). (and_parts (tops s h w b) _ on).0)
          (λ rest. ⊎_elim
          (λ (first : starts s h w b ≡ true). (and_parts (tops s h w b) _ first).0)
          (λ (both : ((rushes s h w && (endgame s h && some_block s.torrent (doubles s h w))) ≡ true) × (doubles s h w b ≡ true)).
          let ending = (and_parts (endgame s h) _ (and_parts (rushes s h w) _ both.0).1).0 in
          let wants = and_parts (wanted s h b.piece) _ both.1 in
          let shown = (and_parts (shows h w b.piece) _ (and_parts (gives h w b.piece) _ wants.1).0).0 in
          let waits = shown_awaited s h w b.piece legal lw shown wants.0 in
          let taken = not-true-unasked (endgame_asks_all s h b ending inside waits) in
          absurd (false≢true (sym (or_from (held h b) (asked_of_some s h b) lacking none) ∙ taken)))
          rest)
          others)
          kind
        where
          not-true-unasked : unasked s h b ≡ false → held_or_asked s h b ≡ true
          not-true-unasked is = not-false (held_or_asked s h b) is

      -- the rule by the five tests before the entry
      by_tests : (doubled delayed ordered on random : Bool) → nat_lt 1 (asker_count s (e ∷ h) b) ≡ doubled → is_late_at_some s h b ≡ delayed
          → comes_in_order h b.piece ≡ ordered → nat_lt 1 (touched_count s (e ∷ h) b.piece) ≡ on → nat_lt (had_count s h) s.random ≡ random
          → IsBy s h w b (rule_by doubled delayed ordered on random) → IsBy s h w b (rule_of s (e ∷ h) b)
      by_tests doubled delayed ordered on random d l o t r is = subst (IsBy s h w b) (λ i.
          rule_by (sym d i) ((sym l ∙ sym late_then) i) ((sym o ∙ sym ordered_then) i) (sym t i) ((sym r ∙ sym random_then) i)) is

      pub told_rule : IsBy s h w b (rule_of s (e ∷ h) b)
      told_rule =
          let permitted = request_next s h e b allowed refl in
          let facts = request_facts s h e b allowed refl in
          let asking = next_request s.torrent _ _ _ _ _ _ _ _ _ _ _ _ _ b
          (subst (λ (a : Answer). Permits s.torrent a (Request b)) (next_is s h w) permitted) in
          ⊎_elim
          (λ (some : asked_of_some s h b ≡ true).
          let ending = second_by some asking.kind in
          let other = any_witness s.workers (λ r. expected h r b) some in
          let one = count_found s.workers (λ r. expected h r b) other.0 other.1 other.2 in
          let more = askers_then facts.not_asked in
          subst (IsBy s h w b) (λ i. rule_by (sym (lt-ltb 1 (asker_count s (e ∷ h) b) (omega (arith, one, more))) i) (is_late_at_some s (e ∷ h) b) (comes_in_order (e ∷ h) b.piece)
          (nat_lt 1 (touched_count s (e ∷ h) b.piece)) (nat_lt (had_count s (e ∷ h)) s.random)) ending)
          (λ (none : asked_of_some s h b ≡ false).
          let top = first_tops none asking.kind facts.block facts.not_held in
          let nobody = count_none s.workers (λ r. expected h r b) (λ r lr. any_fails s.workers (λ v. expected h v b) r none lr) in
          let more = askers_then facts.not_asked in
          let alone : nat_lt 1 (asker_count s (e ∷ h) b) ≡ false = le-ltb 1 (asker_count s (e ∷ h) b) (omega (arith, nobody, more)) in
          let touched = more_touched facts.block facts.not_asked (or_from (held h b) (asked_of_some s h b) facts.not_held none) in
          ⊎_elim
          (λ (delayed : is_late_at_some s h b ≡ true).
          by_tests false true (comes_in_order h b.piece) (nat_lt 1 (touched_count s (e ∷ h) b.piece)) (nat_lt (had_count s h) s.random) alone delayed
          refl refl refl (top_usable s h w b top, delayed))
          (λ (in_time : is_late_at_some s h b ≡ false).
          ⊎_elim
          (λ (ordered : comes_in_order h b.piece ≡ true).
          let up = asking.rising (some_found s.torrent (tops_in_order s h w) b facts.block
          (and_from (tops s h w b) (comes_in_order h b.piece) top ordered)) in
          by_tests false false true (nat_lt 1 (touched_count s (e ∷ h) b.piece)) (nat_lt (had_count s h) s.random) alone in_time ordered refl refl (up, ordered))
          (λ (unordered : comes_in_order h b.piece ≡ false).
          ⊎_elim (λ (goes : continues s h w b ≡ true). going goes alone in_time unordered touched)
          (λ rest. ⊎_elim
          (λ (begins : (some_block s.torrent (continues s h w) ≡ false) × (starts s h w b ≡ true)). starting begins.1 alone in_time unordered touched)
          (λ (unusable : some_block s.torrent (usable s h w) ≡ false).
          absurd (false≢true (sym unusable ∙ some_found s.torrent (usable s h w) b facts.block (top_usable s h w b top))))
          rest)
          (asking.unordered (none_in_order s h w b permitted unordered)))
          (cases_Bool (comes_in_order h b.piece)))
          (cases_Bool (is_late_at_some s h b)))
          (cases_Bool (asked_of_some s h b))
        where
          going : continues s h w b ≡ true → nat_lt 1 (asker_count s (e ∷ h) b) ≡ false → is_late_at_some s h b ≡ false → comes_in_order h b.piece ≡ false
              → touched_count s (e ∷ h) b.piece ≡ touched_count s h b.piece + 1 → IsBy s h w b (rule_of s (e ∷ h) b)
          going goes alone in_time unordered touched =
              let p = b.piece in
              let on = (and_parts (begun s h p) _ (and_parts (tops s h w b) _ goes).1).0 in
              let some = (and_parts (not (had h p)) (some_block_of s.torrent p (held_or_asked s h)) on).1 in
              let one = any_witness (block_count s.torrent p) (λ k. held_or_asked s h (block s.torrent p k)) some in
              let least = count_found (block_count s.torrent p) (λ k. held_or_asked s h (block s.torrent p k)) one.0 one.1 one.2 in
              by_tests false false false true (nat_lt (had_count s h) s.random) alone in_time unordered
              (lt-ltb 1 (touched_count s (e ∷ h) p) (omega (arith, touched, least))) refl goes

          starting : starts s h w b ≡ true → nat_lt 1 (asker_count s (e ∷ h) b) ≡ false → is_late_at_some s h b ≡ false → comes_in_order h b.piece ≡ false
              → touched_count s (e ∷ h) b.piece ≡ touched_count s h b.piece + 1 → IsBy s h w b (rule_of s (e ∷ h) b)
          starting begins alone in_time unordered touched =
              let p = b.piece in
              let parts = and_parts (unbegun s h p) (nat_lt (had_count s h) s.random || is_rarest s h w p) (and_parts (tops s h w b) _ begins).1 in
              let none = not-true (some_block_of s.torrent p (held_or_asked s h))
              (and_parts (not (had h p)) (not (some_block_of s.torrent p (held_or_asked s h))) parts.0).1 in
              let zero_before = count_none (block_count s.torrent p) (λ k. held_or_asked s h (block s.torrent p k))
              (λ k lk. any_fails (block_count s.torrent p) (λ j. held_or_asked s h (block s.torrent p j)) k none lk) in
              let fresh : nat_lt 1 (touched_count s (e ∷ h) p) ≡ false = le-ltb 1 (touched_count s (e ∷ h) p) (omega (arith, touched, zero_before)) in
              ⊎_elim
              (λ (many : nat_lt (had_count s h) s.random ≡ true). by_tests false false false false true alone in_time unordered fresh many (begins, many))
              (λ (few : nat_lt (had_count s h) s.random ≡ false).
              by_tests false false false false false alone in_time unordered fresh few
              (begins, sym (ap (λ (x : Bool). x || is_rarest s h w p) few) ∙ parts.1))
              (cases_Bool (nat_lt (had_count s h) s.random))

-- a request tells the rule that it is by
pub rule_told : (s : Setting) (h : History) (x : Event) (b : Block) → IsLegal s h → IsAllowed s h x → x.reply ≡ Request b
    → IsBy s h x.worker b (rule_of s (x ∷ h) b)
rule_told s h x b legal allowed is =
    let call = next_alone x.action b (subst (λ (r : Reply). answers (call_mark x.action) r ≡ true) is (allowed_answers s h x allowed)) in
    let same : x ≡ e s h x.worker call.0 b = λ i. record { worker = x.worker; action = call.1 i; reply = is i } in
    subst (λ (y : Event). IsBy s h x.worker b (rule_of s (y ∷ h) b)) (sym same)
    (told_rule s h x.worker call.0 b (worker_below s h x allowed) legal (subst (IsAllowed s h) same allowed))
