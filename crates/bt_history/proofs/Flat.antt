-- Histories that give pieces no level and no order are judged as they were before there were these.
use Rattle.std.proofs.Common.{◌≡◌, ℕ, ◌+◌, ◌==◌, ◌≤◌, Bool, true, false, not, ◌&&◌, ◌||◌, [], ◌∷◌, None, Some, refl, ap, sym, ◌∙◌, arith}
use Rattle.std.proofs.Common.{⊎_elim}
use Rattle.std.specs.Prelude.{if◌then◌else◌, nat_lt, nat_le}
use Rattle.std.proofs.lemmas.Bool.{and_parts, and_left, and_right, and_from, or_left, or_right, not-true, eq-eqb, le-leb, cases_Bool}
use Rattle.bt_meta.specs.declared.block.Block.{Block}
use Rattle.bt_meta.specs.Layout.{piece_count, block_count, block}
use Rattle.bt_history.specs.declared.call.Reply.TheVariants.{Choked, PipeFull, Idle, NothingLeft}
use Rattle.bt_history.specs.declared.event.Action.{Action}
use Rattle.bt_history.specs.declared.event.Action.TheVariants.{Want, Level, Levels, InOrder, InOrderFrom}
use Rattle.bt_history.specs.declared.rules.TheConstants.{MOST_LEVEL, USUAL_LEVEL}
use Rattle.bt_history.specs.Setting.{Setting, some_block, some_block_of, each_block_of}
use Rattle.bt_history.specs.History.{History, counts, counted_call}
use Rattle.bt_history.specs.Peers.{is_open, asked_count, depth_of, due}
use Rattle.bt_history.specs.Pieces.{unasked, wanted, chosen, level, level_after, level_if, comes_in_order, order_from, order_after}
use Rattle.bt_history.specs.Pieces.{begun, unbegun, availability, endgame, interesting, had_count}
use Rattle.bt_history.specs.Next.{Exactly, CancelOf, RequestOf, usable, tops, is_candidate, is_strict, none_rarer, resumes, continues, starts, rises}
use Rattle.bt_history.specs.Next.{doubles, rushes, tops_in_order, next_answer}
use Rattle.bt_history.specs.Before.{chosen_then, chosen_before, none_rarer_before, continues_before, starts_before, next_before, is_levelling}
use Rattle.bt_history.specs.Before.{never_levels}
use Rattle.bt_history.proofs.Below.{all_found, all_same, any_none}
use Rattle.bt_history.specs.Pieces.{is_open_piece}

-- ---- one level

level_same : (call : Action) (x : Bool) (p : ℕ) (before : Bool) → is_levelling call ≡ false
    → level_after (if x then Some call else None) p (level_if before) ≡ level_if (chosen_then (if x then Some call else None) p before)
level_same call false p before isnt = refl
level_same (Want flags) true p before isnt = refl
level_same (Level piece n) true p before isnt = absurd (cc isnt)
level_same (Levels levels) true p before isnt = absurd (cc isnt)
level_same call true p before isnt = refl

order_same : (call : Action) (x : Bool) (before : ℕ) → is_levelling call ≡ false → order_after (if x then Some call else None) before ≡ before
order_same call false before isnt = refl
order_same (InOrder rising) true before isnt = absurd (cc isnt)
order_same (InOrderFrom n) true before isnt = absurd (cc isnt)
order_same call true before isnt = refl

-- each chosen piece is of the usual level
level_flat : (h : History) (p : ℕ) → never_levels h ≡ true → level h p ≡ level_if (chosen_before h p)
unfolding level chosen_before never_levels
level_flat [] p never = refl
level_flat (e ∷ h) p never =
    let parts = and_parts (not (is_levelling e.action)) (never_levels h) never in
    ap (level_after (counted_call e) p) (level_flat h p parts.1)
    ∙ level_same e.action (counts e.reply) p (chosen_before h p) (not-true (is_levelling e.action) parts.0)

most_usual : (chosen : Bool) → level_if chosen ≤ MOST_LEVEL
most_usual true = omega arith
most_usual false = omega arith

-- no level is beyond the highest
pub flat_bounded : (h : History) (p : ℕ) → never_levels h ≡ true → level h p ≤ MOST_LEVEL
flat_bounded h p never = (let same = level_flat h p never in let most = most_usual (chosen_before h p) in omega (arith, same, most))

unordered : (h : History) → never_levels h ≡ true → order_from h ≡ MOST_LEVEL + 1
unfolding order_from never_levels
unordered [] never = refl
unordered (e ∷ h) never =
    let parts = and_parts (not (is_levelling e.action)) (never_levels h) never in
    ap (order_after (counted_call e)) (unordered h parts.1)
    ∙ order_same e.action (counts e.reply) (MOST_LEVEL + 1) (not-true (is_levelling e.action) parts.0)

beyond_usual : (chosen : Bool) → nat_le (MOST_LEVEL + 1) (level_if chosen) ≡ false
beyond_usual true = refl
beyond_usual false = refl

-- so no piece comes in order
none_ordered : (h : History) (p : ℕ) → never_levels h ≡ true → comes_in_order h p ≡ false
none_ordered h p never = (λ i. nat_le (unordered h never i) (level_flat h p never i)) ∙ beyond_usual (chosen_before h p)

above_none : (chosen : Bool) → nat_lt 0 (level_if chosen) ≡ chosen
above_none true = refl
above_none false = refl

pub chosen_as_before : (h : History) (p : ℕ) → never_levels h ≡ true → chosen h p ≡ chosen_before h p
chosen_as_before h p never = ap (nat_lt 0) (level_flat h p never) ∙ above_none (chosen_before h p)

-- ---- the answers where all wanted pieces are of the usual level

-- tests that agree below n
module _ (s : Setting) (h : History) (q : ℕ) (never : never_levels h ≡ true) where
  flat : (p : ℕ) → wanted s h p ≡ true → level h p ≡ USUAL_LEVEL
  flat p wants =
      level_flat h p never ∙ ap level_if (sym (chosen_as_before h p never) ∙ (and_parts (nat_lt p (piece_count s.torrent)) (chosen h p) wants).1)

  -- the piece of a usable block is wanted
  usable_wanted : (b : Block) → usable s h q b ≡ true → wanted s h b.piece ≡ true
  usable_wanted b is = (and_parts (wanted s h b.piece) _ (and_parts (unasked s h b) _ is).1).0

  tops_flat : (b : Block) → tops s h q b ≡ usable s h q b
  tops_flat b = by_usable (usable s h q b) refl where
    by_usable : (x : Bool) → usable s h q b ≡ x → tops s h q b ≡ x
    by_usable false is = and_left (usable s h q b) _ is
    by_usable true is = and_from (usable s h q b) _ is
        (all_found (piece_count s.torrent) (λ p. each_block_of s.torrent p (λ c. not (usable s h q c) || nat_le (level h c.piece) (level h b.piece)))
        (λ p lp. all_found (block_count s.torrent p)
        (λ k. not (usable s h q (block s.torrent p k)) || nat_le (level h p) (level h b.piece))
        (λ k lk. ⊎_elim
        (λ (fits : usable s h q (block s.torrent p k) ≡ true).
        let own = flat b.piece (usable_wanted b is) in
        let other = flat p (usable_wanted (block s.torrent p k) fits) in
        or_right (not (usable s h q (block s.torrent p k))) (nat_le (level h p) (level h b.piece))
        (le-leb (level h p) (level h b.piece) (omega (arith, own, other))))
        (λ (fails : usable s h q (block s.torrent p k) ≡ false).
        or_left (not (usable s h q (block s.torrent p k))) (nat_le (level h p) (level h b.piece)) (ap not fails))
        (cases_Bool (usable s h q (block s.torrent p k))))))

  -- among wanted pieces the rarest are so whatever their levels
  rarer_flat : (test : ℕ → Bool) → ((r : ℕ) → test r ≡ true → wanted s h r ≡ true) → (p : ℕ) → wanted s h p ≡ true
      → none_rarer s h test p ≡ none_rarer_before s h test p
  rarer_flat test wanting p wants = all_same (piece_count s.torrent) _ _ (λ r lr. ⊎_elim
      (λ (fits : test r ≡ true).
      let same : (level h r == level h p) ≡ true = eq-eqb (level h r) (level h p) (flat r (wanting r fits) ∙ sym (flat p wants)) in
      (λ i. not (fits i && same i) || nat_le (availability s h p) (availability s h r))
      ∙ sym (ap (λ (x : Bool). not x || nat_le (availability s h p) (availability s h r)) fits))
      (λ (fails : test r ≡ false).
      ap (λ (x : Bool). not (x && (level h r == level h p)) || nat_le (availability s h p) (availability s h r)) fails
      ∙ sym (ap (λ (x : Bool). not x || nat_le (availability s h p) (availability s h r)) fails))
      (cases_Bool (test r)))

  candidates_flat : (p : ℕ) → wanted s h p ≡ true → none_rarer s h (is_candidate s h q) p ≡ none_rarer_before s h (is_candidate s h q) p
  candidates_flat = rarer_flat (is_candidate s h q) (λ r is. (and_parts (wanted s h r) _ is).0)

  resuming_flat : (p : ℕ) → wanted s h p ≡ true → none_rarer s h (resumes s h q) p ≡ none_rarer_before s h (resumes s h q) p
  resuming_flat = rarer_flat (resumes s h q) (λ r is. (and_parts (wanted s h r) _ (and_parts (is_open_piece s h r) _ is).0).0)

  continues_flat : (b : Block) → continues s h q b ≡ continues_before s h q b
  continues_flat b = by_usable (usable s h q b) refl where
    by_usable : (x : Bool) → usable s h q b ≡ x → continues s h q b ≡ continues_before s h q b
    by_usable false is = and_left (tops s h q b) _ (tops_flat b ∙ is) ∙ sym (and_left (usable s h q b) _ is)
    by_usable true is =
        let wants = usable_wanted b is in
        λ i. tops_flat b i && (begun s h b.piece
        && ((s.most_open == 0) || (resuming_flat b.piece wants i && (is_strict s h || candidates_flat b.piece wants i))))

  starts_flat : (b : Block) → starts s h q b ≡ starts_before s h q b
  starts_flat b = by_usable (usable s h q b) refl where
    by_usable : (x : Bool) → usable s h q b ≡ x → starts s h q b ≡ starts_before s h q b
    by_usable false is = and_left (tops s h q b) _ (tops_flat b ∙ is) ∙ sym (and_left (usable s h q b) _ is)
    by_usable true is = λ i. tops_flat b i && (unbegun s h b.piece
        && (nat_lt (had_count s h) s.random || candidates_flat b.piece (usable_wanted b is) i))

  none_tops : some_block s.torrent (tops_in_order s h q) ≡ false
  none_tops = any_none (piece_count s.torrent) (λ p. some_block_of s.torrent p (tops_in_order s h q)) (λ p lp.
      any_none (block_count s.torrent p) (λ k. tops_in_order s h q (block s.torrent p k)) (λ k lk.
      and_right (tops s h q (block s.torrent p k)) (comes_in_order h p) (none_ordered h p never)))

  pub answer_as_before : next_answer s h q ≡ next_before s h q
  unfolding next_answer next_before
  answer_as_before = λ i.
      if some_block s.torrent (due h q) then CancelOf (due h q)
      else if not (is_open h q) then Exactly Choked
      else if nat_le (depth_of s h q) (asked_count s h q) then Exactly PipeFull
      else if none_tops i then RequestOf (rises s h q)
      else if some_block s.torrent (λ b. continues_flat b i) then RequestOf (λ b. continues_flat b i)
      else if some_block s.torrent (usable s h q) then RequestOf (λ b. starts_flat b i)
      else if rushes s h q && (endgame s h && some_block s.torrent (doubles s h q)) then RequestOf (doubles s h q)
      else if interesting s h q then Exactly Idle
      else Exactly NothingLeft
