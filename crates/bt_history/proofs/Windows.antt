-- Where no part of the levels is told to come in order, all pieces do, or none does.
use Rattle.std.proofs.Common.{◌≡◌, ℕ, ◌+◌, ◌-◌, ◌≤◌, Bool, true, false, not, ◌&&◌, ◌||◌, [], ◌∷◌, None, Some, refl, ap, sym, ◌∙◌, arith, ⊎_elim}
use Rattle.std.specs.Prelude.{if◌then◌else◌, nat_le}
use Rattle.std.proofs.lemmas.Bool.{and_parts, and_from, and_right, cases_Bool, false≢true, false_from_ne_true, le-leb, lt-leb, not-true, or_left, or_right}
use Rattle.std.proofs.Math.Bool.{and-true}
use Rattle.bt_meta.specs.Layout.{piece_count, block_count, block}
use Rattle.bt_history.specs.declared.call.Reply.TheVariants.{Choked, PipeFull, Idle, NothingLeft}
use Rattle.bt_history.specs.declared.event.Action.{Action}
use Rattle.bt_history.specs.declared.event.Action.TheVariants.{InOrder, InOrderFrom}
use Rattle.bt_history.specs.declared.rules.TheConstants.{MOST_LEVEL}
use Rattle.bt_history.specs.Setting.{Setting, some_block, some_block_of, each_block_of}
use Rattle.bt_history.specs.History.{History, counts, counted_call}
use Rattle.bt_history.specs.Peers.{is_open, asked_count, depth_of, due}
use Rattle.bt_history.specs.Pieces.{comes_in_order, endgame, interesting, level, order_after, order_from}
use Rattle.bt_history.specs.Next.{Exactly, CancelOf, RequestOf, usable, tops, tops_in_order, continues, starts, rises, doubles, rushes, next_answer}
use Rattle.bt_history.specs.Before.{in_order_before, in_order_after, is_window, never_windows, next_unwindowed}
use Rattle.bt_history.specs.Legal.{IsLegal}
use Rattle.bt_history.proofs.Below.{all_found, any_found, any_none, any_witness, least_among}
use Rattle.bt_history.proofs.LineLaws.{block_is_block, some_found}
use Rattle.bt_history.proofs.Levels.{level_bounded}

-- the level from which all pieces come in order, or none does
abbrev whole : Bool → ℕ
whole rising = if rising then 0 else MOST_LEVEL + 1

order_same : (call : Action) (x before : Bool) → is_window call ≡ false
    → order_after (if x then Some call else None) (whole before) ≡ whole (in_order_after (if x then Some call else None) before)
order_same call false before isnt = refl
order_same (InOrder rising) true before isnt = refl
order_same (InOrderFrom n) true before isnt = absurd (cc isnt)
order_same call true before isnt = refl

pub order_whole : (h : History) → never_windows h ≡ true → order_from h ≡ whole (in_order_before h)
unfolding order_from in_order_before never_windows
order_whole [] never = refl
order_whole (e ∷ h) never =
    let parts = and_parts (not (is_window e.action)) (never_windows h) never in
    ap (order_after (counted_call e)) (order_whole h parts.1)
    ∙ order_same e.action (counts e.reply) (in_order_before h) (not-true (is_window e.action) parts.0)

module _ (s : Setting) (h : History) (q : ℕ) (legal : IsLegal s h) where
  -- where a block is usable, one of the highest level that has one tops
  some_tops : some_block s.torrent (usable s h q) ≡ true → some_block s.torrent (tops s h q) ≡ true
  some_tops some =
      let test : ℕ → Bool = λ p. some_block_of s.torrent p (usable s h q) in
      let found = least_among (piece_count s.torrent) test (λ p. MOST_LEVEL - level h p) some in
      let p = found.number in
      let one = any_witness (block_count s.torrent p) (λ k. usable s h q (block s.torrent p k)) found.passes in
      let d = block s.torrent p one.0 in
      some_found s.torrent (tops s h q) d (block_is_block s.torrent p one.0 found.within one.1)
      (and_from (usable s h q d) _ one.2
      (all_found (piece_count s.torrent) (λ r. each_block_of s.torrent r (λ c. not (usable s h q c) || nat_le (level h c.piece) (level h p)))
      (λ r lr. all_found (block_count s.torrent r) (λ k. not (usable s h q (block s.torrent r k)) || nat_le (level h r) (level h p))
      (λ k lk. ⊎_elim
      (λ (fits : usable s h q (block s.torrent r k) ≡ true).
      or_right (not (usable s h q (block s.torrent r k))) (nat_le (level h r) (level h p))
      (le-leb (level h r) (level h p) (no_higher p r (found.least r lr
      (any_found (block_count s.torrent r) (λ j. usable s h q (block s.torrent r j)) k lk fits)))))
      (λ (fails : usable s h q (block s.torrent r k) ≡ false).
      or_left (not (usable s h q (block s.torrent r k))) (nat_le (level h r) (level h p)) (ap not fails))
      (cases_Bool (usable s h q (block s.torrent r k)))))))
    where
      no_higher : (p r : ℕ) → MOST_LEVEL - level h p ≤ MOST_LEVEL - level h r → level h r ≤ level h p
      no_higher p r low =
          let one = level_bounded s h p legal in
          let other = level_bounded s h r legal in
          omega (arith, low, one, other)

  -- a block of any piece comes in order, or none does
  ordered_whole : (p : ℕ) → never_windows h ≡ true → comes_in_order h p ≡ in_order_before h
  ordered_whole p never = ap (λ (n : ℕ). nat_le n (level h p)) (order_whole h never) ∙ by_order (in_order_before h) where
    by_order : (x : Bool) → nat_le (whole x) (level h p) ≡ x
    by_order true = le-leb 0 (level h p) (omega arith)
    by_order false = (let most = level_bounded s h p legal in lt-leb (MOST_LEVEL + 1) (level h p) (omega (arith, most)))

  tops_whole : never_windows h ≡ true → some_block s.torrent (tops_in_order s h q) ≡ (in_order_before h && some_block s.torrent (usable s h q))
  tops_whole never = (λ i. some_block s.torrent (λ b. tops s h q b && ordered_whole b.piece never i)) ∙ by_order (in_order_before h) where
    none : some_block s.torrent (λ b. tops s h q b && false) ≡ false
    none = any_none (piece_count s.torrent) (λ p. some_block_of s.torrent p (λ b. tops s h q b && false)) (λ p lp.
        any_none (block_count s.torrent p) (λ k. tops s h q (block s.torrent p k) && false) (λ k lk.
        and_right (tops s h q (block s.torrent p k)) false refl))

    by_usable : (x : Bool) → some_block s.torrent (usable s h q) ≡ x → some_block s.torrent (tops s h q) ≡ x
    by_usable true some = some_tops some
    by_usable false fails = false_from_ne_true (some_block s.torrent (tops s h q)) (λ some.
        let piece = any_witness (piece_count s.torrent) (λ p. some_block_of s.torrent p (tops s h q)) some in
        let at = any_witness (block_count s.torrent piece.0) (λ k. tops s h q (block s.torrent piece.0 k)) piece.2 in
        let b = block s.torrent piece.0 at.0 in
        false≢true (sym fails ∙ some_found s.torrent (usable s h q) b (block_is_block s.torrent piece.0 at.0 piece.1 at.1)
        (and_parts (usable s h q b) _ at.2).0))

    by_order : (x : Bool) → some_block s.torrent (λ b. tops s h q b && x) ≡ (x && some_block s.torrent (usable s h q))
    by_order true = (λ i. some_block s.torrent (λ b. and-true (tops s h q b) i)) ∙ by_usable (some_block s.torrent (usable s h q)) refl
    by_order false = none

  pub unwindowed_answer : never_windows h ≡ true → next_answer s h q ≡ next_unwindowed s h q
  unfolding next_answer next_unwindowed
  unwindowed_answer never = λ i.
      if some_block s.torrent (due h q) then CancelOf (due h q)
      else if not (is_open h q) then Exactly Choked
      else if nat_le (depth_of s h q) (asked_count s h q) then Exactly PipeFull
      else if tops_whole never i then RequestOf (rises s h q)
      else if some_block s.torrent (continues s h q) then RequestOf (continues s h q)
      else if some_block s.torrent (usable s h q) then RequestOf (starts s h q)
      else if rushes s h q && (endgame s h && some_block s.torrent (doubles s h q)) then RequestOf (doubles s h q)
      else if interesting s h q then Exactly Idle
      else Exactly NothingLeft
