-- What becomes of a verdict that is told to a picker which keeps content.
use Rattle.std.specs.Prelude.{◌≡◌, ℕ, ◌≤◌, List, [], ◌∷◌, Bool, true, false, not, ◌&&◌, ◌||◌, nat_le, nat_lt, if◌then◌else◌}
use Rattle.std.proofs.Common.{inl, inr, refl, subst, sym, ap, arith, ◌∙◌}
use Rattle.std.proofs.lemmas.Bool.{and_from, and_left, and_right, false≢true, le-ltb, leb-false, leb-true, lt-ltb}
use Rattle.std.specs.Cmp.Lexicographic.{bytes_decides}
use Rattle.sha1.specs.Sha1.{sha1}
use Rattle.bt_check.specs.Checked.{Checked, joined}
use Rattle.bt_meta.specs.Layout.{hash_of, piece_count}
use Rattle.bt_history.specs.History.{History}
use Rattle.bt_history.specs.Legal.{IsAllowed, Permits, answer, answer_unless, first_cause, refusal, same_bytes, settled_answer}
use Rattle.bt_history.specs.Setting.{Setting}
use Rattle.bt_history.specs.declared.call.Reason.TheVariants.{NoSuchPiece, NotWaiting, Stale}
use Rattle.bt_history.specs.declared.call.Reply.{Reply}
use Rattle.bt_history.specs.declared.call.Reply.TheVariants.{Failed, Had, Refused}
use Rattle.bt_history.specs.declared.event.Action.TheVariants.{Settle}
use Rattle.bt_history.specs.Pieces.{content, full, had}
use Rattle.bt_picker.proofs.KeeperWaiting.{joined_blocks}
use Rattle.bt_picker.specs.Kept.{SettlesOrStale}
use Rattle.bt_picker.proofs.Checking.{settled_kinds}
use Rattle.bt_picker.specs.Checks.{SettlesIf, unasked_check, waits}
use Rattle.bt_picker.specs.Positions.{DeskState, Gains}
use Rattle.bt_picker.specs.Told.{SettlesAs, checking}
use Rattle.bt_c.specs.declared.engine.Keeping.{Keeping}
use Rattle.bt_c.specs.declared.engine.Keeping.TheVariants.{Begun, Journal}
use Rattle.bt_c.specs.Jobs.{IsSettled, SettlesVerdict, settled_of}

-- what the rules permit in reply to a check
permitted : (s : Setting) (h : History) (w p : ℕ) (bytes : List ℕ) (reply : Reply) → IsAllowed s h (checking w p bytes reply)
    → Permits s.torrent (answer_unless (refusal s h w (Settle p bytes)) (answer s h w (Settle p bytes))) reply
unfolding IsAllowed
permitted s h w p bytes reply allowed = allowed.1

-- the answer is one of two
settled_one : (s : Setting) (h : History) (p : ℕ) (reply : Reply) → Permits s.torrent (settled_answer s h p) reply → IsSettled reply
unfolding settled_answer
settled_one s h p reply is = by_test (same_bytes (sha1 (content s h p)) (hash_of s.torrent p)) is where
  by_test : (x : Bool) → reply ≡ (if x then Had else Failed) → IsSettled reply
  by_test true had = inl had
  by_test false failed = inr failed

module _ (s : Setting) (h : History) (p : ℕ) where
  -- a piece beyond the last waits for nothing
  beyond_waits : nat_le (piece_count s.torrent) p ≡ true → waits s h p ≡ false
  beyond_waits beyond = and_left _ _ (le-ltb p (piece_count s.torrent) (leb-true (piece_count s.torrent) p beyond))

  -- nor does one that lacks a block, or is had
  unready_waits : (not (full s h p) || had h p) ≡ true → waits s h p ≡ false
  unready_waits unready = and_right _ _ (by_cases (full s h p) (had h p) unready) where
    by_cases : (filled had_it : Bool) → (not filled || had_it) ≡ true → (filled && not had_it) ≡ false
    by_cases false had_it is = refl
    by_cases true true is = refl
    by_cases true false is = absurd (false≢true is)

  -- each other one does
  ready_waits : nat_le (piece_count s.torrent) p ≡ false → (not (full s h p) || had h p) ≡ false → waits s h p ≡ true
  ready_waits within ready =
      and_from _ _ (lt-ltb p (piece_count s.torrent) (leb-false (piece_count s.torrent) p within)) (by_cases (full s h p) (had h p) ready)
    where
      by_cases : (filled had_it : Bool) → (not filled || had_it) ≡ false → (filled && not had_it) ≡ true
      by_cases true false is = refl
      by_cases true true is = absurd (false≢true (sym is))
      by_cases false had_it is = absurd (false≢true (sym is))

module _ (d e : DeskState) (v : Checked) where
  -- what came of the verdict, where its reply is known
  replied : (kept : Keeping) (reply known : Reply) → reply ≡ known → SettlesVerdict kept d e v (settled_of known)
      → SettlesVerdict kept d e v (settled_of reply)
  replied kept reply known is = subst (λ (r : Reply). SettlesVerdict kept d e v (settled_of r)) (sym is)

  -- an entry with another reply, which is the same
  entry_as : (reply known : Reply) → reply ≡ known → Gains d e (checking 0 v.piece (joined v) reply) → Gains d e (checking 0 v.piece (joined v) known)
  entry_as reply known is = subst (λ (r : Reply). Gains d e (checking 0 v.piece (joined v) r)) is

  -- an entry that the rules allow, by the causes for which a check may be refused
  by_cause : (beyond unready differs : Bool) (reply : Reply) → nat_le (piece_count d.setting.torrent) v.piece ≡ beyond
      → (not (full d.setting d.history v.piece) || had d.history v.piece) ≡ unready
      → not (same_bytes (joined v) (content d.setting d.history v.piece)) ≡ differs
      → Permits d.setting.torrent (answer_unless (first_cause ((beyond, NoSuchPiece) ∷ (unready, NotWaiting) ∷ (differs, Stale) ∷ []))
      (settled_answer d.setting d.history v.piece)) reply
      → Gains d e (checking 0 v.piece (joined v) reply) → SettlesVerdict Journal d e v (settled_of reply)
  by_cause true unready differs reply beyond is_unready are is gains =
      replied Journal reply (Refused NoSuchPiece) is (
        beyond_waits d.setting d.history v.piece beyond,
        entry_as reply (unasked_check d.setting v.piece) (is ∙ ap (λ (x : Bool). Refused (if x then NoSuchPiece else NotWaiting)) (sym beyond)) gains,
      )
  by_cause false true differs reply beyond is_unready are is gains =
      replied Journal reply (Refused NotWaiting) is (
        unready_waits d.setting d.history v.piece is_unready,
        entry_as reply (unasked_check d.setting v.piece) (is ∙ ap (λ (x : Bool). Refused (if x then NoSuchPiece else NotWaiting)) (sym beyond)) gains,
      )
  by_cause false false true reply beyond is_unready are is gains =
      replied Journal reply (Refused Stale) is (
        (ready_waits d.setting d.history v.piece beyond is_unready, λ held. by_bytes (joined_blocks d.setting d.history v.piece v.blocks held)),
        entry_as reply (Refused Stale) is gains,
      )
    where
      by_bytes : joined v ≡ content d.setting d.history v.piece → ⊥
      by_bytes same =
          false≢true (sym (ap not ((bytes_decides (joined v) (content d.setting d.history v.piece)).1 same)) ∙ are)
  by_cause false false false reply beyond is_unready are is gains = ended (settled_one d.setting d.history v.piece reply is) where
    ended : IsSettled reply → SettlesVerdict Journal d e v (settled_of reply)
    ended (inl hit) = replied Journal reply Had hit
        (ready_waits d.setting d.history v.piece beyond is_unready, inl refl, entry_as reply Had hit gains)
    ended (inr failed) = replied Journal reply Failed failed
        (ready_waits d.setting d.history v.piece beyond is_unready, inr refl, entry_as reply Failed failed gains)

  -- what a desk does: it enters the verdict
  pub entered : (reply : Reply) → Gains d e (checking 0 v.piece (joined v) reply) → SettlesVerdict Journal d e v (settled_of reply)
  entered reply gains =
      by_cause _ _ _ reply refl refl refl (permitted d.setting d.history 0 v.piece (joined v) reply gains.allowed) gains

  -- a piece that doesn't wait is refused by a keeper, and nothing changes
  refused : (beyond : Bool) (reply : Reply) → waits d.setting d.history v.piece ≡ false → e ≡ d
      → reply ≡ Refused (if beyond then NoSuchPiece else NotWaiting) → SettlesVerdict Begun d e v (settled_of reply)
  refused true reply unready same is = replied Begun reply (Refused NoSuchPiece) is (unready, same)
  refused false reply unready same is = replied Begun reply (Refused NotWaiting) is (unready, same)

  -- a piece that waits is settled by what is held of it, which is what was hashed
  if_waiting : (w : Bool) (reply : Reply) → waits d.setting d.history v.piece ≡ w
      → (w ≡ true → joined v ≡ content d.setting d.history v.piece) → SettlesIf w d e 0 v.piece reply → SettlesVerdict Begun d e v (settled_of reply)
  if_waiting false reply unready same none = refused (nat_le (piece_count d.setting.torrent) v.piece) reply unready none.0 none.1
  if_waiting true reply waiting same gains = ended (settled_kinds d.setting d.history 0 v.piece reply waiting gains.allowed) where
    entry : Gains d e (checking 0 v.piece (joined v) reply)
    entry = subst (λ (bytes : List ℕ). Gains d e (checking 0 v.piece bytes reply)) (sym (same refl)) gains

    ended : IsSettled reply → SettlesVerdict Begun d e v (settled_of reply)
    ended (inl hit) = replied Begun reply Had hit (waiting, inl refl, entry_as reply Had hit entry)
    ended (inr failed) = replied Begun reply Failed failed (waiting, inr refl, entry_as reply Failed failed entry)

  -- there is a worker 0
  by_worker : (is_worker : Bool) (reply : Reply) → is_worker ≡ true
      → (waits d.setting d.history v.piece ≡ true → joined v ≡ content d.setting d.history v.piece)
      → SettlesAs is_worker d e 0 v.piece reply → SettlesVerdict Begun d e v (settled_of reply)
  by_worker true reply is same settles = if_waiting (waits d.setting d.history v.piece) reply refl same settles
  by_worker false reply is same settles = absurd (cc is)

  -- what a keeper does
  pub kept : (reply : Reply) → 1 ≤ d.setting.workers → SettlesOrStale d e 0 v reply → SettlesVerdict Begun d e v (settled_of reply)
  kept reply some (inl (fresh, settles)) =
      by_worker (nat_lt 0 d.setting.workers) reply (lt-ltb 0 d.setting.workers (omega (arith, some)))
      (λ waiting. joined_blocks d.setting d.history v.piece v.blocks (fresh waiting)) settles
  kept reply some (inr (stale, same, is)) = replied Begun reply (Refused Stale) is (stale, same)

-- and it changes no setting
module _ (old new : DeskState) (v : Checked) (reply : Reply) where
  if_waits : (w : Bool) → SettlesIf w old new 0 v.piece reply → new.setting ≡ old.setting
  if_waits true gains = gains.setting
  if_waits false none = ap (λ (d : DeskState). d.setting) none.0

  as_worker : (is_worker : Bool) → SettlesAs is_worker old new 0 v.piece reply → new.setting ≡ old.setting
  as_worker true settles = if_waits (waits old.setting old.history v.piece) settles
  as_worker false none = ap (λ (d : DeskState). d.setting) none.0

  pub kept_setting : SettlesOrStale old new 0 v reply → new.setting ≡ old.setting
  kept_setting (inl settles) = as_worker (nat_lt 0 old.setting.workers) settles.1
  kept_setting (inr stale) = ap (λ (d : DeskState). d.setting) stale.1
