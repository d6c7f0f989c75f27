-- While no check fails, the bytes that are held stay.
use Rattle.std.proofs.Common.{◌≡◌, ℕ, ◌+◌, ◌≤◌, Bool, true, false, List, [], ◌∷◌, ◌++◌, Option, None, length, refl, ap, sym, ◌∙◌, arith}
use Rattle.std.proofs.Common.{⊎_elim, subst}
use Rattle.std.specs.Prelude.{is_some, unwrap_or, if◌then◌else◌}
use Rattle.std.specs.List.{concat}
use Rattle.std.proofs.lemmas.Bool.{and_left, false≢true}
use Rattle.bt_check.specs.Checked.{Checked, joined}
use Rattle.bt_meta.specs.declared.block.Block.{Block}
use Rattle.bt_meta.specs.Layout.{block, block_count}
use Rattle.bt_history.specs.declared.event.Action.TheVariants.{Settle}
use Rattle.bt_history.specs.declared.event.Event.{Event}
use Rattle.bt_history.specs.History.{History, frees, is_failed, stored}
use Rattle.bt_history.specs.Legal.{IsLegal, same_bytes}
use Rattle.bt_history.specs.Pieces.{content, content_of_block, held, kept}
use Rattle.bt_history.specs.Setting.{Setting}
use Rattle.bt_history.proofs.Arrivals.{stored_unheld}
use Rattle.bt_history.proofs.Below.{all_at}
use Rattle.bt_history.proofs.HeldLaws.{stored_cases}
use Rattle.bt_picker.specs.Checks.{IsCurrent, IsDue, blocks_of, waits}
use Rattle.bt_picker.specs.Lasting.{WasDue, failure_count}
use Rattle.bt_picker.specs.Positions.{DeskState}
use Rattle.bt_picker.proofs.Checking.{concat_table, same_self}
use Rattle.bt_picker.proofs.KeeperWaiting.{waiting_parts}
use Rattle.bt_tables.proofs.Tabled.{same_table}

-- no more checks have failed than there are entries
pub failures_bound : (h : History) → failure_count h ≤ length h
unfolding failure_count
failures_bound [] = omega arith
failures_bound (e ∷ h) = by_reply (is_failed e.reply) (failures_bound h) where
  by_reply : (x : Bool) → failure_count h ≤ length h → (if x then 1 else 0) + failure_count h ≤ length (e ∷ h)
  by_reply true bound = omega (arith, bound)
  by_reply false bound = omega (arith, bound)

-- the count never falls
failures_grow : (newer old : History) → failure_count old ≤ failure_count (newer ++ old)
unfolding failure_count
failures_grow [] old = omega arith
failures_grow (e ∷ newer) old = let grow = failures_grow newer old in omega (arith, grow)

-- where the count is the same, the newest entry is no failed check, and the count was the same before it
none_failed : (e : Event) (newer old : History) → failure_count (e ∷ newer ++ old) ≡ failure_count old
    → (is_failed e.reply ≡ false) × (failure_count (newer ++ old) ≡ failure_count old)
unfolding failure_count
none_failed e newer old same = by_reply (is_failed e.reply) same where
  by_reply : (x : Bool) → (if x then 1 else 0) + failure_count (newer ++ old) ≡ failure_count old
      → (x ≡ false) × (failure_count (newer ++ old) ≡ failure_count old)
  by_reply true same = let grow = failures_grow newer old in absurd (omega (arith, same, grow))
  by_reply false same = (refl, omega (arith, same))

-- an entry that is no failed check leaves a block that is held
kept_after : (s : Setting) (h : History) (e : Event) (b : Block) → IsLegal s (e ∷ h) → is_failed e.reply ≡ false → held h b ≡ true
    → kept (e ∷ h) b ≡ kept h b
unfolding kept
kept_after s h e b legal passes is = ⊎_elim
    (λ (none : stored e b ≡ None).
    ap (λ (x : Bool). if x then None else if is_some (stored e b) then stored e b else kept h b)
    (and_left (is_failed e.reply) (frees e.action b) passes)
    ∙ ap (λ (o : Option (List ℕ)). if is_some o then o else kept h b) none)
    (λ (some : is_some (stored e b) ≡ true). absurd (false≢true (sym (stored_unheld s h e b legal.1 some) ∙ is)))
    (stored_cases e b)

-- while no check fails, a block that is held keeps its bytes
kept_while : (s : Setting) (newer old : History) (b : Block) → IsLegal s (newer ++ old) → failure_count (newer ++ old) ≡ failure_count old
    → held old b ≡ true → kept (newer ++ old) b ≡ kept old b
kept_while s [] old b legal same is = refl
kept_while s (e ∷ newer) old b legal same is =
    let none = none_failed e newer old same in
    let before = kept_while s newer old b legal.0 none.1 is in
    kept_after s (newer ++ old) e b legal none.0 (ap (λ (o : Option (List ℕ)). is_some o) before ∙ is) ∙ before

-- and so does each block of a piece that waited
blocks_while : (s : Setting) (newer old : History) (p : ℕ) → IsLegal s (newer ++ old) → failure_count (newer ++ old) ≡ failure_count old
    → waits s old p ≡ true → blocks_of s (newer ++ old) p ≡ blocks_of s old p
blocks_while s newer old p legal same waited =
    let full = (waiting_parts s old p waited).1 in
    let count = block_count s.torrent p in
    same_table count (λ k. content_of_block (newer ++ old) (block s.torrent p k)) (λ k. content_of_block old (block s.torrent p k)) (λ k lk.
    ap (λ (o : Option (List ℕ)). unwrap_or o [])
    (kept_while s newer old (block s.torrent p k) legal same (all_at count (λ k. held old (block s.torrent p k)) k full lk)))

-- the bytes that were hashed are the content while no check fails
pub still_current : (s : Setting) (h : History) (n : ℕ) (v : Checked) → IsLegal s h → WasDue s h n v → n ≡ failure_count h
    → IsCurrent s h (Settle v.piece (joined v)) true
still_current s h n v legal due same waiting =
    let legal_earlier = subst (λ (x : History). IsLegal s x) due.since legal in
    let none = sym (ap failure_count due.since) ∙ (sym same ∙ due.counted) in
    let blocks : v.blocks ≡ blocks_of s h v.piece = due.blocks
    ∙ sym (ap (λ (x : History). blocks_of s x v.piece) due.since ∙ blocks_while s due.newer due.earlier v.piece legal_earlier none due.waited) in
    let bytes : joined v ≡ content s h v.piece = ap concat blocks ∙
    concat_table (block_count s.torrent v.piece) (λ k. content_of_block h (block s.torrent v.piece k)) in
    sym (ap (λ (xs : List ℕ). same_bytes xs (content s h v.piece)) bytes ∙ same_self (content s h v.piece))

-- a verdict that is due was so at this very point
pub due_now : (d : DeskState) (n : ℕ) (v : Checked) → n ≡ failure_count d.history → IsDue d v.piece v → WasDue d.setting d.history n v
due_now d n v counted due = record {
  newer = [];
  earlier = d.history;
  since = refl;
  waited = due.0;
  blocks = due.2;
  counted = counted;
}
