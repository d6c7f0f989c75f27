-- What an arrival leaves that completed its piece: the piece waits for its check.
use Rattle.std.proofs.Common.{◌≡◌, ◌≢◌, ℕ, ◌==◌, Bool, true, false, not, ◌&&◌, ◌||◌, List, [], ◌∷◌, ◌++◌, map, reverse, Option, Some, None, refl}
use Rattle.std.proofs.Common.{ap, sym, ◌∙◌, subst, eq-eqb}
use Rattle.std.specs.Prelude.{is_some, if◌then◌else◌, nat_lt}
use Rattle.std.proofs.lemmas.List.{map-append, reverse-append}
use Rattle.std.proofs.lemmas.Bool.{eqb-true, lt-ltb, false_from_ne_true, true≢false}
use Rattle.bt_meta.specs.declared.block.Block.{Block}
use Rattle.bt_meta.specs.Layout.{piece_count, block_count, block}
use Rattle.bt_history.specs.declared.call.Entry.{Entry}
use Rattle.bt_history.specs.declared.call.Reason.{Reason}
use Rattle.bt_history.specs.declared.call.Reply.{Reply}
use Rattle.bt_history.specs.declared.call.Reply.TheVariants.{Completed, Refused, Stored, Dropped}
use Rattle.bt_history.specs.declared.event.Action.{Action}
use Rattle.bt_history.specs.declared.event.Action.TheVariants.{Arrived}
use Rattle.bt_history.specs.declared.event.Event.{Event}
use Rattle.bt_history.specs.Entries.{event_of, history_of}
use Rattle.bt_history.specs.Setting.{Setting, some_block_of, each_block_of}
use Rattle.bt_history.specs.History.{History, bytes_for, freed, frees, is_failed, is_had, loses, settles, stored, stores}
use Rattle.bt_history.specs.Pieces.{kept, held, full, had}
use Rattle.bt_history.specs.Next.{Exactly}
use Rattle.bt_history.specs.Legal.{IsLegal, IsAllowed, Permits, refusal, answer, arrived_answer}
use Rattle.bt_history.proofs.Below.{all_at, all_found}
use Rattle.bt_history.proofs.Allowed.{no_cause, answered}
use Rattle.bt_history.proofs.Arrivals.{arrival_facts, stored_unheld}
use Rattle.bt_history.proofs.HeldLaws.{had_full}
use Rattle.bt_picker.specs.Checks.{waits}

-- an entry that was pushed is the newest of the history
pub pushed : (journal new : List Entry) (e : Entry) → new ≡ journal ++ e ∷ [] → history_of new ≡ event_of e ∷ history_of journal
pushed journal new e is =
    ap history_of is ∙ ap reverse (map-append event_of journal (e ∷ [])) ∙ reverse-append (map event_of journal) (event_of e ∷ [])

both : (a b : Bool) → a ≡ true → b ≡ true → (a && b) ≡ true
both true b first second = second
both false b first second = absurd (cc first)

three : (a b c : Bool) → a ≡ true → b ≡ true → c ≡ false → (a && (b && not c)) ≡ true
three true true false x y z = refl
three true true true x y z = absurd (cc z)
three true false c x y z = absurd (cc y)
three false b c x y z = absurd (cc x)

-- each other block of a piece that is completed is held
others_held : (s : Setting) (h : History) (p begin : ℕ) (r : Reply) → r ≡ Completed → Permits s.torrent (arrived_answer s h p begin) r →
    each_block_of s.torrent p (λ b. (b.begin == begin) || held h b) ≡ true
unfolding arrived_answer
others_held s h p begin r completed is =
    by_cases (some_block_of s.torrent p (λ b. (b.begin == begin) && held h b)) (each_block_of s.torrent p (λ b. (b.begin == begin) || held h b)) is
  where
    by_cases : (x y : Bool) → Permits s.torrent (if x then Exactly Dropped else if y then Exactly Completed else Exactly Stored) r → y ≡ true
    by_cases true y h = absurd (cc (completed, h))
    by_cases false true h = refl
    by_cases false false h = absurd (cc (completed, h))

-- a block that an entry stored, or that was held before, is held unless the entry freed it
held_by : (h : History) (e : Event) (b : Block) → is_failed e.reply ≡ false → (is_some (stored e b) || held h b) ≡ true → held (e ∷ h) b ≡ true
unfolding kept
held_by h e b lasting is = by_cases (freed e b) (stored e b) (ap (λ (x : Bool). x && frees e.action b) lasting) is where
  by_cases : (x : Bool) (o : Option (List ℕ)) → x ≡ false → (is_some o || held h b) ≡ true →
      is_some (if x then None else if is_some o then o else kept h b) ≡ true
  by_cases true o off some = absurd (cc off)
  by_cases false (Some bytes) off some = refl
  by_cases false None off some = some

-- the entry stored the block that it brought
brings : (e : Event) (p begin : ℕ) (bytes : List ℕ) (b : Block) → e.action ≡ Arrived p begin bytes → stores e.reply ≡ true → b.piece ≡ p →
    (b.begin == begin) ≡ true → is_some (stored e b) ≡ true
brings e p begin bytes b call storing piece same =
    ap (λ (x : Bool). is_some (if x then bytes_for b e.action else None)) storing
    ∙ ap (λ (a : Action). is_some (bytes_for b a)) call
    ∙ ap (λ (x : Bool). is_some (if x then Some bytes else None))
    (both (p == b.piece) (begin == b.begin) (eq-eqb p b.piece (sym piece)) (eq-eqb begin b.begin (sym (eqb-true b.begin begin same))))

either_held : (x stored held : Bool) → (x ≡ true → stored ≡ true) → (x || held) ≡ true → (stored || held) ≡ true
either_held x true held here is = refl
either_held true false held here is = absurd (cc (here refl))
either_held false false held here is = is

-- after the reply Completed the piece is full, and isn't had
pub completed_waits : (s : Setting) (h : History) (e : Event) (p begin : ℕ) (bytes : List ℕ) → IsLegal s h → IsAllowed s h e →
    e.action ≡ Arrived p begin bytes → e.reply ≡ Completed → waits s (e ∷ h) p ≡ true
unfolding had
completed_waits s h e p begin bytes legal allowed call completed =
    let not_refused : (reason : Reason) → e.reply ≢ Refused reason = λ reason. λ refused. absurd (cc (completed, refused)) in
    let accepted = no_cause s h e not_refused allowed in
    let arrival = arrival_facts s h e.worker p begin bytes (ap (refusal s h e.worker) (sym call) ∙ accepted) in
    let permitted = subst (λ (a : Action). Permits s.torrent (answer s h e.worker a) e.reply) call (answered s h e accepted allowed) in
    let others = others_held s h p begin e.reply completed permitted in
    let storing : stores e.reply ≡ true = ap stores completed in
    let lasting : is_failed e.reply ≡ false = ap is_failed completed in
    let here : (k : ℕ) → ((block s.torrent p k).begin == begin) ≡ true → is_some (stored e (block s.torrent p k)) ≡ true =
    λ k. λ same. brings e p begin bytes (block s.torrent p k) call storing refl same in
    let full_now : full s (e ∷ h) p ≡ true =
    all_found (block_count s.torrent p) (λ k. held (e ∷ h) (block s.torrent p k)) (λ k. λ lt.
    held_by h e (block s.torrent p k) lasting (either_held ((block s.torrent p k).begin == begin) _ _ (here k)
    (all_at (block_count s.torrent p) (λ j. ((block s.torrent p j).begin == begin) || held h (block s.torrent p j)) k others lt))) in
    let own = block s.torrent p arrival.index in
    let unheld : held h own ≡ false =
    stored_unheld s h e own allowed (here arrival.index (eq-eqb own.begin begin (sym arrival.begins))) in
    let not_had : had h p ≡ false =
    false_from_ne_true (had h p) (λ is. true≢false (sym (had_full s h p arrival.index legal is arrival.within) ∙ unheld)) in
    let not_passed : (is_had e.reply && settles e.action p) ≡ false = ap (λ (r : Reply). is_had r && settles e.action p) completed in
    let not_lost : (is_failed e.reply && loses e.action p) ≡ false = ap (λ (r : Reply). is_failed r && loses e.action p) completed in
    three (nat_lt p (piece_count s.torrent)) _ _ (lt-ltb p (piece_count s.torrent) arrival.piece) full_now
    ((λ i. not_passed i || (not (not_lost i) && had h p)) ∙ not_had)
