-- Laws of what is held and had in a legal history, and of blocks asked twice.
use Rattle.std.proofs.Common.{◌≡◌, ◌⊎◌, ℕ, zero, suc, ◌<◌, ◌==◌, Bool, true, false, not, ◌&&◌, ◌||◌, List, [], ◌∷◌, ◌++◌, Option, None, Some, refl, ap}
use Rattle.std.proofs.Common.{sym, ◌∙◌, arith, ⊎_elim, inl, inr, subst}
use Rattle.std.specs.Prelude.{is_some, is_none, if◌then◌else◌, unwrap_or}
use Rattle.std.specs.List.{list_any}
use Rattle.std.specs.Cmp.Lexicographic.{same_text}
use Rattle.std.proofs.lemmas.Bool.{and_from, and_parts, eqb-true, not-true, and_left, and_right, or_from, or_cases, or_left, or_right, false≢true, true≢false, false_from_ne_true}
use Rattle.sha1.specs.Sha1.{sha1}
use Rattle.bt_meta.specs.declared.block.Block.{Block}
use Rattle.bt_meta.specs.Layout.{piece_count, block_count, block, hash_of}
use Rattle.bt_history.specs.declared.call.Reply.{Reply}
use Rattle.bt_history.specs.declared.call.Reply.TheVariants.{Had, Failed, Request}
use Rattle.bt_history.specs.declared.event.Action.{Action}
use Rattle.bt_history.specs.declared.event.Action.TheVariants.{Settle, Lose, Discard}
use Rattle.bt_history.specs.declared.event.Event.{Event}
use Rattle.bt_history.specs.Setting.{Setting, is_block, each_block, each_block_of}
use Rattle.bt_history.specs.History.{History, own_call, same_begin, stored, stores, bytes_for, frees, freed, is_failed, is_had, loses, lost, settles, passed, requested, requested_by}
use Rattle.bt_history.specs.Peers.{asked, asks, expected, lasts, overdue, resets}
use Rattle.bt_history.specs.Pieces.{kept, held, content, joined_below, full, had, asked_of_some, held_or_asked, unasked, awaited, endgame, was_endgame}
use Rattle.bt_history.specs.Legal.{IsLegal, IsAllowed, causes, refusal, same_bytes}
use Rattle.bt_history.proofs.Below.{any_fails, all_at, all_found}
use Rattle.bt_history.proofs.SameBegin.{held_at}
use Rattle.bt_history.proofs.Allowed.{request_facts, check_facts, passed_hash, had_reply, failed_reply, worker_below, no_cause, none_holds, settle_facts}
use Rattle.bt_history.proofs.Arrivals.{stored_unheld}
use Rattle.bt_history.proofs.Delays.{expected_at, expected_cases}
use Rattle.bt_history.proofs.LineLaws.{block_index, Asks, asking_stores_none, asks_or_none}

-- ---- what an entry leaves

-- the entry stored nothing for b, or something
pub stored_cases : (e : Event) (b : Block) → (stored e b ≡ None) ⊎ (is_some (stored e b) ≡ true)
stored_cases e b = either (stored e b) where
  either : (o : Option (List ℕ)) → (o ≡ None) ⊎ (is_some o ≡ true)
  either None = inl refl
  either (Some x) = inr refl

-- an entry that stores is no request
storing_asks_nothing : (q : ℕ) (e : Event) (b : Block) → is_some (stored e b) ≡ true → requested q e ≡ []
storing_asks_nothing q e b is = ⊎_elim
    (λ (asking : (c : Block) × Asks q e c). absurd (false≢true
    (sym (ap (λ (x : Bool). is_some (if x then bytes_for b e.action else None)) (asking_stores_none e.reply asking.0 asking.1.reply)) ∙ is)))
    (λ (none : requested q e ≡ []). none)
    (asks_or_none q e)

kept_unstored : (h : History) (e : Event) (b : Block) → stored e b ≡ None → kept (e ∷ h) b ≡ (if freed e b then None else kept h b)
unfolding kept
kept_unstored h e b none = ap (λ (o : Option (List ℕ)). if freed e b then None else if is_some o then o else kept h b) none

-- ---- nobody is asked for a held block

pub held_unasked : (s : Setting) (h : History) (q : ℕ) (b : Block) → IsLegal s h → held h b ≡ true → asked h q b ≡ false
unfolding kept asked
held_unasked s [] q b legal is = refl
held_unasked s (e ∷ h) q b legal is = ⊎_elim
    (λ (none : stored e b ≡ None).
    let before : held h b ≡ true = was_held (freed e b) (sym (ap is_some (kept_unstored h e b none)) ∙ is) in
    and_right (not (resets (own_call q e))) _ (or_from (lasts q e b && asked h q b) (asks q e b)
    (and_right (lasts q e b) (asked h q b) (held_unasked s h q b legal.0 before))
    (not_asked_now before)))
    (λ (some : is_some (stored e b) ≡ true).
    and_right (not (resets (own_call q e))) _ (or_from (lasts q e b && asked h q b) (asks q e b)
    (and_left (lasts q e b) (asked h q b) (and_left (is_none (stored e b)) _ (opposite (stored e b) some)))
    (ap (list_any (λ a. same_begin a b)) (storing_asks_nothing q e b some))))
    (stored_cases e b)
  where
    was_held : (x : Bool) → is_some (if x then None else kept h b) ≡ true → held h b ≡ true
    was_held true is = absurd (cc is)
    was_held false is = is

    opposite : (o : Option (List ℕ)) → is_some o ≡ true → is_none o ≡ false
    opposite (Some x) is = refl
    opposite None is = absurd (cc is)

    not_asked_now : held h b ≡ true → asks q e b ≡ false
    not_asked_now before = ⊎_elim
        (λ (asking : (c : Block) × Asks q e c).
        let facts = request_facts s h e asking.0 legal.1 asking.1.reply in
        ap (list_any (λ a. same_begin a b)) asking.1.only
        ∙ or_from (same_begin asking.0 b) false
        (false_from_ne_true (same_begin asking.0 b) (λ same. true≢false (sym before ∙ (held_at h asking.0 b same ∙ facts.not_held)))) refl)
        (λ (none : requested q e ≡ []). ap (list_any (λ a. same_begin a b)) none)
        (asks_or_none q e)

-- ---- a piece that is had is full, with the bytes of its hash

-- no block of a piece that is had is freed, unless the piece is lost
unfreed : (s : Setting) (h : History) (e : Event) (p : ℕ) → IsAllowed s h e → had h p ≡ true → lost e p ≡ false
    → (b : Block) → b.piece ≡ p → freed e b ≡ false
unfreed s h e p allowed before stays b at = false_from_ne_true (freed e b) (λ frees_it.
    let parts = and_parts (is_failed e.reply) (frees e.action b) frees_it in
    by_call e.action refl parts.0 (no_cause s h e (λ reason refused. absurd (cc (failed_reply e.reply parts.0, refused))) allowed) parts.1)
  where
    by_call : (call : Action) → e.action ≡ call → is_failed e.reply ≡ true → refusal s h e.worker e.action ≡ None → frees call b ≡ true → ⊥
    by_call (Settle r bytes) is fails cause this =
        let facts = settle_facts s h e.worker r bytes (ap (refusal s h e.worker) (sym is) ∙ cause) in
        false≢true (sym facts.not_had ∙ (ap (had h) (eqb-true r b.piece this ∙ at) ∙ before))
    by_call (Lose r) is fails cause this =
        false≢true (sym stays ∙ (ap (λ (a : Action). is_failed e.reply && loses a p) is
        ∙ (ap (λ (q : ℕ). is_failed e.reply && (r == q)) (sym at) ∙ and_from (is_failed e.reply) (r == b.piece) fails this)))
    by_call (Discard r begin) is fails cause this =
        let piece = (and_parts (r == b.piece) (begin == b.begin) this).0 in
        let none = none_holds (causes s h e.worker (Discard r begin)) (ap (refusal s h e.worker) (sym is) ∙ cause) in
        false≢true (sym none.1.1.0 ∙ (ap (had h) (eqb-true r b.piece piece ∙ at) ∙ before))
    by_call call is fails cause this = absurd (cc this)

-- an allowed entry leaves the bytes of a held block that it doesn't free
kept_on : (s : Setting) (h : History) (e : Event) (b : Block) → IsAllowed s h e → freed e b ≡ false → held h b ≡ true →
    kept (e ∷ h) b ≡ kept h b
kept_on s h e b allowed lasting is = ⊎_elim
    (λ (none : stored e b ≡ None). kept_unstored h e b none ∙ ap (λ (x : Bool). if x then None else kept h b) lasting)
    (λ (some : is_some (stored e b) ≡ true). absurd (true≢false (sym is ∙ stored_unheld s h e b allowed some)))
    (stored_cases e b)

-- a piece that is had: each of its blocks is held, and its joined bytes have its hash
pub record HadFacts (s : Setting) (h : History) (p : ℕ) : Type 0 where
  pub is_full : full s h p ≡ true
  pub hash : same_bytes (sha1 (content s h p)) (hash_of s.torrent p) ≡ true

pub joined_same : (n : ℕ) (f g : ℕ → List ℕ) → ((k : ℕ) → k < n → f k ≡ g k) → joined_below n f ≡ joined_below n g
joined_same zero f g h = refl
joined_same (suc n) f g h =
    ap (λ (xs : List ℕ). xs ++ f n) (joined_same n f g (λ k lk. h k (omega arith))) ∙ ap (λ (xs : List ℕ). joined_below n g ++ xs) (h n (omega arith))

-- an allowed entry that frees no block of a full piece leaves it full, with the same bytes
had_on : (s : Setting) (h : History) (e : Event) (p : ℕ) → IsAllowed s h e → ((b : Block) → b.piece ≡ p → freed e b ≡ false) → HadFacts s h p
    → HadFacts s (e ∷ h) p
had_on s h e p allowed lasting facts =
    let same : (k : ℕ) → k < block_count s.torrent p → kept (e ∷ h) (block s.torrent p k) ≡ kept h (block s.torrent p k) =
    λ k lk. kept_on s h e (block s.torrent p k) allowed (lasting (block s.torrent p k) refl)
    (all_at (block_count s.torrent p) (λ j. held h (block s.torrent p j)) k facts.is_full lk) in
    let content_same : content s (e ∷ h) p ≡ content s h p =
    joined_same (block_count s.torrent p) _ _ (λ k lk. ap (λ (o : Option (List ℕ)). unwrap_or o []) (same k lk)) in
    record {
      is_full = all_found (block_count s.torrent p) (λ k. held (e ∷ h) (block s.torrent p k))
          (λ k lk. ap is_some (same k lk) ∙ all_at (block_count s.torrent p) (λ j. held h (block s.torrent p j)) k facts.is_full lk);
      hash = ap (λ (bytes : List ℕ). same_bytes (sha1 bytes) (hash_of s.torrent p)) content_same ∙ facts.hash;
    }

pub had_facts : (s : Setting) (h : History) (p : ℕ) → IsLegal s h → had h p ≡ true → HadFacts s h p
unfolding had
had_facts s [] p legal is = absurd (cc is)
had_facts s (e ∷ h) p legal is = ⊎_elim
    (λ (now : passed e p ≡ true).
    let parts = and_parts (is_had e.reply) (settles e.action p) now in
    let reply : e.reply ≡ Had = had_reply e.reply parts.0 in
    let check = check_facts s h e p legal.1 (λ reason refused. absurd (cc (reply, refused))) parts.1 in
    had_on s h e p legal.1 (λ b at. ap (λ (r : Reply). is_failed r && frees e.action b) reply)
    (record { is_full = check.0; hash = passed_hash s h e p legal.1 reply parts.1 }))
    (λ (before : (not (lost e p) && had h p) ≡ true).
    let parts = and_parts (not (lost e p)) (had h p) before in
    had_on s h e p legal.1 (unfreed s h e p legal.1 parts.1 (not-true (lost e p) parts.0)) (had_facts s h p legal.0 parts.1))
    (or_cases (passed e p) (not (lost e p) && had h p) is)

pub had_full : (s : Setting) (h : History) (p k : ℕ) → IsLegal s h → had h p ≡ true → k < block_count s.torrent p →
    held h (block s.torrent p k) ≡ true
had_full s h p k legal is lk = all_at (block_count s.torrent p) (λ j. held h (block s.torrent p j)) k (had_facts s h p legal is).is_full lk

-- the joined bytes of a piece that is had have its hash
pub had_hash : (s : Setting) (h : History) (p : ℕ) → IsLegal s h → had h p ≡ true → sha1 (content s h p) ≡ hash_of s.torrent p
had_hash s h p legal is = same_text (sha1 (content s h p)) (hash_of s.torrent p) (sym (had_facts s h p legal is).hash)

-- ---- a block asked of two peers

-- a block is asked of q after an entry that just asked it, or was asked before
pub asked_cases : (h : History) (e : Event) (q : ℕ) (b : Block) → asked (e ∷ h) q b ≡ true → (asks q e b ≡ true) ⊎ (asked h q b ≡ true)
unfolding asked
asked_cases h e q b is =
    ⊎_elim (λ (before : (lasts q e b && asked h q b) ≡ true). inr (and_parts (lasts q e b) (asked h q b) before).1)
    (λ (now : asks q e b ≡ true). inl now)
    (or_cases (lasts q e b && asked h q b) (asks q e b) (and_parts (not (resets (own_call q e))) _ is).1)

-- what asked b of q is a request by q of a block at its place
pub asking : (q : ℕ) (e : Event) (b : Block) → asks q e b ≡ true → (c : Block) × Asks q e c × (same_begin c b ≡ true)
asking q e b is = ⊎_elim
    (λ (named : (c : Block) × Asks q e c). (
      named.0,
      named.1,
      only (same_begin named.0 b) (sym (ap (list_any (λ a. same_begin a b)) named.1.only) ∙ is),
    ))
    (λ (none : requested q e ≡ []). absurd (false≢true (sym (ap (list_any (λ a. same_begin a b)) none) ∙ is)))
    (asks_or_none q e)
  where
    only : (x : Bool) → (x || false) ≡ true → x ≡ true
    only true h = refl
    only false h = absurd (cc h)

-- where the newest entry asked b of one peer while another one was expected to bring it, that was in endgame
asked_again : (s : Setting) (h : History) (e : Event) (q other : ℕ) (b : Block) → IsAllowed s h e → other < s.workers → (q ≡ other → ⊥)
    → asks q e b ≡ true → expected (e ∷ h) other b ≡ true → endgame s h ≡ true
asked_again s h e q other b allowed lt apart now is =
    let request = asking q e b now in
    let facts = request_facts s h e request.0 allowed request.1.reply in
    let before : expected h other b ≡ true = ⊎_elim
    (λ (too : asks other e b ≡ true). absurd (apart (sym request.1.worker ∙ (asking other e b too).1.worker)))
    (λ (old : expected h other b ≡ true). old)
    (expected_cases h e other b is) in
    ⊎_elim
    (λ (alone : asked_of_some s h request.0 ≡ false).
    absurd (true≢false (sym before ∙ (expected_at h other request.0 b request.2 ∙ any_fails s.workers (λ w. expected h w request.0) other alone lt))))
    (λ (ending : endgame s h ≡ true). ending)
    facts.alone

-- only peers of the desk's workers are asked
pub asked_below : (s : Setting) (h : History) (q : ℕ) (b : Block) → IsLegal s h → asked h q b ≡ true → q < s.workers
unfolding asked
asked_below s [] q b legal is = absurd (cc is)
asked_below s (e ∷ h) q b legal is = ⊎_elim
    (λ (now : asks q e b ≡ true). subst (λ (w : ℕ). w < s.workers) (asking q e b now).1.worker (worker_below s h e legal.1))
    (λ (before : asked h q b ≡ true). asked_below s h q b legal.0 before)
    (asked_cases h e q b is)

-- a block that two peers are expected to bring tells of an endgame before
pub doubles_after_endgame : (s : Setting) (h : History) (q other : ℕ) (b : Block) → IsLegal s h → q < s.workers → other < s.workers → (q ≡ other → ⊥)
    → expected h q b ≡ true → expected h other b ≡ true → was_endgame s h ≡ true
unfolding was_endgame asked
doubles_after_endgame s [] q other b legal lq lo apart one two = absurd (cc one)
doubles_after_endgame s (e ∷ h) q other b legal lq lo apart one two = ⊎_elim
    (λ (now : asks q e b ≡ true). or_left (endgame s h) (was_endgame s h) (asked_again s h e q other b legal.1 lo apart now two))
    (λ (before : expected h q b ≡ true). ⊎_elim
    (λ (now : asks other e b ≡ true). or_left (endgame s h) (was_endgame s h)
    (asked_again s h e other q b legal.1 lq (λ same. apart (sym same)) now one))
    (λ (too : expected h other b ≡ true). or_right (endgame s h) (was_endgame s h) (doubles_after_endgame s h q other b legal.0 lq lo apart before too))
    (expected_cases h e other b two))
    (expected_cases h e q b one)

-- ---- a second peer

-- a block that a peer is expected to bring is asked for again in endgame alone
pub second_in_endgame : (s : Setting) (h : History) (e : Event) (other : ℕ) (b : Block) → IsLegal s h → IsAllowed s h e → e.reply ≡ Request b
    → expected h other b ≡ true → endgame s h ≡ true
second_in_endgame s h e other b legal allowed is two =
    let facts = request_facts s h e b allowed (ap requested_by is) in
    ⊎_elim
    (λ (alone : asked_of_some s h b ≡ false).
    absurd (true≢false (sym two ∙ any_fails s.workers (λ w. expected h w b) other alone
    (asked_below s h other b legal (and_parts (asked h other b) (not (overdue h other b)) two).0))))
    (λ (ending : endgame s h ≡ true). ending)
    facts.alone

-- in endgame each awaited block is held, or asked of somebody
pub endgame_asks_all : (s : Setting) (h : History) (b : Block) → endgame s h ≡ true → is_block s.torrent b ≡ true → awaited s h b.piece ≡ true
    → unasked s h b ≡ false
endgame_asks_all s h b ending is want =
    let asks_all = and_parts (each_block s.torrent (λ c. not (awaited s h c.piece) || held_or_asked s h c)) _ ending in
    let place = block_index s.torrent b is in
    let of_piece = all_at (piece_count s.torrent)
    (λ p. each_block_of s.torrent p (λ c. not (awaited s h c.piece) || held_or_asked s h c)) b.piece asks_all.0 place.piece in
    let here = all_at (block_count s.torrent b.piece)
    (λ k. not (awaited s h (block s.torrent b.piece k).piece) || held_or_asked s h (block s.torrent b.piece k)) place.index of_piece place.within in
    not_lacking (awaited s h b.piece) (held_or_asked s h b) want
    (ap (λ (c : Block). not (awaited s h c.piece) || held_or_asked s h c) place.is ∙ here)
  where
    not_lacking : (x y : Bool) → x ≡ true → (not x || y) ≡ true → not y ≡ false
    not_lacking true true want here = refl
    not_lacking true false want here = absurd (cc here)
    not_lacking false y want here = absurd (cc want)
