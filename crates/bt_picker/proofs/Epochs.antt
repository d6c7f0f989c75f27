-- The epoch after one entry more.
use Rattle.std.proofs.Common.{◌≡◌, ℕ, ◌==◌, ◌+◌, ◌%◌, ◌^◌, Bool, true, false, not, ◌&&◌, ◌||◌, List, [], ◌∷◌, None, Option, Some, refl, ap, sym, ◌∙◌}
use Rattle.std.specs.Prelude.{if◌then◌else◌}
use Rattle.std.proofs.Math.Nat.{mod-add-mod}
use Rattle.bt_history.specs.declared.call.Reply.{Reply}
use Rattle.bt_history.specs.declared.call.Reason.{Reason}
use Rattle.bt_history.specs.declared.call.Reply.TheVariants.{Completed, Dropped, InFlight, Request, Stored}
use Rattle.bt_history.specs.declared.event.Event.{Event}
use Rattle.bt_history.specs.Epochs.{asked_alone, begins_endgame, epoch, is_request, stirs, stores_beyond, unsettles}
use Rattle.bt_meta.specs.declared.block.Block.{Block}
use Rattle.bt_history.specs.Counting.{any_below, count_below}
use Rattle.bt_history.specs.History.{History, counts, same_begin, stores}
use Rattle.bt_history.specs.Legal.{IsAllowed, Permits, answer_unless, arrived_answer, place_at, refusal}
use Rattle.bt_history.specs.Next.{Exactly}
use Rattle.bt_history.specs.declared.event.Action.TheVariants.{Arrived}
use Rattle.bt_picker.specs.Checks.{arriving}
use Rattle.bt_history.specs.Peers.{expected, overdue}
use Rattle.bt_history.specs.Pieces.{asker_count, endgame, held, is_late_at_some}
use Rattle.bt_history.specs.Setting.{Setting, each_block_of, some_block_of}
use Rattle.bt_history.proofs.Delays.{expected_at, overdue_at}

pub epoch_more : (s : Setting) (h : History) (e : Event) (x : Bool) → x ≡ stirs s h e
    → (epoch s h % 2 ^ 64 + (if x then 1 else 0)) % 2 ^ 64 ≡ epoch s (e ∷ h) % 2 ^ 64
unfolding epoch
epoch_more s h e x is =
    mod-add-mod (epoch s h) (2 ^ 64) (if x then 1 else 0) ∙ ap (λ (y : Bool). (epoch s h + (if y then 1 else 0)) % 2 ^ 64) is

-- an endgame that is looked for at requests alone begins with a request
pub only_requests : (asks was is : Bool) → (asks && (not (asks && was) && (asks && is))) ≡ (asks && (not was && is))
only_requests true was is = refl
only_requests false was is = refl

-- the parts that a picker tells apart
pub stirs_parts : (s : Setting) (h : History) (e : Event) → ((counts e.reply && (unsettles e.action || stores_beyond s h e e.action))
    || begins_endgame s h e) ≡ stirs s h e
stirs_parts s h e = by_cases (counts e.reply) (is_request e.reply) (unsettles e.action) (stores_beyond s h e e.action)
    (not (endgame s h) && endgame s (e ∷ h))
    (counted e.reply) where
      counted : (r : Reply) → is_request r ≡ true → counts r ≡ true
      counted (Request b) is = refl
      counted (InFlight b) is = refl
      counted r is = absurd (cc is)

      by_cases : (c r u b g : Bool) → (r ≡ true → c ≡ true) → ((c && (u || b)) || (r && g)) ≡ (c && (u || ((r && g) || b)))
      by_cases true r true b g both = refl
      by_cases true true false true true both = refl
      by_cases true true false true false both = refl
      by_cases true true false false true both = refl
      by_cases true true false false false both = refl
      by_cases true false false true g both = refl
      by_cases true false false false g both = refl
      by_cases false true u b g both = absurd (cc (both refl))
      by_cases false false u b g both = refl

-- a block is expected from its peer alone where its place is
pub alone_at : (s : Setting) (h : History) (w p begin : ℕ) (b : Block) → same_begin (place_at p begin) b ≡ true
    → asked_alone s h w p begin ≡ (expected h w b && ((asker_count s h b == 1) && not (is_late_at_some s h b)))
alone_at s h w p begin b at =
    let same : (q : ℕ) → expected h q (place_at p begin) ≡ expected h q b = λ q. sym (expected_at h q (place_at p begin) b at) in
    let both : (q : ℕ) → overdue h q (place_at p begin) ≡ overdue h q b = λ q. sym (overdue_at h q (place_at p begin) b at) in
    λ i. same w i && ((count_below s.workers (λ q. same q i) == 1) && not (any_below s.workers (λ q. both q i)))

-- after a check the number rises, where it counts
pub epoch_settled : (s : Setting) (h : History) (e : Event) (number : ℕ) (x : Bool) → number ≡ epoch s h % 2 ^ 64 → unsettles e.action ≡ true
    → x ≡ not (not (counts e.reply)) → (number + (if x then 1 else 0)) % 2 ^ 64 ≡ epoch s (e ∷ h) % 2 ^ 64
epoch_settled s h e number x is settles counted =
    ap (λ (n : ℕ). (n + (if x then 1 else 0)) % 2 ^ 64) is
    ∙ epoch_more s h e x (counted
    ∙ (not-not (counts e.reply) ∙ sym (ap (λ (y : Bool). counts e.reply && (y || (begins_endgame s h e || stores_beyond s h e e.action))) settles
    ∙ and_one (counts e.reply))))
  where
    not-not : (y : Bool) → not (not y) ≡ y
    not-not true = refl
    not-not false = refl

    and_one : (y : Bool) → (y && true) ≡ y
    and_one true = refl
    and_one false = refl

-- after what a worker told it rises, where that stirs
pub epoch_told : (s : Setting) (h : History) (e : Event) (number : ℕ) (x : Bool) → number ≡ epoch s h % 2 ^ 64 → x ≡ stirs s h e
    → (number + (if x then 1 else 0)) % 2 ^ 64 ≡ epoch s (e ∷ h) % 2 ^ 64
epoch_told s h e number x is stirred = ap (λ (n : ℕ). (n + (if x then 1 else 0)) % 2 ^ 64) is ∙ epoch_more s h e x stirred

-- it begins at 0
pub epoch_none : (s : Setting) → 0 ≡ epoch s [] % 2 ^ 64
unfolding epoch
epoch_none s = refl

-- ---- a block that came

-- what stores is no refusal
pub stores_count : (r : Reply) → stores r ≡ true → counts r ≡ true
stores_count Stored is = refl
stores_count Completed is = refl
stores_count r is = absurd (cc is)

-- it asks for nothing
block_asks_nothing : (s : Setting) (h : History) (w p begin : ℕ) (bytes : List ℕ) (reply : Reply) → IsAllowed s h (arriving w p begin bytes reply)
    → is_request reply ≡ false
unfolding IsAllowed arrived_answer
block_asks_nothing s h w p begin bytes reply allowed =
    by_cases (refusal s h w (Arrived p begin bytes)) (some_block_of s.torrent p (λ b. (b.begin == begin) && held h b))
    (each_block_of s.torrent p (λ b. (b.begin == begin) || held h b)) allowed.1
  where
    by_cases : (cause : Option Reason) (x y : Bool)
        → Permits s.torrent (answer_unless cause (if x then Exactly Dropped else if y then Exactly Completed else Exactly Stored)) reply
        → is_request reply ≡ false
    by_cases (Some reason) x y is = ap is_request is
    by_cases None true y is = ap is_request is
    by_cases None false true is = ap is_request is
    by_cases None false false is = ap is_request is

-- it stirs where it is stored and wasn't asked of its own peer alone
pub block_stirs : (s : Setting) (h : History) (w p begin : ℕ) (bytes : List ℕ) (reply : Reply) → IsAllowed s h (arriving w p begin bytes reply)
    → (stores reply && not (asked_alone s h w p begin)) ≡ stirs s h (arriving w p begin bytes reply)
block_stirs s h w p begin bytes reply allowed =
    by_cases (counts reply) (is_request reply) (stores reply)
    (not (endgame s h) && endgame s (arriving w p begin bytes reply ∷ h)) (not (asked_alone s h w p begin))
    (block_asks_nothing s h w p begin bytes reply allowed) (stores_count reply)
  where
    by_cases : (c r x g y : Bool) → r ≡ false → (x ≡ true → c ≡ true) → (x && y) ≡ (c && (false || ((r && g) || (x && y))))
    by_cases c true x g y none counted = absurd (cc none)
    by_cases true false x g y none counted = refl
    by_cases false false true g y none counted = absurd (cc (counted refl))
    by_cases false false false g y none counted = refl
