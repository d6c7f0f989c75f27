-- What holds of peers that work alone, and of pieces that are their own.
use Rattle.std.proofs.Common.{◌≡◌, ◌≢◌, ℕ, ◌==◌, ◌<◌, Bool, true, false, not, ◌&&◌, ◌||◌, [], ◌∷◌, Option, None, Some, refl, ap, sym, ◌∙◌, ⊎_elim, subst}
use Rattle.std.specs.Prelude.{if◌then◌else◌, nat_lt}
use Rattle.std.proofs.lemmas.Bool.{and_from, and_left, and_parts, and_right, eqb-true, false_from_ne_true, false≢true, lt-ltb, not-false, not-true, or_left}
use Rattle.std.proofs.lemmas.Bool.{or_parts, or_right}
use Rattle.std.proofs.Math.Bool.{and-true}
use Rattle.bt_meta.specs.declared.block.Block.{Block}
use Rattle.bt_meta.specs.Layout.{block, block_count}
use Rattle.bt_history.specs.declared.call.Reply.{Reply}
use Rattle.bt_history.specs.declared.call.Reply.TheVariants.{Request}
use Rattle.bt_history.specs.declared.event.Action.{Action}
use Rattle.bt_history.specs.declared.event.Action.TheVariants.{Alone, Next}
use Rattle.bt_history.specs.declared.event.Event.{Event}
use Rattle.bt_history.specs.Before.{never_alone, resumes_unowned, tells_alone, usable_unowned}
use Rattle.bt_history.specs.Counting.{all_below}
use Rattle.bt_history.specs.History.{History, counts, own_call, requested_by}
use Rattle.bt_history.specs.Legal.{IsAllowed, causes, refusal}
use Rattle.bt_history.specs.Next.{doubles, resumes, usable}
use Rattle.bt_history.specs.Peers.{alone, alone_after, expected, is_open, joined, overdue, shows}
use Rattle.bt_history.specs.Pieces.{asked_of_some, awaited, availability, begun, belongs, endgame, gives, had, held, held_or_asked, is_free_for, is_of}
use Rattle.bt_history.specs.Pieces.{is_open_piece, is_own, is_peer, is_sole, offers, sender, unasked, unbegun, wanted}
use Rattle.bt_history.specs.Setting.{Setting, each_block, is_block, some_block_of}
use Rattle.bt_history.proofs.Allowed.{next_alone, no_cause, none_holds, request_facts, usable_or_doubles, worker_below}
use Rattle.bt_history.proofs.Below.{all_at, all_found, any_fails, any_found, any_none, any_witness, count_found}
use Rattle.bt_history.proofs.Levels.{each_at}
use Rattle.bt_history.proofs.Allowed.{allowed_answers}
use Rattle.bt_history.specs.Logs.{answers, call_mark}

-- ---- whose a piece is

peer_is : (o : Option ℕ) (q : ℕ) → is_peer o q ≡ true → o ≡ Some q
peer_is None q is = absurd (cc is)
peer_is (Some w) q is = ap Some (eqb-true w q is)

-- a block that is neither held nor expected is anybody's
pub untouched_of : (s : Setting) (h : History) (q : ℕ) (b : Block) → held_or_asked s h b ≡ false → is_of s h q b ≡ true
untouched_of s h q b none =
    let parts = or_parts (held h b) (asked_of_some s h b) none in
    ap (λ (x : Bool). if x then is_peer (sender h b) q else all_below s.workers (λ w. not (expected h w b) || (w == q))) parts.0
    ∙ all_found s.workers (λ w. not (expected h w b) || (w == q)) (λ w lw. or_left (not (expected h w b)) (w == q)
    (ap not (any_fails s.workers (λ r. expected h r b) w parts.1 lw)))

-- so a piece that is yet to be started is too
pub unbegun_sole : (s : Setting) (h : History) (q p : ℕ) → unbegun s h p ≡ true → is_sole s h q p ≡ true
unbegun_sole s h q p is =
    let none = not-true (some_block_of s.torrent p (held_or_asked s h)) (and_parts (not (had h p)) _ is).1 in
    all_found (block_count s.torrent p) (λ k. is_of s h q (block s.torrent p k)) (λ k lk. untouched_of s h q (block s.torrent p k)
    (any_fails (block_count s.torrent p) (λ j. held_or_asked s h (block s.torrent p j)) k none lk))

-- a block that is held or expected is of one peer
of_one : (s : Setting) (h : History) (q w : ℕ) (b : Block) → held_or_asked s h b ≡ true → is_of s h q b ≡ true → is_of s h w b ≡ true → q ≡ w
of_one s h q w b touched of_q of_w = by_held (held h b) refl where
  at : (r : ℕ) (x : Bool) → held h b ≡ x → is_of s h r b ≡ true
      → (if x then is_peer (sender h b) r else all_below s.workers (λ u. not (expected h u b) || (u == r))) ≡ true
  at r x is of_r = sym (ap (λ (y : Bool). if y then is_peer (sender h b) r else all_below s.workers (λ u. not (expected h u b) || (u == r))) is) ∙ of_r

  by_held : (x : Bool) → held h b ≡ x → q ≡ w
  by_held true is =
      let one = peer_is (sender h b) q (at q true is of_q) in
      let two = peer_is (sender h b) w (at w true is of_w) in
      cc (one, two)
  by_held false is =
      let some : asked_of_some s h b ≡ true = sym (ap (λ (x : Bool). x || asked_of_some s h b) is) ∙ touched in
      let found = any_witness s.workers (λ r. expected h r b) some in
      let u = found.0 in
      let is_at : (r : ℕ) → is_of s h r b ≡ true → u ≡ r = λ r of_r. eqb-true u r
      (sym (ap (λ (x : Bool). not x || (u == r)) found.2) ∙ all_at s.workers (λ v. not (expected h v b) || (v == r)) u (at r false is of_r) found.1) in
      sym (is_at q of_q) ∙ is_at w of_w

-- and all of a begun piece is one peer's
sole_same : (s : Setting) (h : History) (q w p : ℕ) → begun s h p ≡ true → is_sole s h q p ≡ true → is_sole s h w p ≡ true → q ≡ w
sole_same s h q w p on of_q of_w =
    let touched = (and_parts (not (had h p)) (some_block_of s.torrent p (held_or_asked s h)) on).1 in
    let found = any_witness (block_count s.torrent p) (λ k. held_or_asked s h (block s.torrent p k)) touched in
    of_one s h q w (block s.torrent p found.0) found.2 (all_at (block_count s.torrent p) (λ k. is_of s h q (block s.torrent p k)) found.0 of_q found.1)
    (all_at (block_count s.torrent p) (λ k. is_of s h w (block s.torrent p k)) found.0 of_w found.1)

-- what a piece of its own says of a peer
pub record OwnFacts (s : Setting) (h : History) (q p : ℕ) : Type 0 where
  pub works : alone h q ≡ true
  pub opened : is_open h q ≡ true
  pub on : begun s h p ≡ true
  pub sole : is_sole s h q p ≡ true

pub own_facts : (s : Setting) (h : History) (q p : ℕ) → is_own s h q p ≡ true → OwnFacts s h q p
own_facts s h q p is =
    let one = and_parts (alone h q) _ is in
    let two = and_parts (is_open h q) _ one.1 in
    let three = and_parts (begun s h p) (is_sole s h q p) two.1 in
    record { works = one.0; opened = two.0; on = three.0; sole = three.1 }

-- nobody else may take part in a piece of its own
pub own_alone : (s : Setting) (h : History) (q v p : ℕ) → q < s.workers → is_own s h q p ≡ true → is_free_for s h v p ≡ true → v ≡ q
own_alone s h q v p lq own free = by_alone (alone h v) refl where
  by_alone : (x : Bool) → alone h v ≡ x → v ≡ q
  by_alone true works =
      let facts = own_facts s h q p own in
      sole_same s h v q p facts.on (sym (ap (λ (x : Bool). if x then is_sole s h v p else not (belongs s h p)) works) ∙ free) facts.sole
  by_alone false shares = absurd (false≢true
      (sym (not-true (belongs s h p) (sym (ap (λ (x : Bool). if x then is_sole s h v p else not (belongs s h p)) shares) ∙ free))
      ∙ any_found s.workers (λ w. is_own s h w p) q lq own))

-- and anybody may take part in a piece that is yet to be started
pub unbegun_free : (s : Setting) (h : History) (q p : ℕ) → unbegun s h p ≡ true → is_free_for s h q p ≡ true
unbegun_free s h q p is = by_alone (alone h q) where
  fresh : begun s h p ≡ false
  fresh = and_right (not (had h p)) (some_block_of s.torrent p (held_or_asked s h))
      (not-true (some_block_of s.torrent p (held_or_asked s h)) (and_parts (not (had h p)) _ is).1)

  by_alone : (x : Bool) → (if x then is_sole s h q p else not (belongs s h p)) ≡ true
  by_alone true = unbegun_sole s h q p is
  by_alone false = ap not (any_none s.workers (λ w. is_own s h w p) (λ w lw.
      and_right (alone h w) _ (and_right (is_open h w) _ (and_left (begun s h p) (is_sole s h w p) fresh))))

-- ---- what is asked of whom

-- who is asked for a block is in
request_joined : (s : Setting) (h : History) (e : Event) (b : Block) → IsAllowed s h e → e.reply ≡ Request b → joined h e.worker ≡ true
request_joined s h e b allowed is =
    let call = next_alone e.action b (subst (λ (r : Reply). answers (call_mark e.action) r ≡ true) is (allowed_answers s h e allowed)) in
    let none = none_holds (causes s h e.worker (Next call.0))
    (ap (refusal s h e.worker) (sym call.1) ∙ no_cause s h e (λ reason refused. absurd (cc (refused, is))) allowed) in
    not-false (joined h e.worker) none.0

-- endgame waits for the piece of a block that is asked a second time
pub doubled_awaited : (s : Setting) (h : History) (e : Event) (b : Block) → IsAllowed s h e → e.reply ≡ Request b → doubles s h e.worker b ≡ true
    → awaited s h b.piece ≡ true
doubled_awaited s h e b allowed is too =
    let wants = and_parts (wanted s h b.piece) _ too in
    let shown = (and_parts (shows h e.worker b.piece) _ (and_parts (gives h e.worker b.piece) _ wants.1).0).0 in
    let some = count_found s.workers (λ q. joined h q && shows h q b.piece) e.worker (worker_below s h e allowed)
    (and_from (joined h e.worker) (shows h e.worker b.piece) (request_joined s h e b allowed is) shown) in
    and_from (wanted s h b.piece) _ wants.0 (or_right (not s.shown) (nat_lt 0 (availability s h b.piece)) (lt-ltb 0 (availability s h b.piece) some))

-- in endgame none of its blocks is unasked
pub awaited_touched : (s : Setting) (h : History) (c : Block) → endgame s h ≡ true → awaited s h c.piece ≡ true → is_block s.torrent c ≡ true
    → held_or_asked s h c ≡ true
awaited_touched s h c ending waits inside =
    let all = (and_parts (each_block s.torrent (λ b. not (awaited s h b.piece) || held_or_asked s h b)) _ ending).0 in
    sym (ap (λ (x : Bool). not x || held_or_asked s h c) waits) ∙ each_at s (λ b. not (awaited s h b.piece) || held_or_asked s h b) c all inside

-- what is asked first is usable
asked_first : (s : Setting) (h : History) (e : Event) (b : Block) → IsAllowed s h e → e.reply ≡ Request b → unasked s h b ≡ true
    → usable s h e.worker b ≡ true
asked_first s h e b allowed is free = ⊎_elim
    (λ (fits : usable s h e.worker b ≡ true). fits)
    (λ (again : (endgame s h ≡ true) × (doubles s h e.worker b ≡ true)). absurd (false≢true
    (sym (not-true (held_or_asked s h b) free) ∙ awaited_touched s h b again.0 (doubled_awaited s h e b allowed is again.1)
    (request_facts s h e b allowed (ap requested_by is)).block)))
    (usable_or_doubles s h e b allowed is)

pub usable_part : (s : Setting) (h : History) (q : ℕ) (b : Block) → usable s h q b ≡ true → is_free_for s h q b.piece ≡ true
usable_part s h q b fits = (and_parts (not (overdue h q b)) _ (and_parts (gives h q b.piece) _ (and_parts (wanted s h b.piece) _
    (and_parts (unasked s h b) _ fits).1).1).1).1

-- a peer that works alone is asked first for blocks of pieces alone that nobody else has to do with
pub works_apart : (s : Setting) (h : History) (e : Event) (b : Block) → IsAllowed s h e → e.reply ≡ Request b → alone h e.worker ≡ true
    → unasked s h b ≡ true → is_sole s h e.worker b.piece ≡ true
works_apart s h e b allowed is works free =
    sym (ap (λ (x : Bool). if x then is_sole s h e.worker b.piece else not (belongs s h b.piece)) works)
    ∙ usable_part s h e.worker b (asked_first s h e b allowed is free)

-- and nobody is asked first for a block of a piece that is another's own
pub own_unasked : (s : Setting) (h : History) (e : Event) (b : Block) (q : ℕ) → IsAllowed s h e → e.reply ≡ Request b → q < s.workers
    → q ≢ e.worker → is_own s h q b.piece ≡ true → unasked s h b ≡ false
own_unasked s h e b q allowed is lq other own = false_from_ne_true (unasked s h b) (λ free.
    other (sym (own_alone s h q e.worker b.piece lq own (usable_part s h e.worker b (asked_first s h e b allowed is free)))))

-- ---- where nobody was told to work alone

alone_none : (call : Action) (x : Bool) → tells_alone call ≡ false → alone_after (if x then Some call else None) false ≡ false
alone_none call false isnt = refl
alone_none (Alone alone) true isnt = absurd (cc isnt)
alone_none call true isnt = refl

-- nobody works alone
pub none_alone : (h : History) (q : ℕ) → never_alone h ≡ true → alone h q ≡ false
unfolding alone never_alone
none_alone [] q never = refl
none_alone (e ∷ h) q never =
    let parts = and_parts (not (tells_alone e.action)) (never_alone h) never in
    ap (alone_after (own_call q e)) (none_alone h q parts.1)
    ∙ alone_none e.action (counts e.reply && (e.worker == q)) (not-true (tells_alone e.action) parts.0)

-- where no worker's peer works alone each may take part in every piece
pub together : (s : Setting) (h : History) (q p : ℕ) → alone h q ≡ false → ((w : ℕ) → w < s.workers → alone h w ≡ false) → is_free_for s h q p ≡ true
together s h q p own none =
    ap (λ (x : Bool). if x then is_sole s h q p else not (belongs s h p)) own
    ∙ ap not (any_none s.workers (λ w. is_own s h w p)
    (λ w lw. ap (λ (x : Bool). x && (is_open h w && (begun s h p && is_sole s h w p))) (none w lw)))

module _ (h : History) (never : never_alone h ≡ true) (s : Setting) where
  pub free_unowned : (q p : ℕ) → is_free_for s h q p ≡ true
  free_unowned q p = together s h q p (none_alone h q never) (λ w lw. none_alone h w never)

  pub usable_as_unowned : (q : ℕ) (b : Block) → usable s h q b ≡ usable_unowned s h q b
  usable_as_unowned q b =
      ap (λ (x : Bool). unasked s h b && (wanted s h b.piece && (gives h q b.piece && (not (overdue h q b) && x)))) (free_unowned q b.piece)
      ∙ ap (λ (x : Bool). unasked s h b && (wanted s h b.piece && (gives h q b.piece && x))) (and-true (not (overdue h q b)))

  pub resumes_as_unowned : (q p : ℕ) → resumes s h q p ≡ resumes_unowned s h q p
  resumes_as_unowned q p =
      ap (λ (x : Bool). is_open_piece s h p && (offers s h q p && x)) (free_unowned q p)
      ∙ ap (λ (x : Bool). is_open_piece s h p && x) (and-true (offers s h q p))
