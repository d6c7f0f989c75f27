-- What an entry that is allowed shows of the history before it.
use Rattle.std.proofs.Common.{arith, ◌≡◌, ◌≢◌, ◌⊎◌, ℕ, ◌==◌, ◌*◌, ◌/◌, ◌<◌, Bool, true, false, not, ◌&&◌, ◌||◌, List, [], ◌∷◌, Option, None, Some, refl, ap, sym, ◌∙◌}
use Rattle.std.proofs.Common.{subst, inl, inr, ⊎_elim}
use Rattle.std.specs.Prelude.{if◌then◌else◌, nat_le, nat_lt, ⊤}
use Rattle.std.proofs.lemmas.Bool.{and_from, and_parts, not-true, not-false, or_parts, leb-false, eq-eqb, eqb-true, cases_Bool, lt-ltb}
use Rattle.bt_meta.specs.declared.block.Block.{Block}
use Rattle.bt_meta.specs.Layout.{Layout, block, block_count, block_size, piece_count, hash_of}
use Rattle.sha1.specs.Sha1.{sha1}
use Rattle.bt_history.specs.declared.call.Reason.{Reason}
use Rattle.bt_history.specs.declared.call.Reply.{Reply}
use Rattle.bt_history.specs.declared.call.Reply.TheVariants.{InFlight, Request, Stored, Completed, Dropped, Had, Failed, Refused}
use Rattle.bt_history.specs.declared.event.Action.{Action}
use Rattle.bt_history.specs.declared.event.Action.TheVariants.{Next, Arrived, Settle, Lose, Discard, Requested}
use Rattle.bt_history.specs.declared.event.Event.{Event}
use Rattle.bt_history.specs.Setting.{Setting, some_block, some_block_of, each_block_of, is_block}
use Rattle.bt_history.specs.History.{History, settles, is_had, is_failed, requested_by}
use Rattle.bt_history.specs.Peers.{asked, asked_count, due, depth_of, is_open, overdue}
use Rattle.bt_history.specs.Pieces.{held, full, content, gives, had, asked_of_some, asker_count, unasked, wanted, endgame}
use Rattle.bt_history.specs.Next.{Answer, Exactly, usable, tops, continues, starts, rises, doubles, may_count, rushes, next_answer}
use Rattle.bt_history.specs.Legal.{same_bytes, first_cause, refusal, answer, answer_unless, arrived_answer, settled_answer, Permits, IsAllowed}
use Rattle.bt_history.specs.Legal.{block_from, causes}
use Rattle.bt_history.specs.Logs.{answers, answers_next, answers_arrived, call_mark}
use Rattle.bt_history.proofs.Below.{any_found, any_witness}
use Rattle.bt_history.proofs.Delays.{nobody_asked}
use Rattle.bt_history.proofs.NextCases.{next_is, next_answers, next_request}

-- the answer to an arrival is one reply
pub arrived_exactly : (s : Setting) (h : History) (p begin : ℕ) →
    (reply : Reply) × (arrived_answer s h p begin ≡ Exactly reply) × (answers_arrived reply ≡ true)
unfolding arrived_answer
arrived_exactly s h p begin = by_cases (some_block_of s.torrent p (λ b. (b.begin == begin) && held h b))
    (each_block_of s.torrent p (λ b. (b.begin == begin) || held h b)) where
      by_cases : (x y : Bool) → (reply : Reply) × ((if x then Exactly Dropped else if y then Exactly Completed else Exactly Stored) ≡ Exactly reply) ×
          (answers_arrived reply ≡ true)
      by_cases true y = (Dropped, refl, refl)
      by_cases false true = (Completed, refl, refl)
      by_cases false false = (Stored, refl, refl)

-- a call with one reply is refused, or has that one
exactly : (t : Layout) (cause : Option Reason) (only reply : Reply) (call : Action) → answers (call_mark call) only ≡ true
    → Permits t (answer_unless cause (Exactly only)) reply → answers (call_mark call) reply ≡ true
exactly t None only reply call fits h = ap (answers (call_mark call)) h ∙ fits
exactly t (Some reason) only reply call fits h = ap (answers (call_mark call)) h ∙ refused (call_mark call) where
  refused : (mark : _) → answers mark (Refused reason) ≡ true
  refused mark = refl

next_fits : (t : Layout) (cause : Option Reason) (s : Setting) (h : History) (w word : ℕ) (reply : Reply)
    → Permits t (answer_unless cause (next_answer s h w)) reply → answers (call_mark (Next word)) reply ≡ true
next_fits t None s h w word reply is = fits reply (next_answers t _ _ _ _ _ _ _ _ _ _ _ _ _ reply
    (subst (λ (a : Answer). Permits t a reply) (next_is s h w) is)) where
      fits : (r : Reply) → answers_next r ≡ true → answers (call_mark (Next word)) r ≡ true
      fits (Refused reason) h = refl
      fits _ h = h
next_fits t (Some reason) s h w word reply is = ap (answers (call_mark (Next word))) is

-- a reply that is allowed is one that a call of its kind can have
pub allowed_answers : (s : Setting) (h : History) (e : Event) → IsAllowed s h e → answers (call_mark e.action) e.reply ≡ true
unfolding IsAllowed settled_answer
allowed_answers s h e allowed = by_call e.action allowed.1 where
  by_call : (call : Action) → Permits s.torrent (answer_unless (refusal s h e.worker call) (answer s h e.worker call)) e.reply →
      answers (call_mark call) e.reply ≡ true
  by_call (Next word) is = next_fits s.torrent (refusal s h e.worker (Next word)) s h e.worker word e.reply is
  by_call (Arrived p begin bytes) is =
      let only = arrived_exactly s h p begin in
      exactly s.torrent (refusal s h e.worker (Arrived p begin bytes)) only.0 e.reply (Arrived p begin bytes) (arrived_fits only.0 only.2)
      (subst (λ (a : Answer). Permits s.torrent (answer_unless (refusal s h e.worker (Arrived p begin bytes)) a) e.reply) only.1 is) where
        arrived_fits : (r : Reply) → answers_arrived r ≡ true → answers (call_mark (Arrived p begin bytes)) r ≡ true
        arrived_fits (Refused reason) h = refl
        arrived_fits _ h = h
  by_call (Settle p bytes) is = settled_fits (same_bytes (sha1 (content s h p)) (hash_of s.torrent p)) is where
    settled_fits : (x : Bool) → Permits s.torrent (answer_unless (refusal s h e.worker (Settle p bytes)) (Exactly (if x then Had else Failed)))
        e.reply
        → answers (call_mark (Settle p bytes)) e.reply ≡ true
    settled_fits true is = exactly s.torrent (refusal s h e.worker (Settle p bytes)) Had e.reply (Settle p bytes) refl is
    settled_fits false is = exactly s.torrent (refusal s h e.worker (Settle p bytes)) Failed e.reply (Settle p bytes) refl is
  by_call call is = exactly s.torrent (refusal s h e.worker call) _ e.reply call refl is

-- ---- refusals

-- no cause of the list holds
abbrev pub NoneHolds : List (Bool × Reason) → Type 0
NoneHolds [] = ⊤
NoneHolds (cause ∷ causes) = (cause.0 ≡ false) × NoneHolds causes

pub none_holds : (causes : List (Bool × Reason)) → first_cause causes ≡ None → NoneHolds causes
none_holds [] is = tt
none_holds (cause ∷ causes) is = ⊎_elim
    (λ (holds : cause.0 ≡ true). absurd (cc (holds, is)))
    (λ (fails : cause.0 ≡ false). (fails, none_holds causes (sym (ap (λ (x : Bool). if x then Some cause.1 else first_cause causes) fails) ∙ is)))
    (cases_Bool cause.0)

-- a reply that is no refusal shows that no cause of refusal holds
pub no_cause : (s : Setting) (h : History) (e : Event) → ((reason : Reason) → e.reply ≢ Refused reason) → IsAllowed s h e →
    refusal s h e.worker e.action ≡ None
unfolding IsAllowed
no_cause s h e unrefused allowed = either (refusal s h e.worker e.action) refl where
  either : (r : Option Reason) → refusal s h e.worker e.action ≡ r → r ≡ None
  either None is = refl
  either (Some reason) is =
      absurd (unrefused reason (subst (λ (o : Option Reason). Permits s.torrent (answer_unless o (answer s h e.worker e.action)) e.reply) is
      allowed.1))

-- where no cause of refusal holds the reply is one of the answer
pub answered : (s : Setting) (h : History) (e : Event) → refusal s h e.worker e.action ≡ None → IsAllowed s h e →
    Permits s.torrent (answer s h e.worker e.action) e.reply
unfolding IsAllowed
answered s h e no_reason allowed = subst (λ (o : Option Reason). Permits s.torrent (answer_unless o (answer s h e.worker e.action)) e.reply) no_reason
    allowed.1

pub worker_below : (s : Setting) (h : History) (e : Event) → IsAllowed s h e → e.worker < s.workers
unfolding IsAllowed
worker_below s h e allowed = allowed.0

-- ---- requests

-- what a request of block b to w shows of the history before it
pub record RequestFacts (s : Setting) (h : History) (w : ℕ) (b : Block) : Type 0 where
  pub block : is_block s.torrent b ≡ true
  pub not_asked : asked h w b ≡ false
  pub not_held : held h b ≡ false
  pub none_due : some_block s.torrent (due h w) ≡ false
  pub room : asked_count s h w < depth_of s h w
  pub alone : (asked_of_some s h b ≡ false) ⊎ (endgame s h ≡ true)
  pub few : (asked_of_some s h b ≡ false) ⊎ (nat_lt (asker_count s h b) s.askers ≡ true)
  pub rushing : (asked_of_some s h b ≡ false) ⊎ (rushes s h w ≡ true)

unasked_facts : (s : Setting) (h : History) (b : Block) → unasked s h b ≡ true → (held h b ≡ false) × (asked_of_some s h b ≡ false)
unasked_facts s h b is = or_parts (held h b) (asked_of_some s h b) (not-true _ is)

-- a block that tops is usable
pub top_usable : (s : Setting) (h : History) (w : ℕ) (b : Block) → tops s h w b ≡ true → usable s h w b ≡ true
top_usable s h w b is = (and_parts (usable s h w b) _ is).0

usable_kind : (s : Setting) (h : History) (w : ℕ) (b : Block) → w < s.workers → usable s h w b ≡ true
    → (asked h w b ≡ false) × (held h b ≡ false) × ((asked_of_some s h b ≡ false) ⊎ (endgame s h ≡ true))
    × ((asked_of_some s h b ≡ false) ⊎ (nat_lt (asker_count s h b) s.askers ≡ true))
    × ((asked_of_some s h b ≡ false) ⊎ (rushes s h w ≡ true))
usable_kind s h w b lt is =
    let free = unasked_facts s h b (and_parts (unasked s h b) _ is).0 in
    let in_time = not-true (overdue h w b) (and_parts (not (overdue h w b)) _ (and_parts (gives h w b.piece) _ (and_parts (wanted s h b.piece) _
    (and_parts (unasked s h b) _ is).1).1).1).0 in
    (nobody_asked s h w b lt free.1 in_time, free.0, inl free.1, inl free.1, inl free.1)

request_kind : (s : Setting) (h : History) (w : ℕ) (b : Block) → w < s.workers
    → (rises s h w b ≡ true) ⊎ ((continues s h w b ≡ true) ⊎ ((starts s h w b ≡ true) ⊎
    (((rushes s h w && (endgame s h && some_block s.torrent (doubles s h w))) ≡ true) × (doubles s h w b ≡ true))))
    → (asked h w b ≡ false) × (held h b ≡ false) × ((asked_of_some s h b ≡ false) ⊎ (endgame s h ≡ true))
    × ((asked_of_some s h b ≡ false) ⊎ (nat_lt (asker_count s h b) s.askers ≡ true))
    × ((asked_of_some s h b ≡ false) ⊎ (rushes s h w ≡ true))
request_kind s h w b lt kind = ⊎_elim
    (λ (up : rises s h w b ≡ true). from_top (and_parts (tops s h w b) _ up).0)
    (λ others. ⊎_elim
    (λ (on : continues s h w b ≡ true). from_top (and_parts (tops s h w b) _ on).0)
    (λ rest. ⊎_elim
    (λ (first : starts s h w b ≡ true). from_top (and_parts (tops s h w b) _ first).0)
    (λ (both : ((rushes s h w && (endgame s h && some_block s.torrent (doubles s h w))) ≡ true) × (doubles s h w b ≡ true)).
    let rushing = and_parts (rushes s h w) _ both.0 in
    let ending = (and_parts (endgame s h) _ rushing.1).0 in
    let lacking = and_parts (not (held h b)) (nat_lt (asker_count s h b) s.askers && not (asked h w b))
    (and_parts _ _ (and_parts (wanted s h b.piece) _ both.1).1).1 in
    let free = and_parts (nat_lt (asker_count s h b) s.askers) (not (asked h w b)) lacking.1 in
    (not-true (asked h w b) free.1, not-true (held h b) lacking.0, inr ending, inr free.0, inr rushing.0))
    rest)
    others)
    kind where
      from_top : tops s h w b ≡ true → (asked h w b ≡ false) × (held h b ≡ false) × ((asked_of_some s h b ≡ false) ⊎ (endgame s h ≡ true))
          × ((asked_of_some s h b ≡ false) ⊎ (nat_lt (asker_count s h b) s.askers ≡ true))
          × ((asked_of_some s h b ≡ false) ⊎ (rushes s h w ≡ true))
      from_top is = usable_kind s h w b lt (top_usable s h w b is)

next_facts : (s : Setting) (h : History) (w : ℕ) (b : Block) → w < s.workers → Permits s.torrent (next_answer s h w) (Request b) →
    RequestFacts s h w b
next_facts s h w b lt is =
    let facts = next_request s.torrent _ _ _ _ _ _ _ _ _ _ _ _ _ b (subst (λ (a : Answer). Permits s.torrent a (Request b)) (next_is s h w) is) in
    let kind = request_kind s h w b lt facts.kind in
    record {
      block = facts.block;
      not_asked = kind.0;
      not_held = kind.1;
      none_due = facts.none_due;
      room = leb-false (depth_of s h w) (asked_count s h w) facts.room;
      alone = kind.2;
      few = kind.3;
      rushing = kind.4;
    }

-- only Next is replied by a request
pub next_alone : (call : Action) (b : Block) → answers (call_mark call) (Request b) ≡ true → (word : ℕ) × (call ≡ Next word)
next_alone (Next word) b is = (word, refl)
next_alone _ b is = absurd (cc is)

-- a request is one that the rules for Next permit
pub request_next : (s : Setting) (h : History) (e : Event) (b : Block) → IsAllowed s h e → e.reply ≡ Request b
    → Permits s.torrent (next_answer s h e.worker) (Request b)
request_next s h e b allowed is =
    let call = next_alone e.action b (subst (λ (r : Reply). answers (call_mark e.action) r ≡ true) is (allowed_answers s h e allowed)) in
    let permitted = answered s h e (no_cause s h e (λ reason refused. absurd (cc (refused, is))) allowed) allowed in
    subst (λ (r : Reply). Permits s.torrent (next_answer s h e.worker) r) is
    (subst (λ (c : Action). Permits s.torrent (answer s h e.worker c) e.reply) call.1 permitted)

-- ---- requests in flight already

-- only a call that tells of one is replied so
flight_alone : (call : Action) (b : Block) → answers (call_mark call) (InFlight b) ≡ true → (p : ℕ) × (begin : ℕ) × (call ≡ Requested p begin)
flight_alone (Requested p begin) b is = (p, begin, refl)
flight_alone _ b is = absurd (cc is)

-- what such a reply shows of the history before it: there is such a block, and its request may count
pub record FlightFacts (s : Setting) (h : History) (e : Event) (b : Block) : Type 0 where
  pub piece : ℕ
  pub index : ℕ
  pub within : piece < piece_count s.torrent
  pub inside : index < block_count s.torrent piece
  pub call : e.action ≡ Requested piece (block_size * index)
  pub is : b ≡ block s.torrent piece index
  pub counts : may_count s h e.worker b ≡ true

quotient : (k : ℕ) → block_size * k / block_size ≡ k
quotient k = omega arith

pub flight_facts : (s : Setting) (h : History) (e : Event) (b : Block) → IsAllowed s h e → e.reply ≡ InFlight b → FlightFacts s h e b
flight_facts s h e b allowed is =
    let call = flight_alone e.action b (subst (λ (r : Reply). answers (call_mark e.action) r ≡ true) is (allowed_answers s h e allowed)) in
    let p = call.0 in
    let begin = call.1 in
    let no_reason = no_cause s h e (λ reason refused. absurd (cc (refused, is))) allowed in
    let none = none_holds (causes s h e.worker (Requested p begin)) (ap (refusal s h e.worker) (sym call.2) ∙ no_reason) in
    let found = any_witness (block_count s.torrent p) (λ k. (block s.torrent p k).begin == begin) (not-false _ none.1.1.0) in
    let begins : begin ≡ block_size * found.0 = sym (eqb-true (block_size * found.0) begin found.2) in
    let index : begin / block_size ≡ found.0 = ap (λ (n : ℕ). n / block_size) begins ∙ quotient found.0 in
    let named : InFlight b ≡ InFlight (block_from s.torrent p begin) =
    subst (λ (r : Reply). r ≡ InFlight (block_from s.torrent p begin)) is
    (subst (λ (c : Action). Permits s.torrent (answer s h e.worker c) e.reply) call.2 (answered s h e no_reason allowed)) in
    let at : b ≡ block_from s.torrent p begin = flight_block b _ named in
    record {
      piece = p;
      index = found.0;
      within = leb-false (piece_count s.torrent) p none.1.0;
      inside = found.1;
      call = call.2 ∙ ap (Requested p) begins;
      is = at ∙ ap (block s.torrent p) index;
      counts = ap (may_count s h e.worker) at ∙ not-false _ none.1.1.1.0;
    }
  where
    block_in : Reply → Block → Block
    block_in (InFlight c) other = c
    block_in r other = other

    flight_block : (x y : Block) → InFlight x ≡ InFlight y → x ≡ y
    flight_block x y same = ap (λ (r : Reply). block_in r x) same

-- a request that may count is one of a usable block
pub count_usable : (s : Setting) (h : History) (w : ℕ) (b : Block) → may_count s h w b ≡ true → usable s h w b ≡ true
count_usable s h w b is =
    (and_parts (not (nat_le (depth_of s h w) (asked_count s h w))) _ (and_parts (is_open h w) _ (and_parts (not (some_block s.torrent (due h w))) _ is).1).1).1

counted_facts : (s : Setting) (h : History) (e : Event) (b : Block) → IsAllowed s h e → e.reply ≡ InFlight b → RequestFacts s h e.worker b
counted_facts s h e b allowed is =
    let facts = flight_facts s h e b allowed is in
    let w = e.worker in
    let owed = and_parts (not (some_block s.torrent (due h w))) _ facts.counts in
    let room = and_parts (not (nat_le (depth_of s h w) (asked_count s h w))) (usable s h w b) (and_parts (is_open h w) _ owed.1).1 in
    let kind = usable_kind s h w b (worker_below s h e allowed) room.1 in
    record {
      block = ap (is_block s.torrent) facts.is ∙ block_inside s.torrent facts.piece facts.index facts.within facts.inside;
      not_asked = kind.0;
      not_held = kind.1;
      none_due = not-true _ owed.0;
      room = leb-false (depth_of s h w) (asked_count s h w) (not-true _ room.0);
      alone = kind.2;
      few = kind.3;
      rushing = kind.4;
    }
  where
    block_inside : (t : Layout) (p k : ℕ) → p < piece_count t → k < block_count t p → is_block t (block t p k) ≡ true
    block_inside t p k lt lk =
        let b = block t p k in
        and_from _ _ (lt-ltb p (piece_count t) lt) (any_found (block_count t p) (λ j. ((block t p j).begin == b.begin) && ((block t p j).len == b.len)) k lk
        (and_from (b.begin == b.begin) (b.len == b.len) (eq-eqb b.begin b.begin refl) (eq-eqb b.len b.len refl)))

-- ---- what a reply asks for

-- a reply asks for a block, or counts one as asked, or neither
pub request_kinds : (r : Reply) (b : Block) → requested_by r ≡ b ∷ [] → (r ≡ Request b) ⊎ (r ≡ InFlight b)
request_kinds (Request a) b is = inl (ap Request (first_is a b is)) where
  first_is : (x y : Block) → x ∷ [] ≡ y ∷ [] → x ≡ y
  first_is x y same = ap (first_or x) same where
    first_or : Block → List Block → Block
    first_or other [] = other
    first_or other (c ∷ cs) = c
request_kinds (InFlight a) b is = inr (ap InFlight (first_is a b is)) where
  first_is : (x y : Block) → x ∷ [] ≡ y ∷ [] → x ≡ y
  first_is x y same = ap (first_or x) same where
    first_or : Block → List Block → Block
    first_or other [] = other
    first_or other (c ∷ cs) = c
request_kinds r b is = absurd (cc is)

pub request_facts : (s : Setting) (h : History) (e : Event) (b : Block) → IsAllowed s h e → requested_by e.reply ≡ b ∷ [] → RequestFacts s h e.worker b
request_facts s h e b allowed is = ⊎_elim
    (λ (asks : e.reply ≡ Request b). next_facts s h e.worker b (worker_below s h e allowed) (request_next s h e b allowed asks))
    (λ (counts : e.reply ≡ InFlight b). counted_facts s h e b allowed counts)
    (request_kinds e.reply b is)

-- what is requested is usable, or it is asked a second time in endgame
pub usable_or_doubles : (s : Setting) (h : History) (e : Event) (b : Block) → IsAllowed s h e → e.reply ≡ Request b
    → (usable s h e.worker b ≡ true) ⊎ ((endgame s h ≡ true) × (doubles s h e.worker b ≡ true))
usable_or_doubles s h e b allowed is =
    let w = e.worker in
    let facts = next_request s.torrent _ _ _ _ _ _ _ _ _ _ _ _ _ b
    (subst (λ (a : Answer). Permits s.torrent a (Request b)) (next_is s h w) (request_next s h e b allowed is)) in
    ⊎_elim
    (λ (up : rises s h w b ≡ true). inl (top_usable s h w b (and_parts (tops s h w b) _ up).0))
    (λ others. ⊎_elim
    (λ (on : continues s h w b ≡ true). inl (top_usable s h w b (and_parts (tops s h w b) _ on).0))
    (λ rest. ⊎_elim
    (λ (first : starts s h w b ≡ true). inl (top_usable s h w b (and_parts (tops s h w b) _ first).0))
    (λ (both : ((rushes s h w && (endgame s h && some_block s.torrent (doubles s h w))) ≡ true) × (doubles s h w b ≡ true)).
    inr ((and_parts (endgame s h) _ (and_parts (rushes s h w) _ both.0).1).0, both.1))
    rest)
    others)
    facts.kind

-- ---- checks

settled : (call : Action) (p : ℕ) → settles call p ≡ true → (bytes : List ℕ) × (call ≡ Settle p bytes)
settled (Settle r bytes) p is = (bytes, ap (λ (m : ℕ). Settle m bytes) (eqb-true r p is))
settled _ p is = absurd (cc is)

-- what a check of piece p that was made shows of the history before it
pub record CheckFacts (s : Setting) (h : History) (p : ℕ) (bytes : List ℕ) : Type 0 where
  pub piece : nat_le (piece_count s.torrent) p ≡ false
  pub is_full : full s h p ≡ true
  pub not_had : had h p ≡ false
  pub current : same_bytes bytes (content s h p) ≡ true

pub settle_facts : (s : Setting) (h : History) (w p : ℕ) (bytes : List ℕ) → refusal s h w (Settle p bytes) ≡ None → CheckFacts s h p bytes
settle_facts s h w p bytes is =
    let none = none_holds (causes s h w (Settle p bytes)) is in
    let waits = or_parts (not (full s h p)) (had h p) none.1.0 in
    record { piece = none.0; is_full = not-false _ waits.0; not_had = waits.1; current = not-false _ none.1.1.0 }

pub check_facts : (s : Setting) (h : History) (e : Event) (p : ℕ) → IsAllowed s h e → ((reason : Reason) → e.reply ≢ Refused reason) →
    settles e.action p ≡ true
    → (full s h p ≡ true) × (had h p ≡ false)
check_facts s h e p allowed unrefused settling =
    let call = settled e.action p settling in
    let facts = settle_facts s h e.worker p call.0 (ap (refusal s h e.worker) (sym call.1) ∙ no_cause s h e unrefused allowed) in
    (facts.is_full, facts.not_had)

-- a check that passed was of bytes with the hash of their piece
pub passed_hash : (s : Setting) (h : History) (e : Event) (p : ℕ) → IsAllowed s h e → e.reply ≡ Had → settles e.action p ≡ true
    → same_bytes (sha1 (content s h p)) (hash_of s.torrent p) ≡ true
unfolding settled_answer
passed_hash s h e p allowed is settling =
    let call = settled e.action p settling in
    let permitted = answered s h e (no_cause s h e (λ reason refused. absurd (cc (refused, is))) allowed) allowed in
    had_only (same_bytes (sha1 (content s h p)) (hash_of s.torrent p))
    (subst (λ (r : Reply). Permits s.torrent (settled_answer s h p) r) is
    (subst (λ (c : Action). Permits s.torrent (answer s h e.worker c) e.reply) call.1 permitted)) where
      had_only : (x : Bool) → Had ≡ (if x then Had else Failed) → x ≡ true
      had_only true h = refl
      had_only false h = absurd (cc h)

pub had_reply : (r : Reply) → is_had r ≡ true → r ≡ Had
had_reply Had is = refl
had_reply _ is = absurd (cc is)

-- a check alone is answered that its piece is had
pub had_settles : (s : Setting) (h : History) (e : Event) → IsAllowed s h e → e.reply ≡ Had → (p : ℕ) × (bytes : List ℕ) × (e.action ≡ Settle p bytes)
had_settles s h e allowed is = by_call e.action refl
    (subst (λ (r : Reply). answers (call_mark e.action) r ≡ true) is (allowed_answers s h e allowed))
    (subst (λ (r : Reply). Permits s.torrent (answer s h e.worker e.action) r) is
    (answered s h e (no_cause s h e (λ reason refused. absurd (cc (is, refused))) allowed) allowed))
  where
    by_call : (call : Action) → e.action ≡ call → answers (call_mark call) Had ≡ true → Permits s.torrent (answer s h e.worker call) Had
        → (p : ℕ) × (bytes : List ℕ) × (e.action ≡ Settle p bytes)
    by_call (Settle p bytes) at fits permitted = (p, bytes, at)
    by_call (Lose p) at fits permitted = absurd (cc permitted)
    by_call (Discard p begin) at fits permitted = absurd (cc permitted)
    by_call (Next word) at fits permitted = absurd (cc fits)
    by_call (Arrived p begin bytes) at fits permitted = absurd (cc fits)
    by_call _ at fits permitted = absurd (cc fits)

pub failed_reply : (r : Reply) → is_failed r ≡ true → r ≡ Failed
failed_reply Failed is = refl
failed_reply _ is = absurd (cc is)
