-- What an arrival that is allowed shows of the history before it.
use Rattle.std.proofs.Common.{◌≡◌, ◌≢◌, ℕ, ◌==◌, ◌*◌, ◌<◌, Bool, true, false, ◌&&◌, ◌||◌, List, None, Some, length, refl, ap, sym, ◌∙◌, subst}
use Rattle.std.specs.Prelude.{is_some, if◌then◌else◌}
use Rattle.std.proofs.lemmas.Bool.{and_parts, and_from, leb-false, eqb-true, eq-eqb, false≢true, not-false}
use Rattle.bt_meta.specs.declared.block.Block.{Block}
use Rattle.bt_meta.specs.Layout.{piece_count, block_count, block, block_size}
use Rattle.bt_history.specs.declared.call.Reason.{Reason}
use Rattle.bt_history.specs.declared.call.Reply.{Reply}
use Rattle.bt_history.specs.declared.call.Reply.TheVariants.{Stored, Completed, Dropped, Refused}
use Rattle.bt_history.specs.declared.event.Action.{Action}
use Rattle.bt_history.specs.declared.event.Action.TheVariants.{Arrived}
use Rattle.bt_history.specs.declared.event.Event.{Event}
use Rattle.bt_history.specs.Setting.{Setting, some_block_of, each_block_of}
use Rattle.bt_history.specs.History.{History, stores, stored, bytes_for}
use Rattle.bt_history.specs.Peers.{joined}
use Rattle.bt_history.specs.Pieces.{held}
use Rattle.bt_history.specs.Next.{Exactly}
use Rattle.bt_history.specs.Legal.{refusal, answer, arrived_answer, Permits, IsAllowed, causes}
use Rattle.bt_history.specs.Logs.{answers, call_mark}
use Rattle.bt_history.proofs.Below.{any_fails, any_witness}
use Rattle.bt_history.proofs.SameBegin.{held_at}
use Rattle.bt_history.proofs.Allowed.{allowed_answers, no_cause, answered, none_holds}

-- an arrival that is not refused is of a block of the torrent, from a joined peer
pub record ArrivalFacts (s : Setting) (h : History) (w p begin : ℕ) (bytes : List ℕ) : Type 0 where
  pub peer : joined h w ≡ true
  pub piece : p < piece_count s.torrent
  pub index : ℕ
  pub within : index < block_count s.torrent p
  pub begins : begin ≡ block_size * index
  pub len : (block s.torrent p index).len ≡ length bytes

pub arrival_facts : (s : Setting) (h : History) (w p begin : ℕ) (bytes : List ℕ) → refusal s h w (Arrived p begin bytes) ≡ None →
    ArrivalFacts s h w p begin bytes
arrival_facts s h w p begin bytes is =
    let none = none_holds (causes s h w (Arrived p begin bytes)) is in
    let found = any_witness (block_count s.torrent p) (λ k. ((block s.torrent p k).begin == begin) && ((block s.torrent p k).len == length bytes))
    (not-false _ none.1.1.1.0) in
    let both = and_parts ((block s.torrent p found.0).begin == begin) ((block s.torrent p found.0).len == length bytes) found.2 in
    record {
      peer = not-false _ none.0;
      piece = leb-false (piece_count s.torrent) p none.1.0;
      index = found.0;
      within = found.1;
      begins = sym (eqb-true (block s.torrent p found.0).begin begin both.0);
      len = eqb-true (block s.torrent p found.0).len (length bytes) both.1;
    }

-- an entry that stored something
pub record StoreFacts (s : Setting) (h : History) (e : Event) : Type 0 where
  pub piece : ℕ
  pub begin : ℕ
  pub bytes : List ℕ
  pub call : e.action ≡ Arrived piece begin bytes
  pub arrival : ArrivalFacts s h e.worker piece begin bytes
  pub not_held : held h (block s.torrent piece arrival.index) ≡ false

-- the call is an arrival
abbrev Arrives : Action → Type 0
Arrives call = (p : ℕ) × (begin : ℕ) × (bytes : List ℕ) × (call ≡ Arrived p begin bytes)

stored_alone : (call : Action) → answers (call_mark call) Stored ≡ true → Arrives call
stored_alone (Arrived p begin bytes) is = (p, begin, bytes, refl)
stored_alone _ is = absurd (cc is)

completed_alone : (call : Action) → answers (call_mark call) Completed ≡ true → Arrives call
completed_alone (Arrived p begin bytes) is = (p, begin, bytes, refl)
completed_alone _ is = absurd (cc is)

arrived_alone : (call : Action) (r : Reply) → stores r ≡ true → answers (call_mark call) r ≡ true → Arrives call
arrived_alone call Stored storing is = stored_alone call is
arrived_alone call Completed storing is = completed_alone call is
arrived_alone call _ storing is = absurd (cc storing)

not_dropped : (s : Setting) (h : History) (p begin : ℕ) (r : Reply) → stores r ≡ true → Permits s.torrent (arrived_answer s h p begin) r
    → some_block_of s.torrent p (λ b. (b.begin == begin) && held h b) ≡ false
unfolding arrived_answer
not_dropped s h p begin r storing is = by_cases (some_block_of s.torrent p (λ b. (b.begin == begin) && held h b)) is where
  by_cases : (x : Bool) → Permits s.torrent (if x then Exactly Dropped else if each_block_of s.torrent p (λ b. (b.begin == begin) || held h b) then
      Exactly Completed else Exactly Stored) r → x ≡ false
  by_cases false h = refl
  by_cases true h = absurd (false≢true (sym (ap stores h) ∙ storing))

not_refused : (r : Reply) (reason : Reason) → stores r ≡ true → r ≢ Refused reason
not_refused r reason storing is = false≢true (sym (ap stores is) ∙ storing)

pub store_facts : (s : Setting) (h : History) (e : Event) → IsAllowed s h e → stores e.reply ≡ true → StoreFacts s h e
store_facts s h e allowed storing =
    let call = arrived_alone e.action e.reply storing (allowed_answers s h e allowed) in
    let no_reason = no_cause s h e (λ reason. not_refused e.reply reason storing) allowed in
    let arrival = arrival_facts s h e.worker call.0 call.1 call.2 (ap (refusal s h e.worker) (sym call.3) ∙ no_reason) in
    let permitted = subst (λ (c : Action). Permits s.torrent (answer s h e.worker c) e.reply) call.3 (answered s h e no_reason allowed) in
    let none = any_fails (block_count s.torrent call.0) (λ k. ((block s.torrent call.0 k).begin == call.1) && held h (block s.torrent call.0 k))
    arrival.index
    (not_dropped s h call.0 call.1 e.reply storing permitted) arrival.within in
    record {
      piece = call.0;
      begin = call.1;
      bytes = call.2;
      call = call.3;
      arrival = arrival;
      not_held = second (eq-eqb (block_size * arrival.index) call.1 (sym arrival.begins)) none;
    }
  where
    second : {x y : Bool} → x ≡ true → (x && y) ≡ false → y ≡ false
    second {x = true} {y = y} one none = none
    second {x = false} {y = y} one none = absurd (cc one)

-- an entry stores a block that was not held
pub stored_unheld : (s : Setting) (h : History) (e : Event) (b : Block) → IsAllowed s h e → is_some (stored e b) ≡ true → held h b ≡ false
stored_unheld s h e b allowed is = by_reply (stores e.reply) refl where
  at_place : (p begin : ℕ) (bytes : List ℕ) → is_some (bytes_for b (Arrived p begin bytes)) ≡ true → (p ≡ b.piece) × (begin ≡ b.begin)
  at_place p begin bytes some = by_test ((p == b.piece) && (begin == b.begin)) refl where
    by_test : (x : Bool) → ((p == b.piece) && (begin == b.begin)) ≡ x → (p ≡ b.piece) × (begin ≡ b.begin)
    by_test true is = let parts = and_parts (p == b.piece) (begin == b.begin) is in (eqb-true p b.piece parts.0, eqb-true begin b.begin parts.1)
    by_test false fails = absurd (false≢true (sym (ap (λ (x : Bool). is_some (if x then Some bytes else None)) fails) ∙ some))

  by_reply : (x : Bool) → stores e.reply ≡ x → held h b ≡ false
  by_reply false is_not = absurd (false≢true (sym (ap (λ (x : Bool). is_some (if x then bytes_for b e.action else None)) is_not) ∙ is))
  by_reply true storing =
      let facts = store_facts s h e allowed storing in
      let some = sym (ap (λ (x : Bool). is_some (if x then bytes_for b e.action else None)) storing) ∙ is in
      let at = at_place facts.piece facts.begin facts.bytes (sym (ap (λ (c : Action). is_some (bytes_for b c)) facts.call) ∙ some) in
      let c = block s.torrent facts.piece facts.arrival.index in
      held_at h c b (and_from (c.piece == b.piece) (c.begin == b.begin) (eq-eqb c.piece b.piece at.0)
      (eq-eqb c.begin b.begin (sym facts.arrival.begins ∙ at.1)))
      ∙ facts.not_held
