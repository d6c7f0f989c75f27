-- What a turn left that broke off.
use Rattle.std.proofs.Common.{◌≡◌, ◌≢◌, ◌<◌, length, arith, ℕ, List, [], ◌∷◌, ◌++◌, Bool, true, false, Option, Some, Err, refl, sym, ap, subst, inl}
use Rattle.std.proofs.Common.{inr, ◌∙◌}
use Rattle.std.specs.Prelude.{if◌then◌else◌}
use Rattle.std.proofs.lemmas.List.{append-nil}
use Rattle.std.specs.Io.KnownBytes.{Appends}
use Rattle.bt_wire.specs.declared.hello.Hello.{Hello}
use Rattle.bt_wire.specs.declared.message.Message.{Message}
use Rattle.bt_wire.specs.declared.message.Message.TheVariants as messages
use Rattle.bt_wire.specs.Stream.{InboundState}
use Rattle.bt_history.specs.declared.call.Reason.{Reason}
use Rattle.bt_history.specs.declared.call.Reply.TheVariants as replies
use Rattle.bt_history.specs.declared.event.Action.TheVariants as actions
use Rattle.bt_peer.specs.declared.fault.SessionFault.{SessionFault}
use Rattle.bt_peer.specs.declared.fault.SessionFault.TheVariants as faults
use Rattle.bt_peer.specs.Acts.{Act, Called, is_in}
use Rattle.bt_peer.specs.Places.{PlaceRecord, Gains, GainsUpTo, LacksMemory}
use Rattle.bt_peer.specs.Writer.{greeting, says}
use Rattle.bt_peer.specs.Turns.{BeginsTurn}
use Rattle.bt_peer.specs.Outlets.{Outlet, WroteFront, EndsCalls}
use Rattle.bt_peer.specs.Parts.{GreetingFails, ListeningFails, TurnStops}
use Rattle.bt_peer.specs.Reader.{Hears, HearsEnd, HearsFault, SourceState}
use Rattle.bt_peer.specs.Sessions.{SessionState, FailsWith}
use Rattle.bt_peer.specs.Steps.{Start, start, Surroundings, BreaksBy, StopsTurn, Departs, Leaves}
use Rattle.bt_peer.proofs.Opening.{unchecked}
use Rattle.bt_peer.proofs.Staying.{stays_in}
use Rattle.bt_peer.proofs.Stretches.{Gains-none, GainsUpTo-join, up_to}
use Rattle.std.proofs.KnownBytes.{Appends-nil}

heard_fault : (fault : SessionFault) (old : Start) (source : SourceState) → HearsFault old.stream old.left source fault → BreaksBy fault old source []
heard_fault (faults.Wire fault) old source h = (h, refl)
heard_fault faults.ReadFault old source h = (h, refl)
heard_fault faults.NoMemory old source h = inr refl
heard_fault _ old source h = absurd h.cause

nothing_gained : (past : PlaceRecord) → GainsUpTo past [] past
nothing_gained past = up_to past past [] (Gains-none past)

wrote_nothing : (fault : SessionFault) (written : Option (List ℕ)) → WroteFront fault written [] written
wrote_nothing fault written = record { front = []; rest = []; parts = refl; wrote = Appends-nil written; all = inr refl }

-- the greeting was cut off
pub greeting_fails : (fault : SessionFault) (greeting : List ℕ) (interested : Bool) (old : Start) (source : SourceState) (past : PlaceRecord)
    (written written' : Option (List ℕ)) →
    old.joined ≡ false → fault ≡ faults.WriteFault → WroteFront fault written greeting written' → source.left ≡ old.left →
    GreetingFails fault greeting interested old source past written past written'
greeting_fails fault greeting interested old source past written written' first is wrote unread = record {
  acts = [];
  gains = nothing_gained past;
  outside = refl;
  wrote = subst (λ (xs : List ℕ). WroteFront fault written xs written') (sym (append-nil greeting)) wrote;
  cause = subst (λ (f : SessionFault). BreaksBy f old source []) (sym is) (inr (first, refl, unread));
}

greeted_all : (fault : SessionFault) (greeting : List ℕ) (written written' : Option (List ℕ)) → Appends written written' greeting →
    WroteFront fault written (greeting ++ []) written'
greeted_all fault greeting written written' wrote = record { front = greeting; rest = []; parts = refl; wrote = wrote; all = inr refl }

-- no handshake came
pub handshake_fails : (fault : SessionFault) (greeting : List ℕ) (interested : Bool) (old : Start) (source : SourceState) (past : PlaceRecord)
    (written written' : Option (List ℕ)) →
    Appends written written' greeting → HearsFault old.stream old.left source fault →
    GreetingFails fault greeting interested old source past written past written'
handshake_fails fault greeting interested old source past written written' wrote h =
    record {
      acts = [];
      gains = nothing_gained past;
      outside = refl;
      wrote = greeted_all fault greeting written written' wrote;
      cause = heard_fault fault old source h;
    }

-- Join was refused
pub join_refused : (reason : Reason) (greeting : List ℕ) (interested : Bool) (hello : Hello) (stream : InboundState) (old : Start)
    (source : SourceState) (past past' : PlaceRecord) (written written' : Option (List ℕ)) →
    Appends written written' greeting → Hears old.stream old.left source.left (messages.Hello hello) stream →
    Gains past (Called actions.Join (replies.Refused reason) ∷ []) past' →
    GreetingFails (faults.Refused reason) greeting interested old source past written past' written'
join_refused reason greeting interested hello stream old source past past' written written' wrote hears gains =
    let act : Act = Called actions.Join (replies.Refused reason) in
    let begins : BeginsTurn old.terms (messages.Hello hello) (act ∷ []) =
    ([], (refl, unchecked actions.Join (replies.Refused reason))) in
    let ends : EndsCalls (faults.Refused reason) (act ∷ []) =
    (actions.Join, record { before = []; accepted = refl; refused = refl; last = refl }) in
    record {
      acts = act ∷ [];
      gains = up_to past past' (act ∷ []) gains;
      outside = refl;
      wrote = greeted_all (faults.Refused reason) greeting written written' wrote;
      cause = inl (record { message = messages.Hello hello; stream = stream; hears = hears; begins = begins; ends = ends });
    }

fails_at_once : (fault : SessionFault) (interested : Bool) (old : Start) (source : SourceState) (past past' : PlaceRecord)
    (written : Option (List ℕ)) →
    BreaksBy fault old source [] → Leaves past past' → ListeningFails fault interested old source past written past' written
fails_at_once fault interested old source past past' written by left =
    record { acts = []; leave = left.leave; gains = left.gains; departs = left.departs; wrote = wrote_nothing fault written; cause = by }

-- no message came
pub hearing_fails : (fault : SessionFault) (interested : Bool) (old : Start) (source : SourceState) (past past' : PlaceRecord)
    (written : Option (List ℕ)) →
    HearsFault old.stream old.left source fault → Leaves past past' → ListeningFails fault interested old source past written past' written
hearing_fails fault interested old source past past' written h left =
    fails_at_once fault interested old source past past' written (heard_fault fault old source h) left

-- the input ended within a message
pub ends_within : (interested : Bool) (old : Start) (source : SourceState) (stream : InboundState) (past past' : PlaceRecord)
    (written : Option (List ℕ)) →
    HearsEnd old.stream old.left source.left source.ended stream → 0 < length stream.bytes → Leaves past past' →
    ListeningFails faults.Truncated interested old source past written past' written
ends_within interested old source stream past past' written hears some left =
    let within : old.joined ≡ true → stream.bytes ≢ [] = λ joined. λ none. absurd (omega (arith, some, ap length none)) in
    fails_at_once faults.Truncated interested old source past past' written (record { stream = stream; hears = hears; within = within }, refl) left

-- the last Leave was refused
pub leave_refused : (reason : Reason) (interested : Bool) (old : Start) (source : SourceState) (stream : InboundState) (past past' : PlaceRecord)
    (written : Option (List ℕ)) →
    HearsEnd old.stream old.left source.left source.ended stream → stream.bytes ≡ [] → old.joined ≡ true →
    Gains past (Called actions.Leave (replies.Refused reason) ∷ []) past' →
    ListeningFails (faults.Refused reason) interested old source past written past' written
leave_refused reason interested old source stream past past' written hears empty joined gains =
    let act : Act = Called actions.Leave (replies.Refused reason) in
    record {
      acts = act ∷ [];
      leave = [];
      gains = up_to past past' (act ∷ []) gains;
      departs = λ is_in. absurd cc;
      wrote = wrote_nothing (faults.Refused reason) written;
      cause = inr (record { stream = stream; hears = hears; empty = empty; joined = joined; refused = refl });
    }

-- there was no memory for it
pub leave_lacks_memory : (fault : SessionFault) (interested : Bool) (old : Start) (source : SourceState) (past past' : PlaceRecord)
    (written : Option (List ℕ)) →
    fault ≡ faults.NoMemory → LacksMemory past past' → ListeningFails fault interested old source past written past' written
leave_lacks_memory fault interested old source past past' written is lacks = record {
  acts = [];
  leave = [];
  gains = lacks.gains;
  departs = λ is_in. lacks.lacked;
  wrote = wrote_nothing fault written;
  cause = subst (λ (f : SessionFault). BreaksBy f old source []) (sym is) (inr refl);
}

stopped_turn : (fault : SessionFault) (m : Message) (stream : InboundState) (old : Start) (source : SourceState) (acts : List Act) →
    Hears old.stream old.left source.left m stream → StopsTurn fault old.terms m acts → BreaksBy fault old source acts
stopped_turn (faults.Refused reason) m stream old source acts hears stops =
    inl (record { message = m; stream = stream; hears = hears; begins = stops.0; ends = stops.1 })
stopped_turn faults.WriteFault m stream old source acts hears stops =
    inl (record { message = m; stream = stream; hears = hears; begins = stops.0; ends = stops.1 })
stopped_turn faults.NoMemory m stream old source acts hears stops =
    inl (record { message = m; stream = stream; hears = hears; begins = stops.0; ends = stops.1 })
stopped_turn faults.BadBits m stream old source acts hears stops =
    (record { message = m; stream = stream; hears = hears; unacceptable = stops.0 }, stops.1)
stopped_turn _ m stream old source acts hears stops = absurd stops.1

-- a message's turn broke off
pub attending_fails : (fault : SessionFault) (m : Message) (stream : InboundState) (old : Start) (source : SourceState) (a d : Outlet)
    (past' : PlaceRecord) →
    Hears old.stream old.left source.left m stream → TurnStops fault old.terms m a d → Leaves d.past past' →
    ListeningFails fault a.said.interested old source a.past a.said.written past' d.said.written
attending_fails fault m stream old source a d past' hears h left =
    let still = stays_in fault old.terms m h.acts h.stops in
    record {
      acts = h.acts;
      leave = left.leave;
      gains = GainsUpTo-join a.past d.past past' h.acts left.leave h.performs.gains left.gains;
      departs = subst (λ (is_in : Bool). Departs is_in past'.lacked left.leave) (sym still) left.departs;
      wrote = h.performs.writes.wrote;
      cause = stopped_turn fault m stream old source h.acts hears h.stops;
    }

fails_first : (fault : SessionFault) (old new : SessionState) (out out' : Surroundings) (source : SourceState) → old.joined ≡ false →
    new.outcome ≡ Some (Err fault) →
    GreetingFails fault (greeting old.terms.infohash old.worker) old.interested
    (start old.terms false old.stream out.left) source out.past out.written out'.past out'.written →
    FailsWith fault old out source new out'
fails_first fault old new out out' source first is h =
    record {
      acts = h.acts;
      leave = [];
      gains = subst (λ (es : List Act). GainsUpTo out.past es out'.past) (sym (append-nil h.acts)) h.gains;
      departs = λ in_now. absurd (cc (h.outside, subst (λ (b : Bool). is_in b h.acts ≡ true) first in_now));
      wrote = subst (λ (b : Bool). WroteFront fault out.written
          ((if b then [] else greeting old.terms.infohash old.worker) ++ says old.interested h.acts) out'.written) (sym first) h.wrote;
      cause = subst (λ (b : Bool). BreaksBy fault (start old.terms b old.stream out.left) source h.acts) (sym first) h.cause;
      outcome = is;
    }

-- the first turn of a session broke off: with this greeting, from the state inside, with this written
pub session_fails_first : (fault : SessionFault) (hello : List ℕ) (inside old new : SessionState) (out out' : Surroundings) (source : SourceState)
    (written : Option (List ℕ)) →
    GreetingFails fault hello inside.interested (start inside.terms false inside.stream out.left) source out.past out.written out'.past written →
    inside ≡ old → hello ≡ greeting inside.terms.infohash inside.worker → old.joined ≡ false → new.outcome ≡ Some (Err fault) →
    out'.written ≡ written → FailsWith fault old out source new out'
session_fails_first fault hello inside old new out out' source written h view said first is wrote =
    let fails : (bytes : List ℕ) (to : Option (List ℕ)) → Type 0 = λ bytes. λ to.
    GreetingFails fault bytes inside.interested (start inside.terms false inside.stream out.left) source out.past out.written out'.past to in
    let greeted = subst (λ (bytes : List ℕ). fails bytes written) said h in
    let same = subst (fails (greeting inside.terms.infohash inside.worker)) (sym wrote) greeted in
    let joined : inside.joined ≡ false = ap (λ (now : SessionState). now.joined) view ∙ first in
    subst (λ (now : SessionState). FailsWith fault now out source new out') view (fails_first fault inside new out out' source joined is same)
