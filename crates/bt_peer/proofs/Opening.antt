-- The call of a message, and the check that follows.
use Rattle.std.proofs.Common.{◌≡◌, ℕ, List, [], ◌∷◌, ◌++◌, Bool, true, false, Option, Some, None, refl, sym, ap, subst, inl, inr}
use Rattle.std.specs.Prelude.{IsTrue, MatchOption, ◌||◌}
use Rattle.bt_history.specs.Logs.{answers}
use Rattle.bt_history.specs.declared.mark.CallMark.TheVariants as marks
use Rattle.bt_history.specs.declared.event.Action.{Action}
use Rattle.bt_history.specs.declared.event.Action.TheVariants as actions
use Rattle.bt_history.specs.declared.call.Reply.{Reply}
use Rattle.bt_history.specs.declared.call.Reply.TheVariants as replies
use Rattle.bt_history.specs.declared.call.Reason.{Reason}
use Rattle.bt_peer.specs.declared.fault.SessionFault.{SessionFault}
use Rattle.bt_peer.specs.declared.fault.SessionFault.TheVariants as faults
use Rattle.bt_wire.specs.declared.message.Message.{Message}
use Rattle.bt_wire.specs.declared.message.Message.TheVariants as messages
use Rattle.bt_peer.specs.Acts.{Act, Called, is_refusal, is_check, is_refused_call}
use Rattle.bt_peer.specs.Writer.{interest_by, written_for}
use Rattle.bt_peer.specs.Places.{PlaceRecord, Gains, LacksMemory}
use Rattle.bt_peer.specs.Turns.{call_of, Checks, ChecksAtMost, if_completed, arrived_piece, NoneRefused}
use Rattle.bt_peer.specs.Outlets.{Outlet, Performs, PerformsUpTo, IsCut, Writes}
use Rattle.bt_peer.specs.Parts.{CallStops, OpeningDone, OpeningStops}
use Rattle.bt_peer.proofs.Stretches.{Performs-join, Performs-stops, Writes-none, WritesUpTo-none}
use Rattle.bt_peer.proofs.Asking.{stops_ways, ends_cut}
use Rattle.bt_peer.proofs.CallKinds.{of_message}

-- a call of a session's own is no check
refused_call : (call : Action) (reason : Reason) → is_check call ≡ false → is_refused_call (Called call (replies.Refused reason)) ≡ true
refused_call (actions.Settle piece hashed) reason own = absurd cc
refused_call _ reason own = refl

pub accepted_call : (call : Action) (reply : Reply) → is_refusal reply ≡ false → is_refused_call (Called call reply) ≡ false
accepted_call (actions.Settle piece hashed) reply h = refl
accepted_call _ reply h = h

pub accepted_one : (call : Action) (reply : Reply) → is_refusal reply ≡ false → NoneRefused (Called call reply ∷ [])
accepted_one call reply h = ap (λ b. b || false) (accepted_call call reply h)

none_follows : (o : Option ℕ) (acts : List Act) → acts ≡ [] → MatchOption o (acts ≡ []) (λ piece. ChecksAtMost piece acts)
none_follows None acts none = none
none_follows (Some piece) acts none = inl none

-- nothing need follow a reply
pub unchecked : (call : Action) (reply : Reply) → Checks call reply []
unchecked call reply = none_follows (if_completed (arrived_piece call) reply) [] refl

stops_refused : (call : Action) (reason : Reason) (a c : Outlet) → is_check call ≡ false →
    PerformsUpTo (faults.Refused reason) a (Called call (replies.Refused reason) ∷ []) c → OpeningStops (faults.Refused reason) (Some call) a c
stops_refused call reason a c own stops = record {
  acts = Called call (replies.Refused reason) ∷ [];
  rest = [];
  opens = (refl, unchecked call (replies.Refused reason));
  ends = (call, record { before = []; accepted = refl; refused = refused_call call reason own; last = refl });
  performs = stops;
}

stops_none : (fault : SessionFault) (call : Action) (a c : Outlet) → IsCut fault → PerformsUpTo fault a [] c → OpeningStops fault (Some call) a c
stops_none fault call a c cut stops = record {
  acts = [];
  rest = Called call replies.Idle ∷ [];
  opens = (refl, unchecked call replies.Idle);
  ends = ends_cut fault [] cut refl;
  performs = stops;
}

stops_one : (fault : SessionFault) (call : Action) (reply : Reply) (a c : Outlet) → IsCut fault → is_refusal reply ≡ false →
    PerformsUpTo fault a (Called call reply ∷ []) c → OpeningStops fault (Some call) a c
stops_one fault call reply a c cut accepted stops = record {
  acts = Called call reply ∷ [];
  rest = [];
  opens = (refl, unchecked call reply);
  ends = ends_cut fault (Called call reply ∷ []) cut (accepted_one call reply accepted);
  performs = stops;
}

-- a message's call is no check
pub no_check : (pieces : ℕ) (m : Message) (call : Action) → call_of pieces m ≡ Some call → is_check call ≡ false
no_check = of_message is_check false refl refl refl (λ piece. refl) (λ flags. refl) (λ piece begin bytes. refl)

-- the call stopped
pub opening_stops : (call : Action) (fault : SessionFault) (a c : Outlet) → is_check call ≡ false → CallStops fault call a c →
    OpeningStops fault (Some call) a c
opening_stops call fault a c own stopped =
    let at = λ (es : List Act) (is : stopped.acts ≡ es). subst (λ (acts : List Act). PerformsUpTo fault a acts c) is stopped.performs in
    elim (stops_ways call fault stopped.acts stopped.stops) [
      | inl refused ↦
          let act : Act = Called call (replies.Refused refused.0) in
          subst (λ (f : SessionFault). OpeningStops f (Some call) a c) (sym refused.1.0)
          (stops_refused call refused.0 a c own (subst (λ (f : SessionFault). PerformsUpTo f a (act ∷ []) c) refused.1.0
          (at (act ∷ []) refused.1.1)))
      | inr cut ↦ elim cut.1 [
        | inl none ↦ stops_none fault call a c cut.0 (at [] none)
        | inr some ↦ stops_one fault call some.0 a c cut.0 some.1.0 (at (Called call some.0 ∷ []) some.1.1)
      ]
    ]

-- there was no memory for the check
pub opening_unchecked : (call : Action) (reply : Reply) (a b : Outlet) (past : PlaceRecord) → is_refusal reply ≡ false →
    Performs a (Called call reply ∷ []) b → LacksMemory b.past past → OpeningStops faults.NoMemory (Some call) a (record b { past = past })
opening_unchecked call reply a b past accepted does lacks =
    let c = record b { past = past } in
    let stops : PerformsUpTo faults.NoMemory b [] c =
    record { gains = lacks.gains; writes = WritesUpTo-none faults.NoMemory b.said (λ is. cc) } in
    stops_one faults.NoMemory call reply a c (inr refl) accepted
    (Performs-stops faults.NoMemory a b c (Called call reply ∷ []) [] does stops)

-- a check's reply calls for nothing
check_says : (piece : ℕ) (i : Bool) (reply : Reply) → IsTrue (answers (marks.Settle piece) reply) → written_for i reply ++ [] ≡ []
check_says piece i replies.Had h = refl
check_says piece i replies.Failed h = refl
check_says piece i (replies.Refused reason) h = refl
check_says piece i _ h = absurd cc

check_interest : (piece : ℕ) (i : Bool) (reply : Reply) → IsTrue (answers (marks.Settle piece) reply) → i ≡ interest_by i reply
check_interest piece i replies.Had h = refl
check_interest piece i replies.Failed h = refl
check_interest piece i (replies.Refused reason) h = refl
check_interest piece i _ h = absurd cc

checked_by : (o : Option ℕ) (piece : ℕ) (acts : List Act) → o ≡ Some piece → ChecksAtMost piece acts →
    MatchOption o (acts ≡ []) (λ p. ChecksAtMost p acts)
checked_by o piece acts is checks = subst (λ (q : Option ℕ). MatchOption q (acts ≡ []) (λ p. ChecksAtMost p acts)) (sym is) checks

-- the piece was completed, and seen to
pub opening_checked : (call : Action) (reply : Reply) (piece : ℕ) (a b : Outlet) (past : PlaceRecord) →
    if_completed (arrived_piece call) reply ≡ Some piece → is_refusal reply ≡ false → Performs a (Called call reply ∷ []) b →
    (acts : List Act) × (ChecksAtMost piece acts × Gains b.past acts past) → OpeningDone (Some call) a (record b { past = past })
opening_checked call reply piece a b past is accepted does seen =
    let c = record b { past = past } in
    let gains = λ (es : List Act) (same : seen.0 ≡ es). subst (λ (acts : List Act). Gains b.past acts past) same seen.1.1 in
    elim seen.1.0 [
      | inl none ↦ record {
        acts = Called call reply ∷ [];
        opens = (refl, unchecked call reply);
        accepted = accepted_one call reply accepted;
        performs = Performs-join a b c (Called call reply ∷ []) [] does
            (record { gains = gains [] none; writes = Writes-none b.said; interest = refl });
      }
      | inr check ↦
          let reply' = check.1.0 in
          let fits = check.1.1.0 in
          let act : Act = Called (actions.Settle piece check.0) reply' in
          let does_check : Performs b (act ∷ []) c = record {
            gains = gains (act ∷ []) check.1.1.1;
            writes = subst (λ (xs : List ℕ). Writes b.said xs b.said) (sym (check_says piece b.said.interested reply' fits))
                (Writes-none b.said);
            interest = check_interest piece b.said.interested reply' fits;
          } in
          record {
            acts = Called call reply ∷ act ∷ [];
            opens = (refl, checked_by (if_completed (arrived_piece call) reply) piece (act ∷ []) is (inr (check.0, (reply', (fits, refl)))));
            accepted = ap (λ v. v || false) (accepted_call call reply accepted);
            performs = Performs-join a b c (Called call reply ∷ []) (act ∷ []) does does_check;
          }
    ]
