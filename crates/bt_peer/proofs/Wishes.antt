-- Sessions tell no wishes: which pieces are chosen, and at which level.
use Rattle.std.proofs.Common.{◌≡◌, ℕ, List, [], ◌∷◌, ◌++◌, Bool, true, false, Some, Result, Ok, Err, refl, sym, ap, subst, ◌∙◌, inl, inr}
use Rattle.std.specs.List.{list_any}
use Rattle.bt_wire.specs.declared.message.Message.{Message}
use Rattle.bt_wire.specs.declared.message.Message.TheVariants as messages
use Rattle.bt_history.specs.declared.call.Reply.{Reply}
use Rattle.bt_history.specs.declared.event.Action.{Action}
use Rattle.bt_history.specs.declared.event.Action.TheVariants as actions
use Rattle.bt_peer.specs.declared.fault.End.{End}
use Rattle.bt_peer.specs.declared.fault.SessionFault.{SessionFault}
use Rattle.bt_peer.specs.declared.fault.SessionFault.TheVariants as faults
use Rattle.bt_peer.specs.Acts.{Act, Called, News, calls_of}
use Rattle.bt_peer.specs.Conduct.{Calls}
use Rattle.bt_peer.specs.Places.{PlaceRecord, GainsUpTo}
use Rattle.bt_peer.specs.Reader.{SourceState}
use Rattle.bt_peer.specs.Serial.{EndsAs}
use Rattle.bt_peer.specs.Sessions.{SessionState, FailsWith, Running}
use Rattle.bt_peer.specs.SessionTerms.{TermsState}
use Rattle.bt_peer.specs.Steps.{Start, Surroundings, BreaksBy, Departs}
use Rattle.bt_peer.specs.Turns.{call_of, TurnsOf, AreTurns}
use Rattle.bt_peer.proofs.CallKinds.{IsOutside, Lacks, Lacks-append, begun_lacks, both_false, is_of, turn_lacks, of_message}

-- the call tells which pieces are chosen
abbrev pub is_wish : Action → Bool
is_wish (actions.Want flags) = true
is_wish (actions.Level piece level) = true
is_wish (actions.Levels levels) = true
is_wish _ = false

-- none of the calls does
abbrev pub WishNothing : Calls → Type 0
WishNothing calls = list_any (λ made. is_wish made.0) calls ≡ false

pub wish_nothing-append : (xs ys : Calls) → WishNothing xs → WishNothing ys → WishNothing (xs ++ ys)
wish_nothing-append [] ys first second = second
wish_nothing-append (made ∷ xs) ys first second =
    both_false (is_wish made.0) (list_any (λ (m : Action × Reply). is_wish m.0) xs) (list_any (λ (m : Action × Reply). is_wish m.0) (xs ++ ys)) first
    (λ rest. wish_nothing-append xs ys rest second)

pub wish_nothing-front : (xs ys : Calls) → WishNothing (xs ++ ys) → WishNothing xs
wish_nothing-front [] ys none = refl
wish_nothing-front (made ∷ xs) ys none =
    both_false (is_wish made.0) (list_any (λ (m : Action × Reply). is_wish m.0) (xs ++ ys)) (list_any (λ (m : Action × Reply). is_wish m.0) xs) none
    (λ rest. wish_nothing-front xs ys rest)

own_call : (pieces : ℕ) (m : Message) (call : Action) → call_of pieces m ≡ Some call → is_wish call ≡ false
own_call = of_message is_wish false refl refl refl (λ piece. refl) (λ flags. refl) (λ piece begin bytes. refl)

wish_outside : IsOutside is_wish
wish_outside = record { message = own_call; check = λ piece hashed. refl; next = λ word. refl }

calls_wish : (acts : List Act) → Lacks is_wish acts → WishNothing (calls_of acts)
calls_wish [] lacks = refl
calls_wish (Called call reply ∷ acts) lacks =
    both_false (is_wish call) (list_any (is_of is_wish) acts) (list_any (λ (m : Action × Reply). is_wish m.0) (calls_of acts)) lacks
    (λ rest. calls_wish acts rest)
calls_wish (News piece ∷ acts) lacks = calls_wish acts lacks

turns_wish : (terms : TermsState) (ms : List Message) (acts : List Act) → TurnsOf terms ms acts → Lacks is_wish acts
turns_wish terms [] acts none = ap (list_any (is_of is_wish)) none
turns_wish terms (m ∷ ms) acts (first, (others, (turn, accepted, turned, is))) =
    ap (list_any (is_of is_wish)) is
    ∙ Lacks-append is_wish first others (turn_lacks is_wish wish_outside terms m first turn) (turns_wish terms ms others turned)

are_turns_wish : (terms : TermsState) (ms : List Message) (acts : List Act) → AreTurns terms ms acts → Lacks is_wish acts
are_turns_wish terms [] acts left = ap (list_any (is_of is_wish)) left
are_turns_wish terms (m ∷ ms) acts (first, (others, (turn, accepted, turned, is))) =
    ap (list_any (is_of is_wish)) is
    ∙ Lacks-append is_wish first others (turn_lacks is_wish wish_outside terms m first turn) (are_turns_wish terms ms others turned)

none_wish : (acts : List Act) → acts ≡ [] → Lacks is_wish acts
none_wish acts none = ap (list_any (is_of is_wish)) none

breaks_wish : (fault : SessionFault) (old : Start) (source : SourceState) (acts : List Act) → BreaksBy fault old source acts → Lacks is_wish acts
breaks_wish (faults.Wire fault) old source acts by = none_wish acts by.1
breaks_wish faults.ReadFault old source acts by = none_wish acts by.1
breaks_wish faults.Truncated old source acts by = none_wish acts by.1
breaks_wish faults.WrongInfohash old source acts by = none_wish acts by.1
breaks_wish faults.BadBits old source acts by = none_wish acts by.1
breaks_wish (faults.Refused reason) old source acts by =
    elim by [
      | inl turn ↦ begun_lacks is_wish wish_outside old.terms turn.message acts turn.begins
      | inr leave ↦ ap (list_any (is_of is_wish)) leave.refused
    ]
breaks_wish faults.WriteFault old source acts by =
    elim by [
      | inl turn ↦ begun_lacks is_wish wish_outside old.terms turn.message acts turn.begins
      | inr none ↦ none_wish acts none.1
    ]
breaks_wish faults.NoMemory old source acts by =
    elim by [
      | inl turn ↦ begun_lacks is_wish wish_outside old.terms turn.message acts turn.begins
      | inr none ↦ none_wish acts none
    ]

departs_wish : (is_in lacked : Bool) (leave : List Act) → Departs is_in lacked leave → Lacks is_wish leave
departs_wish is_in lacked [] departs = refl
departs_wish is_in lacked (Called actions.Leave reply ∷ []) departs = refl
departs_wish is_in lacked _ departs = absurd departs

gained_wish : (old new : PlaceRecord) (acts : List Act) → GainsUpTo old acts new → Lacks is_wish acts → WishNothing old.calls → WishNothing new.calls
gained_wish old new acts gains lacks was =
    subst WishNothing (sym gains.calls) (wish_nothing-append old.calls (calls_of acts) was (calls_wish acts lacks))

running_wish : (terms : TermsState) (worker : ℕ) (out : Surroundings) (now : SessionState) (out' : Surroundings) →
    Running terms worker out now out' → WishNothing out.past.calls → WishNothing out'.past.calls
running_wish terms worker out now out' running was =
    elim running [
      | inl fresh ↦ gained_wish out.past out'.past [] fresh.gains.up_to refl was
      | inr took ↦ gained_wish out.past out'.past took.acts took.gains.up_to
          (turns_wish terms (took.first ∷ took.messages) took.acts took.turned) was
    ]

fails_wish : (fault : SessionFault) (old : SessionState) (out : Surroundings) (source : SourceState) (new : SessionState) (out' : Surroundings) →
    FailsWith fault old out source new out' → WishNothing out.past.calls → WishNothing out'.past.calls
fails_wish fault old out source new out' fails was =
    gained_wish out.past out'.past (fails.acts ++ fails.leave) fails.gains
    (Lacks-append is_wish fails.acts fails.leave (breaks_wish fault _ source fails.acts fails.cause) (departs_wish _ _ fails.leave fails.departs)) was

-- a session that ended told no wish
pub ended_wish : (outcome : Result End SessionFault) (terms : TermsState) (worker : ℕ) (out : Surroundings) (source : SourceState)
    (out' : Surroundings) → EndsAs outcome terms worker out source out' → WishNothing out.past.calls → WishNothing out'.past.calls
ended_wish (Ok end) terms worker out source out' whole was =
    gained_wish out.past out'.past whole.acts whole.gains.up_to (are_turns_wish terms whole.messages whole.acts whole.turns) was
ended_wish (Err fault) terms worker out source out' cut was =
    fails_wish fault cut.now cut.mid source cut.new out' cut.fails (running_wish terms worker out cut.now cut.mid cut.turns was)
