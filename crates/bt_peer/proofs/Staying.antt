-- The turn of a message leaves the peer in.
use Rattle.std.proofs.Common.{◌≡◌, ℕ, List, [], ◌∷◌, Bool, true, false, Some, refl, ap}
use Rattle.bt_wire.specs.declared.message.Message.{Message}
use Rattle.bt_wire.specs.declared.message.Message.TheVariants as messages
use Rattle.bt_history.specs.declared.call.Reply.TheVariants as replies
use Rattle.bt_history.specs.declared.event.Action.{Action}
use Rattle.bt_history.specs.declared.event.Action.TheVariants as actions
use Rattle.bt_peer.specs.declared.fault.SessionFault.{SessionFault}
use Rattle.bt_peer.specs.declared.fault.SessionFault.TheVariants as faults
use Rattle.bt_peer.specs.Acts.{Act, Called, is_in}
use Rattle.bt_peer.specs.SessionTerms.{TermsState}
use Rattle.bt_peer.specs.Turns.{call_of}
use Rattle.bt_peer.specs.Steps.{StopsTurn}
use Rattle.bt_peer.proofs.CallKinds.{IsOutside, Lacks, begun_lacks, of_message}

abbrev is_leave : Action → Bool
is_leave actions.Leave = true
is_leave _ = false

-- a message's call is no Leave
own_call : (pieces : ℕ) (m : Message) (call : Action) → call_of pieces m ≡ Some call → is_leave call ≡ false
own_call = of_message is_leave false refl refl refl (λ piece. refl) (λ flags. refl) (λ piece begin bytes. refl)

leave_outside : IsOutside is_leave
leave_outside = record { message = own_call; check = λ piece hashed. refl; next = λ word. refl }

still_in : (es : List Act) → Lacks is_leave es → is_in true es ≡ true
still_in [] stays = refl
still_in (Called actions.Join replies.Joined ∷ es) stays = still_in es stays
still_in (Called actions.Leave reply ∷ es) stays = absurd cc
still_in (_ ∷ es) stays = still_in es stays

-- after any part of the turn of a message the peer is in
pub stays_in : (fault : SessionFault) (terms : TermsState) (m : Message) (acts : List Act) → StopsTurn fault terms m acts →
    is_in true acts ≡ true
stays_in faults.BadBits terms m acts stops = ap (is_in true) stops.1
stays_in _ terms m acts stops = still_in acts (begun_lacks is_leave leave_outside terms m acts stops.0)
