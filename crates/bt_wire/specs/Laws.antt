-- Laws of the wire, over the definitions that the contracts cite.
use Rattle.std.specs.Prelude.{◌≡◌, ℕ, Bool, false, List, [], ◌∷◌, ◌++◌, Some}
use Rattle.bt_wire.specs.declared.message.Message.{Message}
use Rattle.bt_wire.specs.declared.message.WireFault.{WireFault}
use Rattle.bt_wire.specs.Stream.{HasMessage, HasFault, Begins, Reads, InboundState, opened, Gives}

-- at one front no message and no fault stand together, and no two faults
pub record OneAtAFront (limit : ℕ) : Type 0 where
  pub message_or_fault : (greeted : Bool) (bytes : List ℕ) (fault : WireFault) →
      HasMessage greeted limit bytes → HasFault greeted limit bytes fault → ⊥
  pub one_fault : (greeted : Bool) (bytes : List ℕ) (one other : WireFault) →
      HasFault greeted limit bytes one → HasFault greeted limit bytes other → one ≡ other

-- bytes are read in one way only
abbrev pub OneReading : ℕ → Type 0
OneReading limit = (greeted : Bool) (bytes : List ℕ) (ms others : List Message) (rest other_rest : List ℕ) →
    Reads greeted limit bytes ms rest → Reads greeted limit bytes others other_rest → (ms ≡ others) × (rest ≡ other_rest)

-- a call of an Inbound that changed it
pub data Step : Type 0 where
  -- a piece was fed
  Fed : List ℕ → Step
  -- a message was given
  Gave : Message → Step
  -- a fault was given for the first time
  Failed : WireFault → Step

-- these steps lead from one state to the other, each as the contracts of feed and next have it
abbrev pub Leads : InboundState → List Step → InboundState → Type 0
Leads old [] new = old ≡ new
Leads old (Fed piece ∷ steps) new = Leads (record old { bytes = old.bytes ++ piece }) steps new
Leads old (Gave m ∷ steps) new = (after : InboundState) × (Gives old m after × Leads after steps new)
Leads old (Failed fault ∷ steps) new = Leads (record old { fault = Some fault }) steps new

-- the bytes fed in these steps, in order
abbrev pub fed : List Step → List ℕ
fed [] = []
fed (Fed piece ∷ steps) = piece ++ fed steps
fed (Gave m ∷ steps) = fed steps
fed (Failed fault ∷ steps) = fed steps

-- the messages given in these steps, in order
abbrev pub given : List Step → List Message
given [] = []
given (Fed piece ∷ steps) = given steps
given (Gave m ∷ steps) = m ∷ given steps
given (Failed fault ∷ steps) = given steps

-- in whatever portions a stream came: what was fed is what the given messages spell, and behind it what is still unread
abbrev pub FedIsGivenThenHeld : ℕ → Type 0
FedIsGivenThenHeld limit = (steps : List Step) (state : InboundState) →
    Leads (opened limit) steps state → Begins false limit (fed steps) (given steps) state.bytes

-- Two Inbounds to which the same bytes were fed, each in its own pieces, have given the same messages once neither has a whole one left.
abbrev pub AnyCutting : ℕ → Type 0
AnyCutting limit = (steps others : List Step) (state other : InboundState) →
    Leads (opened limit) steps state → Leads (opened limit) others other → fed steps ≡ fed others →
    (HasMessage state.greeted limit state.bytes → ⊥) → (HasMessage other.greeted limit other.bytes → ⊥) →
    (given steps ≡ given others) × (state.bytes ≡ other.bytes)
