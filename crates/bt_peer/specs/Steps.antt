-- What a turn of a session reads, calls and writes.
use Rattle.std.specs.Prelude.{◌≡◌, ◌≢◌, ◌⊎◌, ℕ, Bool, true, false, List, [], ◌∷◌, ◌++◌, length, map, Option}
use Rattle.std.specs.Io.KnownBytes.{Appends}
use Rattle.bt_wire.specs.declared.hello.Hello.{Hello}
use Rattle.bt_wire.specs.declared.message.Message.{Message}
use Rattle.bt_wire.specs.declared.message.Message.TheVariants as messages
use Rattle.bt_wire.specs.Stream.{InboundState}
use Rattle.bt_history.specs.declared.event.Action.TheVariants as actions
use Rattle.bt_history.specs.declared.call.Reason.{Reason}
use Rattle.bt_history.specs.declared.call.Reply.TheVariants as replies
use Rattle.bt_peer.specs.declared.fault.SessionFault.{SessionFault}
use Rattle.bt_peer.specs.declared.fault.SessionFault.TheVariants as faults
use Rattle.bt_peer.specs.SessionTerms.{TermsState, pieces_of}
use Rattle.bt_peer.specs.Acts.{Act, Called, News}
use Rattle.bt_peer.specs.Writer.{says, interest_after}
use Rattle.bt_peer.specs.Places.{PlaceRecord, Gains, GainsUpTo, AllTold}
use Rattle.bt_peer.specs.Turns.{IsTurn, BeginsTurn, NoneRefused, IsAcceptable, Opens, call_of}
use Rattle.bt_peer.specs.Outlets.{EndsCalls}
use Rattle.bt_peer.specs.Reader.{Hears, HearsEnd, HearsFault, SourceState}

-- what a session keeps of its peer between turns: the stream from it, and the interest that was told
pub record Reading : Type 0 where
  pub stream : InboundState
  pub interested : Bool

-- stream and interest together
abbrev pub reading : InboundState → Bool → Reading
reading stream interested = record { stream = stream; interested = interested }

-- what is round a session: the place, the bytes that are left to read, and those that were written
pub record Surroundings : Type 0 where
  pub past : PlaceRecord
  pub left : Option (List ℕ)
  pub written : Option (List ℕ)

-- place, reader and writer, by what each tells of itself
abbrev pub surroundings : {P R W : Type 0} →
    (P → PlaceRecord) → (R → Option (List ℕ)) → (W → Option (List ℕ)) → P → R → W → Surroundings
surroundings past left written place reader writer =
    record { past = past place; left = left reader; written = written writer }

-- a handshake, if it is one, is of this torrent
abbrev pub IsOfTorrent : List ℕ → Message → Type 0
IsOfTorrent infohash (messages.Hello hello) = hello.infohash ≡ infohash
IsOfTorrent infohash _ = Unit {0}

-- News was asked for: after the message's call the place told all pieces that it knew to be finished, or as many as there are.
pub record TellsNews (pieces : ℕ) (old : PlaceRecord) (acts : List Act) (new : PlaceRecord) : Type 0 where
  pub opening : List Act
  pub news : List ℕ
  pub asking : List Act
  pub parts : acts ≡ opening ++ map News news ++ asking
  pub mid : PlaceRecord
  pub before : Gains old (opening ++ map News news) mid
  pub after : Gains mid asking new
  pub told : (length news ≡ pieces) ⊎ AllTold mid

-- in the turn of each message but the handshake
abbrev pub AsksForNews : ℕ → Message → PlaceRecord → List Act → PlaceRecord → Type 0
AsksForNews pieces (messages.Hello hello) old acts new = Unit {0}
AsksForNews pieces m old acts new = TellsNews pieces old acts new

-- News was asked for in the turn of each of these messages, in order; between two turns more pieces may come to be finished.
abbrev pub EachAsksForNews : ℕ → List Message → PlaceRecord → List Act → PlaceRecord → Type 0
EachAsksForNews pieces [] old acts new = (acts ≡ []) × Gains old [] new
EachAsksForNews pieces (m ∷ ms) old acts new =
    (first : List Act) × ((others : List Act) × ((from : PlaceRecord) × ((mid : PlaceRecord) ×
    (Gains old [] from × Gains from first mid × AsksForNews pieces m from first mid × EachAsksForNews pieces ms mid others new
    × (acts ≡ first ++ others)))))

-- The same of all turns of a session, behind which Leave came.
pub record TellsAllNews (pieces : ℕ) (messages : List Message) (old : PlaceRecord) (acts : List Act) (new : PlaceRecord) : Type 0 where
  pub turns : List Act
  pub mid : PlaceRecord
  pub tells : EachAsksForNews pieces messages old turns mid
  pub leaves : Gains mid (Called actions.Leave replies.Quiet ∷ []) new
  pub parts : acts ≡ turns ++ Called actions.Leave replies.Quiet ∷ []

-- A turn that goes on: one message was taken off the bytes held and read; the place gained what a turn makes of it; and what its acts
-- say was written, after the greeting.
pub record TakesTurn (terms : TermsState) (greeting : List ℕ) (old : Reading) (out : Surroundings)
    (new : Reading) (out' : Surroundings) : Type 0 where
  pub message : Message
  pub acts : List Act
  pub hears : Hears old.stream out.left out'.left message new.stream
  pub same_torrent : IsOfTorrent terms.infohash message
  pub turn : IsTurn terms message acts
  pub accepted : NoneRefused acts
  pub gains : Gains out.past acts out'.past
  pub news : AsksForNews (pieces_of terms) message out.past acts out'.past
  pub wrote : Appends out.written out'.written (greeting ++ says old.interested acts)
  pub interest : new.interested ≡ interest_after old.interested acts

-- the last turn: the source has ended, nothing is held, and the place gained Leave
pub record TakesLeave (old : Reading) (out : Surroundings) (has_ended : Bool) (new : Reading) (out' : Surroundings) : Type 0 where
  pub hears : HearsEnd old.stream out.left out'.left has_ended new.stream
  pub empty : new.stream.bytes ≡ []
  pub gains : Gains out.past (Called actions.Leave replies.Quiet ∷ []) out'.past
  pub wrote : Appends out.written out'.written []

-- what a turn begins with
pub record Start : Type 0 where
  pub terms : TermsState
  pub joined : Bool
  pub stream : InboundState
  pub left : Option (List ℕ)

-- the parts of a start together
abbrev pub start : TermsState → Bool → InboundState → Option (List ℕ) → Start
start terms joined stream left = record { terms = terms; joined = joined; stream = stream; left = left }

-- a message was there, and the acts began a turn of it
pub record BreaksTurn (old : Start) (source : SourceState) (fault : SessionFault) (acts : List Act) : Type 0 where
  pub message : Message
  pub stream : InboundState
  pub hears : Hears old.stream old.left source.left message stream
  pub begins : BeginsTurn old.terms message acts
  pub ends : EndsCalls fault acts

-- a bitfield was there that is none
pub record BreaksBits (old : Start) (source : SourceState) : Type 0 where
  pub message : Message
  pub stream : InboundState
  pub hears : Hears old.stream old.left source.left message stream
  pub unacceptable : IsAcceptable (pieces_of old.terms) message → ⊥

-- the input ended, without a handshake or with bytes held
pub record BreaksEnd (old : Start) (source : SourceState) : Type 0 where
  pub stream : InboundState
  pub hears : HearsEnd old.stream old.left source.left source.ended stream
  pub within : old.joined ≡ true → stream.bytes ≢ []

-- the handshake was one of another torrent
pub record BreaksHello (old : Start) (source : SourceState) : Type 0 where
  pub hello : Hello
  pub stream : InboundState
  pub hears : Hears old.stream old.left source.left (messages.Hello hello) stream
  pub other : hello.infohash ≢ old.terms.infohash

-- the input ended with no bytes held, and the last Leave was refused
pub record BreaksLeave (old : Start) (source : SourceState) (reason : Reason) (acts : List Act) : Type 0 where
  pub stream : InboundState
  pub hears : HearsEnd old.stream old.left source.left source.ended stream
  pub empty : stream.bytes ≡ []
  pub joined : old.joined ≡ true
  pub refused : acts ≡ Called actions.Leave (replies.Refused reason) ∷ []

-- why a turn broke off, and after which acts
abbrev pub BreaksBy : SessionFault → Start → SourceState → List Act → Type 0
BreaksBy (faults.Wire fault) old source acts = HearsFault old.stream old.left source (faults.Wire fault) × (acts ≡ [])
BreaksBy faults.ReadFault old source acts = HearsFault old.stream old.left source faults.ReadFault × (acts ≡ [])
BreaksBy faults.Truncated old source acts = BreaksEnd old source × (acts ≡ [])
BreaksBy faults.WrongInfohash old source acts = BreaksHello old source × (acts ≡ [])
BreaksBy faults.BadBits old source acts = BreaksBits old source × (acts ≡ [])
BreaksBy (faults.Refused reason) old source acts =
    BreaksTurn old source (faults.Refused reason) acts ⊎ BreaksLeave old source reason acts
-- a write failed, in the greeting or in a message's turn
BreaksBy faults.WriteFault old source acts =
    BreaksTurn old source faults.WriteFault acts ⊎ ((old.joined ≡ false) × (acts ≡ []) × (source.left ≡ old.left))
-- memory ran out, before or after a message was there
BreaksBy faults.NoMemory old source acts = BreaksTurn old source faults.NoMemory acts ⊎ (acts ≡ [])

-- What follows a fault: Leave where the peer is in, unless a call found no memory; none where the peer isn't in.
abbrev pub Departs : Bool → Bool → List Act → Type 0
Departs is_in lacked [] = is_in ≡ true → lacked ≡ true
Departs is_in lacked (Called actions.Leave reply ∷ []) = is_in ≡ true
Departs is_in lacked _ = ⊥

-- Leave was called, or there was no memory for it
pub record Leaves (old new : PlaceRecord) : Type 0 where
  pub leave : List Act
  pub departs : Departs true new.lacked leave
  pub gains : GainsUpTo old leave new

-- the opening of a message's turn stopped after these acts: its bitfield was none, or they began the opening
abbrev pub StopsOpening : SessionFault → ℕ → Message → List Act → Type 0
StopsOpening faults.BadBits pieces m acts = (IsAcceptable pieces m → ⊥) × (acts ≡ [])
StopsOpening fault pieces m acts =
    IsAcceptable pieces m × ((rest : List Act) × (Opens (call_of pieces m) (acts ++ rest) × EndsCalls fault acts))

-- a message's turn stopped after these acts: its bitfield was none, or they began the turn
abbrev pub StopsTurn : SessionFault → TermsState → Message → List Act → Type 0
StopsTurn faults.BadBits terms m acts = (IsAcceptable (pieces_of terms) m → ⊥) × (acts ≡ [])
StopsTurn fault terms m acts = BeginsTurn terms m acts × EndsCalls fault acts
