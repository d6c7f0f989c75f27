-- A session as its callers see it, and what one turn of it does.
use Rattle.std.specs.Prelude.{◌≡◌, ◌⊎◌, ◌∷◌, ℕ, ◌+◌, ◌*◌, ◌-◌, Bool, true, false, if◌then◌else◌, List, [], ◌++◌, length}
use Rattle.std.specs.Prelude.{Option, Some, None, Result, Ok, Err}
use Rattle.std.specs.Io.KnownBytes.{Appends, Consumes, IsAtEnd}
use Rattle.bt_wire.specs.Limit.{frame_limit}
use Rattle.bt_wire.specs.declared.message.Message.{Message}
use Rattle.bt_wire.specs.declared.message.Message.TheVariants as messages
use Rattle.bt_wire.specs.Stream.{InboundState, Spells, Begins, IsStream, opened}
use Rattle.bt_peer.specs.declared.fault.SessionFault.{SessionFault}
use Rattle.bt_peer.specs.declared.fault.End.{End}
use Rattle.bt_peer.specs.Acts.{Act, is_in}
use Rattle.bt_peer.specs.Places.{Gains, GainsUpTo}
use Rattle.bt_peer.specs.SessionTerms.{TermsState, pieces_of}
use Rattle.bt_peer.specs.Turns.{TurnsOf, AreTurns}
use Rattle.bt_peer.specs.Writer.{greeting, says, interest_after}
use Rattle.bt_peer.specs.Outlets.{WroteFront}
use Rattle.bt_peer.specs.Reader.{SourceState, most_reads, room_len}
use Rattle.bt_peer.specs.Steps.{Reading, reading, Surroundings, Start, TakesTurn, TakesLeave, BreaksBy, Departs, EachAsksForNews, TellsAllNews}

-- what contracts see of a session
pub record SessionState : Type 0 where
  pub terms : TermsState
  pub worker : ℕ
  pub stream : InboundState
  -- its first turn is done
  pub joined : Bool
  -- the interest that was told
  pub interested : Bool
  -- how often it asked its source
  pub reads : ℕ
  -- the messages after the handshake
  pub messages : ℕ
  pub outcome : Option (Result End SessionFault)

-- one that has done nothing yet
abbrev pub begun : TermsState → ℕ → SessionState
begun terms worker = record {
  terms = terms;
  worker = worker;
  stream = opened (frame_limit (pieces_of terms));
  joined = false;
  interested = false;
  reads = 0;
  messages = 0;
  outcome = None;
}

-- what is written before anything else
abbrev pub greeting_of : SessionState → List ℕ
greeting_of state = if state.joined then [] else greeting state.terms.infohash state.worker

-- what a session keeps of its peer
abbrev pub reading_of : SessionState → Reading
reading_of state = reading state.stream state.interested

-- what a turn begins with
abbrev pub start_of : SessionState → Surroundings → Start
start_of state out = record { terms = state.terms; joined = state.joined; stream = state.stream; left = out.left }

-- the most bytes that it may still hear: those held, and those of the reads that are left
abbrev pub to_hear : SessionState → ℕ
to_hear state = length state.stream.bytes + room_len * (most_reads - state.reads)

-- what all turns keep
pub record KeepsTerms (old new : SessionState) : Type 0 where
  pub terms : new.terms ≡ old.terms
  pub worker : new.worker ≡ old.worker

-- a turn that goes on
pub record GoesOn (old : SessionState) (out : Surroundings) (new : SessionState) (out' : Surroundings) : Type 0 where
  pub fresh : old.outcome ≡ None
  pub keeps : KeepsTerms old new
  pub turn : TakesTurn old.terms (greeting_of old) (reading_of old) out (reading_of new) out'
  pub joined : new.joined ≡ true
  pub messages : new.messages ≡ (if old.joined then old.messages + 1 else old.messages)
  pub unended : new.outcome ≡ None

-- the last turn, at the end of the input
pub record Ends (end : End) (old : SessionState) (out : Surroundings) (has_ended : Bool) (new : SessionState) (out' : Surroundings) : Type 0 where
  pub joined : old.joined ≡ true
  pub leave : TakesLeave (reading_of old) out has_ended (reading_of new) out'
  pub messages : end.messages ≡ old.messages
  pub outcome : new.outcome ≡ Some (Ok end)

-- the last turn, broken off: after its acts Leave, if the peer is in
pub record FailsWith (fault : SessionFault) (old : SessionState) (out : Surroundings) (source : SourceState)
    (new : SessionState) (out' : Surroundings) : Type 0 where
  pub acts : List Act
  pub leave : List Act
  pub gains : GainsUpTo out.past (acts ++ leave) out'.past
  pub departs : Departs (is_in old.joined acts) out'.past.lacked leave
  pub wrote : WroteFront fault out.written (greeting_of old ++ says old.interested acts) out'.written
  pub cause : BreaksBy fault (start_of old out) source acts
  pub outcome : new.outcome ≡ Some (Err fault)

-- the answer once more
abbrev pub answer_again : Result End SessionFault → Result (Option End) SessionFault
answer_again (Ok end) = Ok (Some end)
answer_again (Err fault) = Err fault

-- the message is a handshake of this torrent
abbrev pub NamesTorrent : List ℕ → Message → Type 0
NamesTorrent infohash (messages.Hello hello) = hello.infohash ≡ infohash
NamesTorrent infohash _ = ⊥

-- the first of the messages is a handshake of this torrent
abbrev pub BeginsWith : List ℕ → List Message → Type 0
BeginsWith infohash [] = ⊥
BeginsWith infohash (m ∷ ms) = NamesTorrent infohash m

-- A session that came to its end: the source gave a whole stream, of this torrent, and nothing is left of it; each of its messages made a
-- turn at the place, in which news was asked for, and then Leave came; and the greeting was written, then what the acts say.
pub record IsWhole (end : End) (terms : TermsState) (worker : ℕ) (out out' : Surroundings) : Type 0 where
  pub read : List ℕ
  pub messages : List Message
  pub acts : List Act
  pub consumed : Consumes out.left out'.left read
  pub at_end : IsAtEnd out'.left
  pub stream : IsStream (frame_limit (pieces_of terms)) read messages []
  pub same_torrent : BeginsWith terms.infohash messages
  pub counted : length messages ≡ end.messages + 1
  pub turns : AreTurns terms messages acts
  pub gains : Gains out.past acts out'.past
  pub news : TellsAllNews (pieces_of terms) messages out.past acts out'.past
  pub wrote : Appends out.written out'.written (greeting terms.infohash worker ++ says false acts)

-- no turn was taken yet: nothing was read, called or written
pub record IsUntouched (terms : TermsState) (worker : ℕ) (out : Surroundings) (now : SessionState) (out' : Surroundings) : Type 0 where
  pub state : now ≡ begun terms worker
  pub left : out'.left ≡ out.left
  pub gains : Gains out.past [] out'.past
  pub written : out'.written ≡ out.written

-- The first turn and some more were taken: what was read is the handshake, the messages and what is held; the place gained a turn for each
-- of them; and the greeting was written, then what the acts say.
pub record TookTurns (terms : TermsState) (worker : ℕ) (out : Surroundings) (now : SessionState) (out' : Surroundings) : Type 0 where
  pub first : Message
  pub text : List ℕ
  pub read : List ℕ
  pub messages : List Message
  pub acts : List Act
  pub spells : Spells false (frame_limit (pieces_of terms)) first text
  pub same_torrent : NamesTorrent terms.infohash first
  pub consumed : Consumes out.left out'.left (text ++ read)
  pub begins : Begins true (frame_limit (pieces_of terms)) read messages now.stream.bytes
  pub counted : length messages ≡ now.messages
  pub turned : TurnsOf terms (first ∷ messages) acts
  pub gains : Gains out.past acts out'.past
  pub news : EachAsksForNews (pieces_of terms) (first ∷ messages) out.past acts out'.past
  pub wrote : Appends out.written out'.written (greeting terms.infohash worker ++ says false acts)
  pub interest : now.interested ≡ interest_after false acts
  pub terms_are : now.terms ≡ terms
  pub limit : now.stream.limit ≡ frame_limit (pieces_of terms)
  pub greeted : now.stream.greeted ≡ true
  pub joined : now.joined ≡ true
  pub unended : now.outcome ≡ None

-- some turns were taken, or none
abbrev pub Running : TermsState → ℕ → Surroundings → SessionState → Surroundings → Type 0
Running terms worker out now out' = IsUntouched terms worker out now out' ⊎ TookTurns terms worker out now out'

-- a session that a fault cut short: some turns that went on, then the turn that broke off
pub record IsCutShort (fault : SessionFault) (terms : TermsState) (worker : ℕ)
    (out : Surroundings) (source : SourceState) (out' : Surroundings) : Type 0 where
  pub now : SessionState
  pub mid : Surroundings
  pub new : SessionState
  pub turns : Running terms worker out now mid
  pub fails : FailsWith fault now mid source new out'
