-- What is heard of a peer: the stream that comes from it, and how often its source was asked.
use Rattle.std.specs.Prelude.{◌≡◌, ℕ, ◌+◌, ◌*◌, ◌≤◌, true, List, [], length, Option, Result, MatchResult, IfOk, IfErr, IfSome, IfNone, OnOk}
use Rattle.std.specs.Io.KnownBytes.{Consumes, IsAtEnd}
use Rattle.bt_meta.specs.declared.devices.Source as sources
use Rattle.bt_wire.specs.declared.message.Message.{Message}
use Rattle.bt_wire.specs.Stream.{InboundState}
use Rattle.bt_peer.specs.declared.fault.SessionFault.{SessionFault}
use Rattle.bt_peer.specs.declared.fault.SessionFault.TheVariants as faults
use Rattle.bt_peer.specs.declared.reader.Heard.{Heard}
use Rattle.bt_peer.specs.Reader.{Hears, HearsEnd, HearsFault, SourceState, fed, room_len, source_state}

-- what is heard of a peer, beside what its source says
pub record Hearing : Type 0 where
  pub stream : InboundState
  -- with our count of its reads
  pub source : SourceState
  -- its own count
  pub asked : ℕ

-- what was heard, by what the source tells of itself
abbrev pub hearing : {R : Type 0} → sources.Ghosts R → Heard → R → Hearing
hearing of heard reader = record {
  stream = heard.inbound;
  source = source_state of.left of.ended of.failed reader heard.reads;
  asked = of.reads reader;
}

-- our count of the reads stays the source's
abbrev pub StaysCounted : Hearing → Hearing → Type 0
StaysCounted old new = old.asked ≡ old.source.reads → new.asked ≡ new.source.reads

-- why one read gave nothing: memory was lacking, or the source failed
abbrev pub StopsReading : SessionFault → SourceState → Type 0
StopsReading faults.NoMemory source = Unit {0}
StopsReading faults.ReadFault source = source.failed ≡ true
StopsReading _ source = ⊥

-- one read was made, and what it gave was fed; without memory for it none was made
pub record ReadsOn (result : Result ℕ SessionFault) (old new : Hearing) : Type 0 where
  pub read : List ℕ
  pub consumed : Consumes old.source.left new.source.left read
  pub now : new.stream ≡ fed old.stream read
  pub few : MatchResult result (λ count. (length read ≡ count) × (count ≤ room_len) × (new.source.reads ≡ old.source.reads + 1)) (λ _. read ≡ [])
  pub at_end : IfOk result (λ count. count ≡ 0 → (new.source.ended ≡ true) × IsAtEnd new.source.left)
  pub sound : OnOk result (new.source.failed ≡ old.source.failed)
  pub cause : IfErr result (λ fault. StopsReading fault new.source)
  pub counted : StaysCounted old new

-- a message was taken off the bytes held, and off those that the reads gave
abbrev pub UsesUp : Hearing → Hearing → Type 0
UsesUp old new =
    length new.stream.bytes + 4 + room_len * old.source.reads ≤ length old.stream.bytes + room_len * new.source.reads

-- the next message was heard, or the end of the input, or a fault came
pub record HearsNext (result : Result (Option Message) SessionFault) (old new : Hearing) : Type 0 where
  pub message : IfOk result (λ o. IfSome o (λ m. Hears old.stream old.source.left new.source.left m new.stream))
  pub end : IfOk result (λ o. IfNone o (HearsEnd old.stream old.source.left new.source.left new.source.ended new.stream))
  pub fault : IfErr result (HearsFault old.stream old.source.left new.source)
  pub few : IfOk result (λ o. IfSome o (λ m. UsesUp old new))
  pub sound : OnOk result (new.source.failed ≡ old.source.failed)
  pub counted : StaysCounted old new
