-- What a session reads.
use Rattle.std.specs.Prelude.{◌≡◌, ◌⊎◌, ℕ, ◌≤◌, ◌^◌, Bool, true, List, [], ◌++◌, length, Option, Result, MatchResult, IfOk}
use Rattle.std.specs.Io.KnownBytes.{Consumes, IsAtEnd}
use Rattle.bt_wire.specs.declared.message.Message.{Message}
use Rattle.bt_wire.specs.declared.message.WireFault.{WireFault}
use Rattle.bt_wire.specs.declared.message.WireFault.TheVariants as wire
use Rattle.bt_wire.specs.Stream.{InboundState, Gives, HasNothing, HasFault}
use Rattle.bt_peer.specs.declared.fault.SessionFault.{SessionFault}
use Rattle.bt_peer.specs.declared.fault.SessionFault.TheVariants as faults

-- want of memory is a fault of the session's own
abbrev pub session_fault : WireFault → SessionFault
session_fault wire.NoMemory = faults.NoMemory
session_fault fault = faults.Wire fault

-- with these bytes fed
abbrev pub fed : InboundState → List ℕ → InboundState
fed stream bytes = record stream { bytes = stream.bytes ++ bytes }

-- neither a message nor a fault stands at the front of what is held
abbrev pub IsStuck : InboundState → Type 0
IsStuck stream = HasNothing stream.greeted stream.limit stream.bytes

-- what was held and what was read are a message, then what is held now
pub record Hears (old : InboundState) (left left' : Option (List ℕ)) (m : Message) (new : InboundState) : Type 0 where
  pub read : List ℕ
  pub consumed : Consumes left left' read
  pub gives : Gives (fed old read) m new

-- the source has ended, with no whole message held
pub record HearsEnd (old : InboundState) (left left' : Option (List ℕ)) (has_ended : Bool) (new : InboundState) : Type 0 where
  pub read : List ℕ
  pub consumed : Consumes left left' read
  pub held : new ≡ fed old read
  pub stuck : IsStuck new
  pub ended : has_ended ≡ true
  pub at_end : IsAtEnd left'

-- the most reads that a session asks for
abbrev pub most_reads : ℕ
most_reads = 2 ^ 32

-- the most bytes of one read
abbrev pub room_len : ℕ
room_len = 65536

-- one read put what it gave behind these bytes, and gave none at the end alone
pub record ReadsBehind {E : Type 0} (result : Result ℕ E) (old new : List ℕ) (left left' : Option (List ℕ)) (has_ended : Bool) : Type 0 where
  pub read : List ℕ
  pub consumed : Consumes left left' read
  pub behind : new ≡ old ++ read
  pub count : MatchResult result (λ count. (length read ≡ count) × (count ≤ room_len)) (λ _. read ≡ [])
  pub at_end : IfOk result (λ count. count ≡ 0 → (has_ended ≡ true) × IsAtEnd left')

-- what a source says after a turn, with the session's count of its reads
pub record SourceState : Type 0 where
  pub left : Option (List ℕ)
  pub ended : Bool
  pub failed : Bool
  pub reads : ℕ

-- what a source tells of itself, beside a count of its reads
abbrev pub source_state : {R : Type 0} → (R → Option (List ℕ)) → (R → Bool) → (R → Bool) → R → ℕ → SourceState
source_state left ended failed reader reads =
    record { left = left reader; ended = ended reader; failed = failed reader; reads = reads }

-- why no message came: a fault at the front of what is held, a source that failed or was asked too often, or want of memory
abbrev pub StopsHearing : SessionFault → InboundState → SourceState → Type 0
StopsHearing (faults.Wire fault) stream source = HasFault stream.greeted stream.limit stream.bytes fault
StopsHearing faults.ReadFault stream source = IsStuck stream × ((source.failed ≡ true) ⊎ (most_reads ≤ source.reads))
StopsHearing faults.NoMemory stream source = Unit {0}
StopsHearing _ stream source = ⊥

-- no message came, for this fault
pub record HearsFault (old : InboundState) (left : Option (List ℕ)) (source : SourceState) (fault : SessionFault) : Type 0 where
  pub read : List ℕ
  pub consumed : Consumes left source.left read
  pub cause : StopsHearing fault (fed old read) source
