-- Several streams' sessions at one desk: what each of them sees there, and how it ended.
use Rattle.std.specs.Prelude.{◌≡◌, ◌≤◌, ◌<◌, ℕ, Bool, true, false, List, [], ◌∷◌, ◌&&◌, nat_lt, length, replicate, slice_index_or, Option, Some}
use Rattle.std.specs.Prelude.{None, Result, Ok, Err, ◌||◌}
use Rattle.std.specs.List.{list_any}
use Rattle.bt_meta.specs.declared.devices.Sink as sinks
use Rattle.bt_meta.specs.declared.devices.Source as sources
use Rattle.bt_meta.specs.Layout.{piece_count}
use Rattle.bt_history.specs.declared.call.Reply.TheVariants as replies
use Rattle.bt_history.specs.declared.event.Action.TheVariants as actions
use Rattle.bt_history.specs.Peers.{flag}
use Rattle.bt_history.specs.Pieces.{chosen, had}
use Rattle.bt_history.specs.Setting.{Setting}
use Rattle.bt_picker.specs.Checks.{FinishedBelow, waits}
use Rattle.bt_picker.specs.Positions.{DeskState}
use Rattle.bt_peer.specs.declared.fault.End.{End}
use Rattle.bt_peer.specs.declared.fault.SessionFault.{SessionFault}
use Rattle.bt_peer.specs.declared.fault.SessionFault.TheVariants as faults
use Rattle.bt_peer.specs.declared.stream.Stream.{Stream}
use Rattle.bt_peer.specs.Conduct.{Calls, DrawsNumbers, all_checked, generator_of}
use Rattle.bt_peer.specs.Desks.{calls_in}
use Rattle.bt_peer.specs.Reader.{SourceState, most_reads}
use Rattle.bt_peer.specs.Places.{PlaceRecord}
use Rattle.bt_peer.specs.Sessions.{IsWhole, IsCutShort}
use Rattle.bt_peer.specs.SessionTerms.{TermsState}
use Rattle.bt_peer.specs.Steps.{Surroundings}

-- what a stream says of itself
pub record StreamRecord : Type 0 where
  -- the bytes that are left to read
  pub left : Option (List ℕ)
  -- the reader has ended
  pub ended : Bool
  -- the reader has failed
  pub failed : Bool
  -- how often the reader was asked
  pub reads : ℕ
  -- the bytes that were written
  pub written : Option (List ℕ)
  -- the writer has failed
  pub writer_failed : Bool

-- what a stream tells of itself, by its reader and its writer
abbrev pub stream_record : {R W : Type 0} → (R → Option (List ℕ)) → (R → Bool) → (R → Bool) → (R → ℕ) → (W → Option (List ℕ)) → (W → Bool) →
    Stream R W → StreamRecord
stream_record left ended failed reads written writer_failed stream = record {
  left = left stream.reader;
  ended = ended stream.reader;
  failed = failed stream.reader;
  reads = reads stream.reader;
  written = written stream.writer;
  writer_failed = writer_failed stream.writer;
}

-- the same, by all that the bounds of its devices say
abbrev pub stream_of : {R W : Type 0} → sources.Ghosts R → sinks.Ghosts W → Stream R W → StreamRecord
stream_of of to stream = stream_record of.left of.ended of.failed of.reads to.written to.failed stream

-- a piece of the torrent that is had
abbrev pub had_at : DeskState → ℕ → Bool
had_at desk piece = nat_lt piece (piece_count desk.setting.torrent) && had desk.history piece

-- what a worker's session sees of a desk at which others have turns too: its own calls, and which pieces are had
abbrev pub own_record : DeskState → ℕ → List Bool → Bool → PlaceRecord
own_record desk worker told lacked = record {
  lent = [];
  worker = worker;
  setting = desk.setting;
  calls = calls_in desk.history worker;
  others = λ other. [];
  had = had_at desk;
  in_order = [];
  told = λ piece. slice_index_or told piece false;
  lacked = lacked;
}

-- what is round a worker's session: its own of the desk, and its stream
abbrev pub around : DeskState → ℕ → List Bool → Bool → StreamRecord → Surroundings
around desk worker told lacked stream =
    record { past = own_record desk worker told lacked; left = stream.left; written = stream.written }

-- that before a run: nothing was called, and no piece was told
abbrev pub before_all : Setting → ℕ → StreamRecord → Surroundings
before_all setting worker stream =
    around (record { setting = setting; history = [] }) worker (replicate (piece_count setting.torrent) false) false stream

-- what a stream's reader says, with the session's count of its reads
abbrev pub source_of : StreamRecord → ℕ → SourceState
source_of stream reads =
    record { left = stream.left; ended = stream.ended; failed = stream.failed; reads = reads }

-- a session came to this end, or to this fault
abbrev pub EndsAs : Result End SessionFault → TermsState → ℕ → Surroundings → SourceState → Surroundings → Type 0
EndsAs (Ok end) terms worker out source out' = IsWhole end terms worker out out'
EndsAs (Err fault) terms worker out source out' = IsCutShort fault terms worker out source out'

-- what a stream's devices say after such an end: after an end the reader has ended, and neither has failed meanwhile; after the fault of a
-- write the writer has failed
abbrev pub DevicesAfter : Result End SessionFault → StreamRecord → StreamRecord → Type 0
DevicesAfter (Ok end) old new = (new.ended ≡ true) × (new.failed ≡ old.failed) × (new.writer_failed ≡ old.writer_failed)
DevicesAfter (Err faults.WriteFault) old new = new.writer_failed ≡ true
DevicesAfter (Err fault) old new = Unit {0}

-- after an end each piece that the calls completed was checked at once
abbrev pub ChecksAfter : Result End SessionFault → Calls → Type 0
ChecksAfter (Ok end) calls = all_checked calls ≡ true
ChecksAfter (Err fault) calls = Unit {0}

-- A stream's session ended so, and a call of it found no memory or none did: from the empty desk, and the stream as it was handed in, to
-- this desk, and the stream as it was given back.
pub record Ended (outcome : Result End SessionFault) (lacked : Bool) (terms : TermsState) (seed worker : ℕ)
    (old : StreamRecord) (desk : DeskState) (new : StreamRecord) : Type 0 where
  -- the pieces that were told to the peer
  pub told : List Bool
  -- the reads that the session counted
  pub reads : ℕ
  pub ends : EndsAs outcome terms worker (before_all desk.setting worker old) (source_of new reads) (around desk worker told lacked new)
  -- the numbers of its Next calls are those of the generator of its number, made of the seed
  pub numbers : DrawsNumbers (generator_of seed worker) [] (calls_in desk.history worker)
  pub checks : ChecksAfter outcome (calls_in desk.history worker)
  pub devices : DevicesAfter outcome old new
  -- its reads are those that its source was asked for, if none were before, and no more than a session asks for
  pub counted : old.reads ≡ 0 → new.reads ≡ reads
  pub most : reads ≤ most_reads

-- the sessions of the streams, as they were handed in and as they were given back, ended so, in order; `lacks` has for each whether a call
-- of it found no memory
abbrev pub EachEnded : {X : Type 0} → (X → StreamRecord) → TermsState → ℕ → List X → DeskState → List X →
    List (Result End SessionFault) → List Bool → Type 0
EachEnded {X} record_of terms seed streams desk streams' ends lacks =
    (i : ℕ) (stream : X) (end : Result End SessionFault) (lack : Bool) → i < length streams →
    Ended (slice_index_or ends i end) (slice_index_or lacks i lack) terms seed i
    (record_of (slice_index_or streams i stream)) desk (record_of (slice_index_or streams' i stream))

-- the calls that the last worker makes before the first round: which pieces are wanted, if that is told
abbrev pub opening_of : Option (List Bool) → Calls
opening_of None = []
opening_of (Some flags) = (actions.Want flags, replies.Quiet) ∷ []

-- just the pieces that were told are chosen, and where none were told each piece is
abbrev pub AreChosen : Option (List Bool) → DeskState → Type 0
AreChosen None desk = (piece : ℕ) → chosen desk.history piece ≡ true
AreChosen (Some flags) desk = (piece : ℕ) → chosen desk.history piece ≡ flag flags piece

-- A worker made these calls before all sessions had ended, then the last checks, and no other call: each piece that waited for a check was
-- settled, the least first, or, where memory ran out, those below one that still waits.
pub record Finishes (worker : ℕ) (opening : Calls) (unfinished : Bool) (desk : DeskState) : Type 0 where
  pub before : DeskState
  pub opened : calls_in before.history worker ≡ opening
  pub count : ℕ
  pub finished : FinishedBelow before worker count desk
  pub all : unfinished ≡ false → count ≡ piece_count desk.setting.torrent
  pub still : unfinished ≡ true → waits desk.setting desk.history count ≡ true

-- What several sessions in one thread came to. Each session ended so; one more worker told what is wanted and made the last checks; and the
-- run is short just where memory lacked for these, or for a call of a session: its Leave after a fault, or one that the fault tells of.
pub record RanInTurns {X : Type 0} (record_of : X → StreamRecord) (terms : TermsState) (seed : ℕ) (want : Option (List Bool))
    (streams : List X) (short : Bool) (desk : DeskState) (streams' : List X) (ends : List (Result End SessionFault)) : Type 0 where
  -- for each session, whether a call of it found no memory
  pub lacks : List Bool
  -- whether the last checks were given up
  pub unfinished : Bool
  pub count : length lacks ≡ length streams
  pub sessions : EachEnded record_of terms seed streams desk streams' ends lacks
  pub finishes : Finishes (length streams) (opening_of want) unfinished desk
  -- the chosen pieces are still those that were told
  pub chosen : AreChosen want desk
  pub short_is : short ≡ (unfinished || list_any (λ lacked. lacked) lacks)
