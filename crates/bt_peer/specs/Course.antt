-- The course of a session that takes its turns among others. Only contracts within the crate cite this module.
use Rattle.std.specs.Prelude.{◌≡◌, ◌≢◌, ◌≤◌, ◌<◌, ℕ, Bool, true, false, List, [], All, length, replicate, slice_index_or, suc, Option, Some, None}
use Rattle.std.specs.Prelude.{Result, Ok, Err}
use Rattle.bt_meta.specs.Layout.{piece_count}
use Rattle.bt_history.specs.Peers.{flag}
use Rattle.bt_history.specs.Pieces.{chosen, had}
use Rattle.bt_history.specs.Finished.{finished}
use Rattle.bt_picker.specs.Positions.{DeskState}
use Rattle.bt_peer.specs.declared.fault.End.{End}
use Rattle.bt_peer.specs.declared.fault.SessionFault.{SessionFault}
use Rattle.bt_peer.specs.declared.seat.Seat.{Seat}
use Rattle.bt_peer.specs.declared.stream.TheConstants.{MOST_STREAMS}
use Rattle.rand_core.specs.Stream.{Stream as Numbers}
use Rattle.bt_peer.specs.Conduct.{Calls, Conducts, DrawsNumbers, answers_of, generator_of}
use Rattle.bt_peer.specs.Desks.{calls_in}
use Rattle.bt_peer.specs.News.{AreTold}
use Rattle.bt_peer.specs.Places.{Extends}
use Rattle.bt_peer.specs.Reader.{SourceState, most_reads}
use Rattle.bt_peer.specs.Serial.{StreamRecord, DevicesAfter, EndsAs, around, had_at, opening_of, source_of}
use Rattle.bt_peer.specs.Sessions.{SessionState, Running, begun, to_hear}
use Rattle.bt_peer.specs.SessionTerms.{TermsState, pieces_of}
use Rattle.bt_peer.specs.Steps.{Surroundings}

-- what a run knows of one of its streams: how far its session came
pub record Course : Type 0 where
  pub desk : DeskState
  pub session : SessionState
  pub told : List Bool
  pub stream : StreamRecord
  -- a call of its last turn found no memory
  pub lacked : Bool
  -- all that its generator will answer
  pub generator : Numbers

-- desk, seat and stream together
abbrev pub course_of : DeskState → Seat → StreamRecord → Course
course_of desk seat stream =
    record { desk = desk; session = seat.session; told = seat.told; stream = stream; lacked = seat.lacked; generator = answers_of seat.rng }

-- the session runs, in surroundings that lacked no memory, or it ended so in these
abbrev pub SessionBy : Option (Result End SessionFault) → TermsState → ℕ → Surroundings → SessionState → SourceState →
    Surroundings → Surroundings → Type 0
SessionBy None terms worker out session source unlacking here = Running terms worker out session unlacking
SessionBy (Some outcome) terms worker out session source unlacking here = EndsAs outcome terms worker out source here

-- what the devices say of a session that runs, or that ended so
abbrev pub DevicesBy : Option (Result End SessionFault) → StreamRecord → StreamRecord → Type 0
DevicesBy None old new = (new.failed ≡ old.failed) × (new.writer_failed ≡ old.writer_failed)
DevicesBy (Some outcome) old new = DevicesAfter outcome old new

-- the calls of a session that runs, or that ended so, from this generator on
abbrev pub ConductBy : Option (Result End SessionFault) → Numbers → Calls → Calls → Numbers → Type 0
ConductBy None generator old new left = Conducts true generator old new left
ConductBy (Some (Ok end)) generator old new left = Conducts true generator old new left
ConductBy (Some (Err fault)) generator old new left = DrawsNumbers generator old new

-- a session that began in these surroundings, with that generator and that stream, came so far
pub record IsCourse (terms : TermsState) (worker : ℕ) (generator : Numbers) (out : Surroundings) (first : StreamRecord) (now : Course) : Type 0 where
  pub session : SessionBy now.session.outcome terms worker out now.session (source_of now.stream now.session.reads)
      (around now.desk worker now.told false now.stream) (around now.desk worker now.told now.lacked now.stream)
  pub conduct : ConductBy now.session.outcome generator out.past.calls (calls_in now.desk.history worker) now.generator
  pub devices : DevicesBy now.session.outcome first now.stream
  pub counted : first.reads ≡ 0 → now.stream.reads ≡ now.session.reads
  pub most : now.session.reads ≤ most_reads

-- where a session came so far as before, it came so far as now
pub record Keeps (worker : ℕ) (old new : Course) : Type 0 where
  pub still : (terms : TermsState) (generator : Numbers) (out : Surroundings) (first : StreamRecord) →
      IsCourse terms worker generator out first old → IsCourse terms worker generator out first new

-- a worker's turn leaves alone what the others called, and what is had stays had
pub record LeavesOthers (worker : ℕ) (old new : DeskState) : Type 0 where
  pub setting : new.setting ≡ old.setting
  pub calls : (other : ℕ) → other ≢ worker → calls_in new.history other ≡ calls_in old.history other
  pub had : (piece : ℕ) → had_at old piece ≡ true → had_at new piece ≡ true
  pub in_order : Extends (finished old.history) (finished new.history)

-- what may be left of a session: nothing once it has ended
abbrev pub left_after : Option (Result End SessionFault) → ℕ → ℕ
left_after None left = suc left
left_after (Some outcome) left = 0

-- what may be left of the session at a seat
abbrev pub left_of : Seat → ℕ
left_of seat = left_after seat.session.outcome (to_hear seat.session)

-- the course of each stream's session goes on
abbrev pub EachKeeps : {X : Type 0} → (X → StreamRecord) → DeskState → List Seat → List X → DeskState → List Seat → List X → Type 0
EachKeeps {X} record_of desk seats streams desk' seats' streams' = (i : ℕ) (seat : Seat) (stream : X) → i < length streams →
    Keeps i (course_of desk (slice_index_or seats i seat) (record_of (slice_index_or streams i stream)))
    (course_of desk' (slice_index_or seats' i seat) (record_of (slice_index_or streams' i stream)))

-- turns of the first so many workers leave the others alone
pub record LeavesRest (count : ℕ) (old new : DeskState) : Type 0 where
  pub setting : new.setting ≡ old.setting
  pub calls : (other : ℕ) → count ≤ other → calls_in new.history other ≡ calls_in old.history other

-- a seat notes pieces of the desk's torrent, and has told the first so many of those that came to be had
pub record NotesPieces (desk : DeskState) (seat : Seat) : Type 0 where
  pub count : length seat.told ≡ piece_count desk.setting.torrent
  pub told : AreTold seat.told seat.seen (finished desk.history)

-- a run may take turns: each stream has a seat and a worker, and there is one worker more
pub record MayTakeTurns {X : Type 0} (desk : DeskState) (seats : List Seat) (streams : List X) : Type 0 where
  pub seated : length seats ≡ length streams
  pub workers : length streams < desk.setting.workers
  pub few : length streams ≤ MOST_STREAMS
  pub fit : All (NotesPieces desk) seats

-- a run took turns: the course of each stream's session goes on, the other workers are left alone, and the run may go on
pub record TookTurns {X : Type 0} (record_of : X → StreamRecord) (desk : DeskState) (seats : List Seat) (streams : List X)
    (desk' : DeskState) (seats' : List Seat) (streams' : List X) : Type 0 where
  pub count : length streams' ≡ length streams
  pub keeps : EachKeeps record_of desk seats streams desk' seats' streams'
  pub rest : LeavesRest (length streams) desk desk'
  pub may : MayTakeTurns desk' seats' streams'

-- the session at a seat has ended
abbrev pub HasEnded : Seat → Type 0
HasEnded seat = seat.session.outcome ≢ None

-- no worker but this one called anything at the desk, and no piece is had
pub record IsFresh (last : ℕ) (desk : DeskState) : Type 0 where
  pub uncalled : (worker : ℕ) → worker ≢ last → calls_in desk.history worker ≡ []
  pub none_had : (piece : ℕ) → had desk.history piece ≡ false

-- a worker told these wanted pieces, and nothing else was called
pub record HasOpened (worker : ℕ) (flags : List Bool) (desk : DeskState) : Type 0 where
  pub fresh : IsFresh worker desk
  pub opened : calls_in desk.history worker ≡ opening_of (Some flags)
  pub chosen : (piece : ℕ) → chosen desk.history piece ≡ flag flags piece

-- a worker's seat before its first turn
pub record IsNew (terms : TermsState) (seed worker : ℕ) (seat : Seat) : Type 0 where
  pub session : seat.session ≡ begun terms worker
  pub told : seat.told ≡ replicate (pieces_of terms) false
  pub seen : seat.seen ≡ 0
  pub generator : answers_of seat.rng ≡ generator_of seed worker

-- that of each worker
abbrev pub AreNew : TermsState → ℕ → List Seat → Type 0
AreNew terms seed seats = (i : ℕ) (any : Seat) → i < length seats → IsNew terms seed i (slice_index_or seats i any)
