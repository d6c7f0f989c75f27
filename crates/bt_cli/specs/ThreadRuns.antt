-- A run with recorded peers in threads: what came of it, and how the command ends.
use Rattle.std.specs.Prelude.{◌≡◌, ◌⊎◌, ◌<◌, ◌≤◌, ◌+◌, ℕ, Bool, List, length, Option, Some, None, Result, Ok, Err}
use Rattle.bt_meta.specs.Layout.{Metainfo, piece_count}
use Rattle.bt_meta.specs.declared.fault.MetaFault.{MetaFault}
use Rattle.bt_history.specs.Legal.{IsLegal}
use Rattle.bt_history.specs.Setting.{AreRules, setting_of}
use Rattle.bt_peer.specs.declared.fault.End.{End}
use Rattle.bt_peer.specs.declared.fault.SessionFault.{SessionFault}
use Rattle.bt_session.specs.declared.fault.SwarmFault.{SwarmFault}
use Rattle.bt_session.specs.declared.fault.SwarmFault.TheVariants as swarms
use Rattle.bt_session.specs.Checking.{CheckersCheck}
use Rattle.bt_peer.specs.Serial.{AreChosen, StreamRecord}
use Rattle.bt_session.specs.Swarms.{EachSwarmed, MakesLastChecks}
use Rattle.bt_session.specs.Runs.{LeavesNone}
use Rattle.bt_peer.specs.SessionTerms.{terms_of}
use Rattle.bt_shared.specs.declared.gather.Book.{Book}
use Rattle.bt_shared.specs.Gathering.{EachAgrees}
use Rattle.bt_text.specs.declared.fault.Fault.{Fault}
use Rattle.bt_text.specs.declared.fault.Fault.TheVariants as faults
use Rattle.bt_cli.specs.declared.options.Options.{Options}
use Rattle.bt_cli.specs.Runs.{Ended, IsEndStatus}
use Rattle.bt_text.specs.Statuses.{of_gather, of_metainfo, status_of}

-- A run of these streams in threads, by options that fit the torrent of the bytes: at a desk of that torrent, with an end and a log for each,
-- each end as its session's at its worker's log, which asked for blocks by the depth of the options. The checkers made checks alone, and the
-- last worker the last ones; the logs are the journal's.
pub record IsSwarmRun {X : Type 0} (record_of : X → StreamRecord) (read : Result Metainfo MetaFault) (options : Options)
    (streams : List X) (torrent : Metainfo) (short : Bool) (book : Book) (left : List X) (ends : List (Result End SessionFault)) : Type 0 where
  pub is_torrent : read ≡ Ok torrent
  pub rules : AreRules torrent.layout options.rules
  pub setting : book.desk.setting ≡ setting_of torrent.layout (length streams + options.checkers + 1) options.rules
  pub legal : IsLegal book.desk.setting book.desk.history
  pub logs : length book.logs.items ≡ length streams + options.checkers + 1
  pub agrees : EachAgrees book.desk.history book.logs.items
  pub count : length ends ≡ length streams
  pub all_left : length left ≡ length streams
  pub sessions : EachSwarmed record_of (terms_of torrent options.rules.depth)
      (setting_of torrent.layout (length streams + options.checkers + 1) options.rules) options.seed streams book.desk.history book.logs.items left
      ends short
  pub checks : CheckersCheck (length streams) options.checkers book.logs.items
  pub finishes : MakesLastChecks (length streams + options.checkers) book.logs.items (piece_count torrent.layout)
  pub waiting : LeavesNone short book.desk
  -- each piece is chosen
  pub chosen : AreChosen None book.desk

-- A run of these streams in threads came to this book: it is such a run, and ended as `Ended` says.
pub record RanThreads {X : Type 0} (record_of : X → StreamRecord) (torrent : Metainfo) (options : Options) (streams : List X) (book : Book)
    (ended : Result Bool Fault) (old new : Option (List ℕ)) (failed : Bool) : Type 0 where
  pub ends : List (Result End SessionFault)
  pub short : Bool
  -- the streams as the sessions left them
  pub left : List X
  pub run : IsSwarmRun record_of (Ok torrent) options streams torrent short book left ends
  pub told : Ended short ends book.desk ended options.journal old new failed

-- why a run in threads came to nothing, as a fault of the command
abbrev pub of_swarm : SwarmFault → Fault
of_swarm swarms.NoMemory = faults.Memory
of_swarm (swarms.Gather fault) = of_gather fault
of_swarm swarms.NoThread = faults.NoThread

-- why a run in threads comes to no book: there is no metainfo file, or more pieces are to be picked at random than there are; else want of
-- memory, a thread that couldn't be started, or logs that aren't the journal's
abbrev pub IsThreadsFault : Result Metainfo MetaFault → Options → Fault → Type 0
IsThreadsFault (Err e) options fault = (fault ≡ of_metainfo e) ⊎ (fault ≡ faults.Memory)
IsThreadsFault (Ok t) options faults.Random = piece_count t.layout < options.rules.random
IsThreadsFault (Ok t) options faults.Memory = Unit {0}
IsThreadsFault (Ok t) options fault = (options.rules.random ≤ piece_count t.layout) × ((cause : SwarmFault) × (fault ≡ of_swarm cause))

-- the status where the run came to no book is that of the fault: 2 where too many pieces are to be picked at random, 3 where the bytes are
-- no metainfo file, 5 for want of memory or of a thread, 6 where the logs aren't the journal's
abbrev pub IsThreadsStop : Result Metainfo MetaFault → Options → ℕ → Type 0
IsThreadsStop read options status = (fault : Fault) × IsThreadsFault read options fault × (status ≡ status_of fault)

-- with which status the command ends, and whether it gives the book: with one it is that of a run in one thread which came to its desk
abbrev pub IsThreadsStatus : Result Metainfo MetaFault → Options → ℕ → Option Book → Type 0
IsThreadsStatus read options status None = IsThreadsStop read options status
IsThreadsStatus read options status (Some book) = IsEndStatus read status book.desk
