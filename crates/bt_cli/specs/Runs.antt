-- A run with recorded peers: what is printed of it, and how the command ends.
use Rattle.std.specs.Prelude.{◌≡◌, ◌≢◌, ◌⊎◌, ◌↔◌, ◌<◌, ◌+◌, ℕ, Bool, true, false, List, [], ◌++◌, length, map, ◌||◌, Option, Some, None}
use Rattle.std.specs.Prelude.{option_map, Result, Ok, Err, IfOk, IfErr, IsErr}
use Rattle.std.specs.List.{list_any}
use Rattle.std.specs.Io.KnownBytes.{Appends}
use Rattle.bt_meta.specs.Layout.{Metainfo, piece_count}
use Rattle.bt_meta.specs.WireBits.{HasSpareBit, IsSpelled, wire_len}
use Rattle.bt_meta.specs.declared.fault.BitFault.TheVariants.{SpareBits, WrongCount}
use Rattle.bt_meta.specs.declared.fault.MetaFault.{MetaFault}
use Rattle.bt_history.specs.declared.call.Entry.{Entry}
use Rattle.bt_history.specs.Entries.{event_of, history_of}
use Rattle.bt_history.specs.Setting.{AreRules, setting_of}
use Rattle.bt_picker.specs.Checks.{waits}
use Rattle.bt_picker.specs.Contents.{has_wanted}
use Rattle.bt_picker.specs.Positions.{DeskState}
use Rattle.bt_peer.specs.declared.fault.End.{End}
use Rattle.bt_peer.specs.declared.fault.SessionFault.{SessionFault}
use Rattle.bt_peer.specs.declared.fault.SessionFault.TheVariants as sessions
use Rattle.bt_peer.specs.Serial.{RanInTurns, StreamRecord}
use Rattle.bt_peer.specs.SessionTerms.{terms_of}
use Rattle.bt_text.specs.declared.fault.Fault.{Fault}
use Rattle.bt_text.specs.declared.fault.Fault.TheVariants as faults
use Rattle.bt_cli.specs.declared.report.Judged.{Judged}
use Rattle.bt_cli.specs.declared.report.Judged.TheVariants.{Sound, Unjudged}
use Rattle.bt_cli.specs.declared.options.Options.{Options}
use Rattle.bt_text.specs.Journals.{AreJournalLines}
use Rattle.bt_cli.specs.Reports.{report_text}
use Rattle.bt_text.specs.Statuses.{of_metainfo, status_of}

-- the lines of the desk's journal
pub record IsJournalOf (desk : DeskState) (text : List ℕ) : Type 0 where
  pub entries : List Entry
  pub journal : history_of entries ≡ desk.history
  pub lines : AreJournalLines (map event_of entries) text

-- what is printed before the report: the journal, where it is asked for
abbrev pub IsPrelude : Bool → DeskState → List ℕ → Type 0
IsPrelude true desk text = IsJournalOf desk text
IsPrelude false desk text = text ≡ []

-- a run was told: perhaps its journal, then how the streams ended, which pieces are lacking, and what the audit says
pub record TellsRun (journal : Bool) (ends : List (Result End SessionFault)) (desk : DeskState) (judged : Judged) (old new : Option (List ℕ)) : Type 0
  where
    pub prelude : List ℕ
    pub is_prelude : IsPrelude journal desk prelude
    pub wrote : Appends old new (prelude ++ report_text ends desk judged)

-- a session ended for want of memory
abbrev pub lacked_memory : Result End SessionFault → Bool
lacked_memory (Ok end) = false
lacked_memory (Err sessions.NoMemory) = true
lacked_memory (Err fault) = false

-- something was given up for want of memory: the last checks, or a session
abbrev pub gave_up : Bool → List (Result End SessionFault) → Bool
gave_up short ends = short || list_any lacked_memory ends

-- with which fault a run may end
abbrev pub IsRunFault : Fault → Type 0
IsRunFault fault = (fault ≡ faults.File) ⊎ (fault ≡ faults.Memory)

-- memory was lacking in a run: something was given up, or the audit found none
abbrev pub LacksMemory : Bool → List (Result End SessionFault) → Judged → Type 0
LacksMemory short ends judged = (gave_up short ends ≡ true) ⊎ (judged ≡ Unjudged)

-- How a run ended that came to this desk, and was to be told: it was, or the output has failed and a fault says so. The fault is want of
-- memory just where memory was lacking in the run, and a file's only where the output has failed.
pub record Ended (short : Bool) (ends : List (Result End SessionFault)) (desk : DeskState) (ended : Result Bool Fault)
    (journal : Bool) (old new : Option (List ℕ)) (failed : Bool) : Type 0 where
  pub judged : Judged
  pub is_judged : (judged ≡ Sound) ⊎ (judged ≡ Unjudged)
  pub complete : IfOk ended (λ all. all ≡ has_wanted desk.setting desk.history)
  pub fault : IfErr ended IsRunFault
  pub memory : (ended ≡ Err faults.Memory) ↔ LacksMemory short ends judged
  pub file : ended ≡ Err faults.File → failed ≡ true
  pub told : TellsRun journal ends desk judged old new ⊎ ((failed ≡ true) × IsErr ended)

-- the bytes that spell the wanted pieces, where some are asked for
abbrev pub want_of : Options → Option (List ℕ)
want_of options = option_map (λ bytes. bytes.items) options.want

-- the flags of so many pieces that these bytes spell, where there are any
abbrev pub IsWant : ℕ → Option (List ℕ) → Option (List Bool) → Type 0
IsWant pieces None None = Unit {0}
IsWant pieces None (Some flags) = ⊥
IsWant pieces (Some bytes) None = ⊥
IsWant pieces (Some bytes) (Some flags) = (length flags ≡ pieces) × IsSpelled flags bytes

-- A run of these streams in one thread, by options that fit the torrent of the bytes: at a desk of that torrent, with an end for each, each as
-- its session's, which asked for blocks by the depth of the options, and left after a fault, unless the run is short. The last worker told
-- the wanted pieces, if any, and made the last checks, and nothing else; and no piece waits for its check, unless the run is short.
pub record IsSerialRun {X : Type 0} (record_of : X → StreamRecord) (read : Result Metainfo MetaFault) (options : Options) (streams : List X)
    (torrent : Metainfo) (short : Bool) (desk : DeskState) (streams' : List X) (ends : List (Result End SessionFault)) : Type 0 where
  pub is_torrent : read ≡ Ok torrent
  pub rules : AreRules torrent.layout options.rules
  pub setting : desk.setting ≡ setting_of torrent.layout (length streams + 1) options.rules
  pub count : length ends ≡ length streams
  pub want : Option (List Bool)
  pub is_want : IsWant (piece_count torrent.layout) (want_of options) want
  pub ran : RanInTurns record_of (terms_of torrent options.rules.depth) options.seed want streams short desk streams' ends
  pub none_waits : short ≡ false → (piece : ℕ) → waits desk.setting desk.history piece ≡ false

-- A run of these streams came to this desk: it is such a run, and ended as `Ended` says.
pub record Ran {X : Type 0} (record_of : X → StreamRecord) (torrent : Metainfo) (options : Options) (streams : List X) (desk : DeskState)
    (streams' : List X) (ended : Result Bool Fault) (old new : Option (List ℕ)) (failed : Bool) : Type 0 where
  pub ends : List (Result End SessionFault)
  pub short : Bool
  pub run : IsSerialRun record_of (Ok torrent) options streams torrent short desk streams' ends
  pub told : Ended short ends desk ended options.journal old new failed

-- why these bytes spell no flags of so many pieces
abbrev pub IsWantFault : ℕ → Option (List ℕ) → Fault → Type 0
IsWantFault pieces want faults.Memory = Unit {0}
IsWantFault pieces (Some bytes) (faults.Want WrongCount) = length bytes ≢ wire_len pieces
IsWantFault pieces (Some bytes) (faults.Want SpareBits) = (length bytes ≡ wire_len pieces) × HasSpareBit bytes pieces
IsWantFault pieces want fault = ⊥

-- the wanted pieces are pieces of the torrent, but more are to be picked at random than there are
abbrev pub IsRandomFault : ℕ → Options → Type 0
IsRandomFault pieces options =
    (flags : Option (List Bool)) × IsWant pieces (want_of options) flags × (pieces < options.rules.random)

-- why the options don't fit a torrent of so many pieces: what they want is judged first
abbrev pub IsOptionFault : ℕ → Options → Fault → Type 0
IsOptionFault pieces options faults.Random = IsRandomFault pieces options
IsOptionFault pieces options fault = IsWantFault pieces (want_of options) fault

-- why a run doesn't begin: there is no metainfo file, or the options don't fit its torrent; each time memory may run out
abbrev pub IsStartFault : Result Metainfo MetaFault → Options → Fault → Type 0
IsStartFault (Ok t) options fault = IsOptionFault (piece_count t.layout) options fault
IsStartFault (Err e) options fault = (fault ≡ of_metainfo e) ⊎ (fault ≡ faults.Memory)

-- the exit status of a run: 0 where all wanted pieces are had, 1 where one isn't, and else the fault's
abbrev pub run_status : Result Bool Fault → ℕ
run_status (Ok true) = 0
run_status (Ok false) = 1
run_status (Err fault) = status_of fault

-- the status where the run didn't begin is that of the fault: 2 where the options don't fit the torrent, 3 where the bytes are no metainfo
-- file, 5 for want of memory
abbrev pub IsStopStatus : Result Metainfo MetaFault → Options → ℕ → Type 0
IsStopStatus read options status = (fault : Fault) × IsStartFault read options fault × (status ≡ status_of fault)

-- the status of a run that came to this desk: 0 where all wanted pieces are had, 1 where one isn't; 4 where the output failed, 5 for want of
-- memory
abbrev pub IsEndStatus : Result Metainfo MetaFault → ℕ → DeskState → Type 0
IsEndStatus (Ok t) status desk =
    ((status ≡ 0) × (has_wanted desk.setting desk.history ≡ true))
    ⊎ ((status ≡ 1) × (has_wanted desk.setting desk.history ≡ false))
    ⊎ (status ≡ 4) ⊎ (status ≡ 5)
IsEndStatus (Err fault) status desk = ⊥

-- with which status the command ends, and whether it gives the desk
abbrev pub IsSerialStatus : Result Metainfo MetaFault → Options → ℕ → Option DeskState → Type 0
IsSerialStatus read options status None = IsStopStatus read options status
IsSerialStatus read options status (Some desk) = IsEndStatus read status desk
