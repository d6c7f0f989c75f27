-- Each session of a run in threads, and its last checks, by the journal and the logs that were gathered.
use Rattle.std.specs.Prelude.{◌≡◌, ◌<◌, ℕ, Bool, true, false, List, [], length, map, slice_get, slice_index_or, Some, Result}
use Rattle.std.specs.Global.{Vec}
use Rattle.bt_history.specs.declared.call.Reply.{Reply}
use Rattle.bt_history.specs.declared.mark.CallMark.{CallMark}
use Rattle.bt_history.specs.declared.mark.Mark.{Mark}
use Rattle.bt_history.specs.History.{History}
use Rattle.bt_history.specs.Logs.{call_mark}
use Rattle.bt_history.specs.Pieces.{had}
use Rattle.bt_history.specs.Setting.{Setting}
use Rattle.bt_peer.specs.Conduct.{Calls, generator_of}
use Rattle.bt_peer.specs.Desks.{calls_in}
use Rattle.bt_peer.specs.Outcomes.{RunsTo}
use Rattle.bt_peer.specs.Serial.{StreamRecord}
use Rattle.bt_peer.specs.SessionTerms.{TermsState}
use Rattle.bt_peer.specs.declared.fault.End.{End}
use Rattle.bt_peer.specs.declared.fault.SessionFault.{SessionFault}
use Rattle.bt_session.specs.Passes.{no_piece, pass_record}
use Rattle.bt_session.specs.Runs.{ChecksRise, RunsSession}
use Rattle.bt_session.specs.Workers.{WorkerState}

-- that of each stream, in order; all together gave something up if one did
abbrev pub EachRunsSession : {X : Type 0} → (X → StreamRecord) → TermsState → Setting → ℕ →
    List WorkerState → List X → List (Result End SessionFault) → List WorkerState → List X → Bool → Type 0
EachRunsSession {X} record_of terms setting seed workers streams ends workers' streams' given_up =
    (i : ℕ) (worker : WorkerState) (stream : X) (end : Result End SessionFault) → i < length streams →
    RunsSession (slice_index_or ends i end) terms setting seed (slice_index_or workers i worker) (record_of (slice_index_or streams i stream))
    (slice_index_or workers' i worker) (record_of (slice_index_or streams' i stream)) given_up

-- the marks of calls, with their replies
abbrev pub marked : Calls → List (CallMark × Reply)
marked calls = map (λ made. (call_mark made.0, made.1)) calls

-- what the marks of a log say of each call, and of its reply
abbrev pub calls_of_marks : List Mark → List (CallMark × Reply)
calls_of_marks log = map (λ mark. (mark.call, mark.reply)) log

-- A session ran with the numbers of the generator of its number, made of the seed: from no call and nothing told to the calls that the journal
-- has of its worker, with all that they told. The log has their marks. Each piece that the session knew at its end to be finished, those that
-- it told among them, is had in the journal. Where a call of it found no memory the run is short.
pub record Swarmed (journal : History) (outcome : Result End SessionFault) (terms : TermsState) (setting : Setting) (seed number : ℕ)
    (old : StreamRecord) (log : List Mark) (new : StreamRecord) (short : Bool) : Type 0 where
  pub known : ℕ → Bool
  pub told : ℕ → Bool
  -- a call found no memory
  pub lacked : Bool
  pub noted : lacked ≡ true → short ≡ true
  pub finished : (piece : ℕ) → known piece ≡ true → had journal piece ≡ true
  pub logged : calls_of_marks log ≡ marked (calls_in journal number)
  pub runs : RunsTo outcome terms number (generator_of seed number)
      (pass_record setting number [] no_piece no_piece false) old
      (pass_record setting number (calls_in journal number) known told lacked) new

-- Each stream's session ran so: from the stream as it was handed in, to its worker's log and the stream as it was given back, in order.
abbrev pub EachSwarmed : {X : Type 0} → (X → StreamRecord) → TermsState → Setting → ℕ → List X →
    History → List (Vec Mark) → List X → List (Result End SessionFault) → Bool → Type 0
EachSwarmed {X} record_of terms setting seed streams journal logs streams' ends short =
    (i : ℕ) (stream : X) (log : Vec Mark) (end : Result End SessionFault) → i < length streams →
    Swarmed journal (slice_index_or ends i end) terms setting seed i (record_of (slice_index_or streams i stream))
    (slice_index_or logs i log).items (record_of (slice_index_or streams' i stream)) short

-- ---- the last checks

-- the log of this worker has checks alone, the least piece first, each piece once
abbrev pub MakesLastChecks : ℕ → List (Vec Mark) → ℕ → Type 0
MakesLastChecks worker logs pieces = (log : Vec Mark) → slice_get logs worker ≡ Some log → ChecksRise 0 log.items pieces
