-- One session of a run in threads, by its worker's place; the last checks, by their worker's pass; and why a run comes to nothing.
use Rattle.std.specs.Prelude.{◌≡◌, ◌⊎◌, ◌≤◌, ◌+◌, ℕ, Bool, true, false, List, [], ◌∷◌, Result}
use Rattle.bt_history.specs.declared.mark.CallMark.TheVariants as marks
use Rattle.bt_history.specs.declared.mark.Mark.{Mark}
use Rattle.bt_history.specs.Setting.{Setting}
use Rattle.bt_picker.specs.Checks.{waits}
use Rattle.bt_picker.specs.Positions.{DeskState}
use Rattle.bt_shared.specs.Passes.{PassState}
use Rattle.bt_shared.specs.Gathering.{IsNotMissing}
use Rattle.bt_shared.specs.declared.gather.GatherFault.{GatherFault}
use Rattle.bt_shared.specs.declared.gather.GatherFault.TheVariants as gathers
use Rattle.bt_peer.specs.declared.fault.End.{End}
use Rattle.bt_peer.specs.declared.fault.SessionFault.{SessionFault}
use Rattle.bt_session.specs.declared.fault.SwarmFault.{SwarmFault}
use Rattle.bt_session.specs.declared.fault.SwarmFault.TheVariants.{NoMemory, Gather}
use Rattle.bt_peer.specs.Conduct.{generator_of}
use Rattle.bt_peer.specs.Outcomes.{RunsTo}
use Rattle.bt_session.specs.Passes.{worker_record}
use Rattle.bt_session.specs.Workers.{WorkerState}
use Rattle.bt_peer.specs.Serial.{StreamRecord}
use Rattle.bt_peer.specs.SessionTerms.{TermsState}

-- why a run comes to nothing whose desk isn't gathered
abbrev pub swarm_fault : GatherFault → SwarmFault
swarm_fault gathers.NoMemory = NoMemory
swarm_fault fault = Gather fault

-- why a run may come to nothing: there was no memory, a thread couldn't be started, or its logs or its board aren't the journal's. No call is
-- missing
abbrev pub IsRunFault : SwarmFault → Type 0
IsRunFault (Gather fault) = IsNotMissing fault
IsRunFault _ = Unit {0}

-- ---- sessions

-- A session ran at a worker's place, with the numbers of the generator of its number, made of the seed. Something was given up if a
-- call found no memory.
pub record RunsSession (outcome : Result End SessionFault) (terms : TermsState) (setting : Setting) (seed : ℕ)
    (worker : WorkerState) (old : StreamRecord) (worker' : WorkerState) (new : StreamRecord) (given_up : Bool) : Type 0 where
  -- a call found no memory
  pub lacked : Bool
  pub noted : lacked ≡ true → given_up ≡ true
  pub number : worker'.pass.worker ≡ worker.pass.worker
  pub runs : RunsTo outcome terms worker.pass.worker (generator_of seed worker.pass.worker)
      (worker_record setting worker false) old (worker_record setting worker' lacked) new

-- ---- the last checks

-- the marks are checks alone: of pieces from low on, each above those before it, and all below high
abbrev pub ChecksRise : ℕ → List Mark → ℕ → Type 0
ChecksRise low [] high = low ≤ high
ChecksRise low (mark ∷ log) high = (piece : ℕ) × ((mark.call ≡ marks.Settle piece) × (low ≤ piece) × ChecksRise (piece + 1) log high)

-- the worker saw to the last checks: it is the same, and where it had made no call its marks are checks of rising pieces
pub record ChecksLast (old new : PassState) (pieces : ℕ) : Type 0 where
  pub worker : new.worker ≡ old.worker
  pub rise : old.log ≡ [] → ChecksRise 0 new.log pieces

-- it is told whether a piece still waits for a check
pub record TellsWaiting (short : Bool) (desk : DeskState) : Type 0 where
  pub none : short ≡ false → (piece : ℕ) → waits desk.setting desk.history piece ≡ false
  pub still : short ≡ true → (piece : ℕ) × (waits desk.setting desk.history piece ≡ true)

-- a run is short only where something was given up, or a piece still waits for a check
abbrev pub IsShortFor : Bool → Bool → DeskState → Type 0
IsShortFor short given_up desk =
    short ≡ true → (given_up ≡ true) ⊎ ((piece : ℕ) × (waits desk.setting desk.history piece ≡ true))

-- a run that isn't short leaves no piece that waits for a check
abbrev pub LeavesNone : Bool → DeskState → Type 0
LeavesNone short desk = short ≡ false → (piece : ℕ) → waits desk.setting desk.history piece ≡ false
