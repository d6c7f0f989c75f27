-- How the program ends a command that came to an end of its own.
use Rattle.std.specs.Prelude.{◌≡◌, ◌⊎◌, ℕ, Bool, true, false, List, Option, Result, Err, IfOk, IfErr, IsOk, OnOk}
use Rattle.std.specs.Io.KnownBytes.{Keeps}
use Rattle.bt_text.specs.declared.fault.Fault.{Fault}
use Rattle.bt_picker.specs.Positions.{DeskState}
use Rattle.bt_cli.specs.Runs.{run_status}
use Rattle.bt_cli.specs.declared.failure.Failure.{Failure}
use Rattle.bt_cli.specs.declared.target.Target.{Target}
use Rattle.bt_cli.specs.Failures.{fault_of}
use Rattle.bt_cli.specs.Targets.{HasFailed, HoldsAll, SavesTo}
use Rattle.bt_cli.specs.declared.road.Done.{Done}

-- what was written is this, and stayed when the output was flushed
abbrev pub Flushed : (Option (List ℕ) → Option (List ℕ) → Type 0) → Option (List ℕ) → Option (List ℕ) → Type 0
Flushed Writes old new = (middle : Option (List ℕ)) × Writes old middle × Keeps middle new

-- The end of a run that came to this desk. Its status is that of the run, and is answered only where the output was written; a failure is
-- the run's own, the output's, or that of the file of `--out`. The content went to that file exactly where all pieces are had.
pub record Closes {F : Type 0} (failed : F → Bool) (written : F → Option (List ℕ)) (blank : Option (List ℕ)) (desk : DeskState)
    (ended : Result Bool Fault) (done : Result Done Failure) (out_failed : Bool) (old new : Option (Target F)) : Type 0 where
  pub status : IfOk done (λ d. IsOk ended × (d.status ≡ run_status ended))
  pub printed : OnOk done (out_failed ≡ false)
  pub failure : IfErr done (λ failure. (ended ≡ Err (fault_of failure)) ⊎ (out_failed ≡ true) ⊎ HasFailed failed new)
  pub saved : SavesTo failed written blank desk old new
  pub whole : OnOk done (HoldsAll written blank desk new)
