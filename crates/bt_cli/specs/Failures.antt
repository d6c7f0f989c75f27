-- How the program ends.
use Rattle.std.specs.Prelude.{◌≡◌, ◌⊎◌, ℕ, Bool, true, List, ◌++◌, codes, Option, Result, Err, nat_lt, if◌then◌else◌}
use Rattle.std.specs.Io.KnownBytes.{Appends}
use Rattle.bt_text.specs.declared.fault.Fault.{Fault}
use Rattle.bt_text.specs.declared.fault.Fault.TheVariants as faults
use Rattle.bt_text.specs.Statuses.{fault_text, status_of}
use Rattle.bt_cli.specs.declared.failure.Failure.{Failure}
use Rattle.bt_cli.specs.declared.failure.Failure.TheVariants.{Command, Of, File, Closed}

-- the fault whose status a failure has, and whose line tells it
abbrev pub fault_of : Failure → Fault
fault_of (Command fault) = fault
fault_of (Of name fault) = fault
fault_of (File name error) = faults.File
fault_of Closed = faults.File

-- the exit status
abbrev pub status_of_failure : Failure → ℕ
status_of_failure failure = status_of (fault_of failure)

-- a failure of greater rank is told before others
abbrev pub rank : Failure → ℕ
rank Closed = 1
rank (File name error) = 2
rank (Of name fault) = 3
rank (Command fault) = 3

-- the one of two failures that is told
abbrev pub graver : Failure → Failure → Failure
graver first second = if nat_lt (rank first) (rank second) then second else first

-- the failure's line was written, and then perhaps more about it; of an output that nobody reads nothing is told
abbrev pub Tells : Failure → Option (List ℕ) → Option (List ℕ) → Type 0
Tells Closed old new = new ≡ old
Tells (Command fault) old new = (more : List ℕ) × Appends old new ((fault_text fault ++ codes "\n") ++ more)
Tells (Of name fault) old new = (more : List ℕ) × Appends old new ((fault_text fault ++ codes "\n") ++ more)
Tells (File name error) old new = (more : List ℕ) × Appends old new ((fault_text faults.File ++ codes "\n") ++ more)

-- a failure is the command's own, or its output has failed
abbrev pub IsEndOf : Result ℕ Fault → Bool → Failure → Type 0
IsEndOf done failed failure = (done ≡ Err (fault_of failure)) ⊎ (failed ≡ true)
