-- Jobs and verdicts of a shared desk, which know what was seen of it.
use Rattle.std.specs.Prelude.{◌≡◌, ℕ, true, false, [], ◌∷◌, Option, None, Some}
use Rattle.atomic_table.specs.Seated.{TableId}
use Rattle.bt_check.specs.Checked.{Checked, joined}
use Rattle.bt_check.specs.declared.job.Job.{Job}
use Rattle.bt_history.specs.declared.call.Reply.{Reply}
use Rattle.bt_history.specs.declared.event.Action.TheVariants.{Settle}
use Rattle.bt_history.specs.declared.event.Event.{Event}
use Rattle.bt_history.specs.Setting.{Setting}
use Rattle.bt_picker.specs.Checks.{blocks_of, waits}
use Rattle.bt_picker.specs.Lasting.{failure_count}
use Rattle.bt_shared.specs.Guard.{Sat, part}
use Rattle.bt_shared.specs.Passes.{PassState, SharedState}

-- of which desk it is, by what its history is judged, and the piece with its blocks
pub record JobState : Type 0 where
  pub table : TableId
  pub setting : Setting
  pub checked : Checked

-- what a job is to look at
abbrev pub checked_of : Job → Checked
checked_of job = record { piece = job.piece; blocks = job.blocks.items }

-- a job of this desk, where there is one
abbrev pub shared_of : TableId → Setting → Option Job → Option JobState
shared_of table setting None = None
shared_of table setting (Some job) = Some (record { table = table; setting = setting; checked = checked_of job })

-- the seat, which speaks for no worker, has seen a history in which the piece waited with these blocks, and so many checks had failed
pub record Witnesses (m : Sat) (failures : ℕ) (v : Checked) : Type 0 where
  pub idle : m.0.taken ≡ false
  pub empty : m.1 ≡ []
  pub for_none : m.0.part.workers ≡ []
  pub whole : m.0.parts ≡ part [] m.0.part.seen ∷ []
  pub waited : waits m.0.setting m.0.part.seen v.piece ≡ true
  pub blocks : v.blocks ≡ blocks_of m.0.setting m.0.part.seen v.piece
  pub counted : failures ≡ failure_count m.0.part.seen

-- it is of the desk of this pass
pub record IsFor (p : PassState) (job : JobState) : Type 0 where
  pub table : job.table ≡ p.table
  pub setting : job.setting ≡ p.setting

-- it is of this desk
pub record IsForDesk (desk : SharedState) (job : JobState) : Type 0 where
  pub table : job.table ≡ desk.table
  pub setting : job.setting ≡ desk.setting

-- the job of piece p, where a check of it is waited for in what the pass has seen
abbrev pub IsSharedJobOf : PassState → ℕ → Option JobState → Type 0
IsSharedJobOf pass p None = waits pass.setting pass.seen p ≡ false
IsSharedJobOf pass p (Some job) =
    (waits pass.setting pass.seen p ≡ true) × IsFor pass job × (job.checked.piece ≡ p)
    × (job.checked.blocks ≡ blocks_of pass.setting pass.seen p)

-- worker w tells this check
abbrev pub checking : ℕ → Checked → Reply → Event
checking w v reply = record { worker = w; action = Settle v.piece (joined v); reply = reply }
