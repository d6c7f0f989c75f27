-- A pass and a shared desk as contracts see them.
use Rattle.std.specs.Prelude.{◌≡◌, ◌⊎◌, ◌<◌, ℕ, Bool, true, false, List, [], ◌∷◌, ◌++◌, length, None, Some, slice_get, slice_index_or}
use Rattle.atomic_table.specs.Seated.{TableId}
use Rattle.bt_meta.specs.Layout.{Layout, block, block_count}
use Rattle.bt_history.specs.declared.call.Reply.{Reply}
use Rattle.bt_history.specs.declared.event.Event.{Event}
use Rattle.bt_history.specs.declared.mark.CallMark.{CallMark}
use Rattle.bt_history.specs.declared.mark.CallMark.TheVariants.{Settle}
use Rattle.bt_history.specs.declared.mark.Mark.{Mark}
use Rattle.bt_history.specs.History.{History}
use Rattle.bt_history.specs.Logs.{mark_of}
use Rattle.bt_history.specs.Setting.{Setting}
use Rattle.bt_picker.specs.Checks.{SettlesNow, is_right, settling, unasked_check, waits}
use Rattle.bt_picker.specs.Positions.{DeskState, Gains}
use Rattle.bt_shared.specs.Guard.{Sat, IsIdle, desk, part, seeing}
use Rattle.bt_shared.specs.Seen.{Continues, GoesOn}

-- a worker's number at a desk, what it has seen, and the marks of its calls, the oldest first
pub record PassState : Type 0 where
  pub table : TableId
  pub setting : Setting
  pub worker : ℕ
  pub seen : History
  pub log : List Mark

-- which desk it is, and by what its history is judged
pub record SharedState : Type 0 where
  pub table : TableId
  pub setting : Setting

-- the pass of a worker that has made no call
abbrev pub newcomer : SharedState → ℕ → PassState
newcomer desk worker = record { table = desk.table; setting = desk.setting; worker = worker; seen = []; log = [] }

-- an idle seat that speaks for this worker alone, and was joined with no other since it last had the word
pub record IsSeatOf (worker : ℕ) (m : Sat) : Type 0 where
  pub idle : IsIdle m
  pub alone : m.0.part.workers ≡ worker ∷ []
  pub whole : m.0.parts ≡ part (worker ∷ []) m.0.part.seen ∷ []

-- a seat that speaks for this worker alone has the lock, and what is shared is this, to which the worker alone has added entries
pub record IsTurnOf (worker : ℕ) (m : Sat) (d : DeskState) : Type 0 where
  pub taken : m.0.taken ≡ true
  pub live : m.0.spent ≡ false
  pub away : m.1 ≡ (0, None) ∷ []
  pub alone : m.0.part.workers ≡ worker ∷ []
  pub setting : d.setting ≡ m.0.setting
  pub goes : GoesOn (worker ∷ []) m.0.part.seen d.history

-- a pass of the desk
pub record IsOf (desk : SharedState) (p : PassState) : Type 0 where
  pub table : p.table ≡ desk.table
  pub setting : p.setting ≡ desk.setting

-- each of the passes is
abbrev pub AreOf : SharedState → List PassState → Type 0
AreOf desk passes = (k : ℕ) (p : PassState) → slice_get passes k ≡ Some p → IsOf desk p

-- the same worker's pass at the same desk
pub record IsSame (old new : PassState) : Type 0 where
  pub table : new.table ≡ old.table
  pub setting : new.setting ≡ old.setting
  pub worker : new.worker ≡ old.worker

-- the pass made no entry: it has seen what it had seen, or more of others
pub record Rests (old new : PassState) : Type 0 where
  pub same : IsSame old new
  pub seen : Continues old.worker old.seen new.seen
  pub log : new.log ≡ old.log

-- the pass entered e after the history found, which goes on from what it had seen
pub record EntersAt (found : History) (e : Event) (old new : PassState) : Type 0 where
  pub same : IsSame old new
  pub seen : Continues old.worker old.seen found
  pub entered : new.seen ≡ e ∷ found
  pub log : new.log ≡ old.log ++ mark_of (length found) e ∷ []

-- what the pass has seen ends with e, the only new entry of its worker
abbrev pub Enters : Event → PassState → PassState → Type 0
Enters e old new = (found : History) × EntersAt found e old new

-- piece p waited for a check in the history found, and the pass entered what came of it
pub record SeesChecked (p : ℕ) (reply : Reply) (old new : PassState) : Type 0 where
  pub found : History
  pub waiting : waits new.setting found p ≡ true
  pub enters : EntersAt found (settling new.setting found old.worker p reply) old new

-- piece p doesn't wait for a check in the history then seen, the reply says why, and no entry was made
pub record SeesUnasked (p : ℕ) (answer : Reply) (old new : PassState) : Type 0 where
  pub unasked : waits new.setting new.seen p ≡ false
  pub told : answer ≡ unasked_check new.setting p
  pub rests : Rests old new

-- a check was made, or none was due
abbrev pub Settles : ℕ → Reply → PassState → PassState → Type 0
Settles p reply old new = SeesChecked p reply old new ⊎ SeesUnasked p reply old new

-- ---- passes of a picker, whose logs are empty

-- the history was found with the lock: it goes on from what the pass had seen, with no entry of its worker between
pub record Finds (found : History) (old new : PassState) : Type 0 where
  pub same : IsSame old new
  pub seen : Continues old.worker old.seen found

-- the picker as it is seen by a pass or by a turn
abbrev pub picker_of : PassState → DeskState
picker_of p = desk p.setting p.seen

-- what the pass has seen ends with e, which is allowed after the history found, and is the pick
abbrev pub Adds : Event → PassState → PassState → Type 0
Adds e old new = (found : History) × Finds found old new × Gains (desk old.setting found) (picker_of new) e

-- a verdict on piece p was told after the history found
abbrev pub Judges : ℕ → Reply → PassState → PassState → Type 0
Judges p reply old new = (found : History) × Finds found old new × SettlesNow (desk old.setting found) (picker_of new) old.worker p reply

-- the seat has freed the word, with this in the slot
abbrev pub IsFreed : DeskState → Sat → Sat → Type 0
IsFreed d old new = new ≡ (seeing false old.0 d.history, [])

-- it did so after it had told e
abbrev pub FreesAfter : Event → DeskState → Sat → Sat → Type 0
FreesAfter e d old new = (after : DeskState) × Gains d after e × IsFreed after old new

-- it did so after it had told a verdict on piece p
abbrev pub FreesJudged : ℕ → ℕ → Reply → DeskState → Sat → Sat → Type 0
FreesJudged w p reply d old new = (after : DeskState) × SettlesNow d after w p reply × IsFreed after old new

-- whatever history is found, a verdict that is due there is right
abbrev pub IsRightWhenDue : PassState → ℕ → Bool → Type 0
IsRightWhenDue pass p passed =
    (found : History) → Continues pass.worker pass.seen found → waits pass.setting found p ≡ true → passed ≡ is_right pass.setting found p

-- ---- marks

-- the mark of an entry
abbrev pub mark : ℕ → CallMark → Reply → Mark
mark place call reply = record { place = place; call = call; reply = reply }

-- the pass gained one mark: of this call with this reply, at some place of the journal
pub record Notes (old : PassState) (call : CallMark) (reply : Reply) (new : PassState) : Type 0 where
  pub place : ℕ
  pub worker : new.worker ≡ old.worker
  pub log : new.log ≡ old.log ++ mark place call reply ∷ []

-- where a piece waited for a check, the log gained its mark, and else it is as it was
abbrev pub LogsIf : Bool → ℕ → List Mark → ℕ → Reply → List Mark → Type 0
LogsIf true place old piece reply new = new ≡ old ++ mark place (Settle piece) reply ∷ []
LogsIf false place old piece reply new = new ≡ old

-- the blocks are as many and as long as those of piece p
abbrev pub HasLengths : Layout → ℕ → List (List ℕ) → Type 0
HasLengths t p blocks =
    (length blocks ≡ block_count t p)
    × ((k : ℕ) → k < block_count t p → length (slice_index_or blocks k []) ≡ (block t p k).len)
