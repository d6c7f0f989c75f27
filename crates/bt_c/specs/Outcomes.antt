-- What came of a call, as its status and its results tell it.
use Rattle.std.specs.Prelude.{◌≡◌, ℕ, Option, None, Some, Bool, true, false}
use Rattle.std.specs.declared.result.Result.{Result}
use Rattle.std.specs.declared.result.Result.TheVariants.{Ok, Err}
use Rattle.bt_meta.specs.declared.block.Block.{Block}
use Rattle.bt_history.specs.declared.call.Reply.{Reply}
use Rattle.bt_history.specs.declared.call.Reply.TheVariants.{Request}
use Rattle.bt_picker.specs.Positions.{DeskState}
use Rattle.bt_c.specs.declared.answer.Answer.{Answer}
use Rattle.bt_c.specs.declared.fault.Fault.{Fault}
use Rattle.bt_c.specs.declared.fault.Fault.TheVariants.{Closed}
use Rattle.bt_c.specs.declared.held.Held.{Held}
use Rattle.bt_c.specs.Answers.{answer_of, nothing}
use Rattle.bt_c.specs.Behind.{keeping, state}
use Rattle.bt_c.specs.Statuses.{fault_number}

-- a reply, or why there is none
abbrev pub Outcome : Type 0
Outcome = Result Reply Fault

-- a thing was done, or why it wasn't
abbrev pub Done : Type 0
Done = Result (Unit {0}) Fault

-- the status: 0, or the fault's number
abbrev pub status_of : {X : Type 0} → Result X Fault → ℕ
status_of (Ok x) = 0
status_of (Err f) = fault_number f

-- the answer: the reply's, or none
abbrev pub told : Outcome → Answer
told (Ok r) = answer_of r
told (Err f) = nothing

-- the number: what was asked for, or 0
abbrev pub number_told : Result ℕ Fault → ℕ
number_told (Ok x) = x
number_told (Err f) = 0

-- a flag as a number
abbrev pub flag : Bool → ℕ
flag true = 1
flag false = 0

-- what stays of a picker, whatever it is told: its torrent with its files, and what it keeps
pub record StaysItself (h k : Held) : Type 0 where
  pub torrent : k.torrent ≡ h.torrent
  pub files : k.files.items ≡ h.files.items
  pub keeping : keeping k ≡ keeping h

-- a handle lends its picker to a call: a null one stays null and says so, and an open one stays open, its picker changed as P says
abbrev pub Lends : {X : Type 0} → (Held → Result X Fault → Held → Type 0) → Option Held → Option Held → Result X Fault → Type 0
Lends P None new o = (new ≡ None) × (o ≡ Err Closed)
Lends P (Some h) None o = ⊥
Lends P (Some h) (Some k) o = P h o k

-- a call at a handle: a null one stays null and says so, and an open one stays open, its picker changed as P says
abbrev pub AtHandle : {X : Type 0} → (Held → DeskState → Result X Fault → Type 0)
    → Option Held → Option Held → Result X Fault → Type 0
AtHandle P = Lends (λ h o k. StaysItself h k × P h (state k) o)

-- a question to a handle, which changes nothing: a null one has no answer
abbrev pub AtOpen : {X : Type 0} → (Held → Result X Fault → Type 0) → Option Held → Result X Fault → Type 0
AtOpen P None o = o ≡ Err Closed
AtOpen P (Some h) o = P h o

-- the status and the answer tell what came of a call at a handle
abbrev pub Tells : (Held → DeskState → Outcome → Type 0) → Option Held → Option Held → ℕ → Answer → Type 0
Tells P old new s a = (o : Outcome) × AtHandle P old new o × (s ≡ status_of o) × (a ≡ told o)

-- the status and the number tell what came of a question to a handle
abbrev pub TellsNumber : (Held → Result ℕ Fault → Type 0) → Option Held → ℕ → ℕ → Type 0
TellsNumber P h s x = (o : Result ℕ Fault) × AtOpen P h o × (s ≡ status_of o) × (x ≡ number_told o)

-- the status tells what came of a question to a handle
abbrev pub TellsDone : (Held → Done → Type 0) → Option Held → ℕ → Type 0
TellsDone P h s = (o : Done) × AtOpen P h o × (s ≡ status_of o)

-- a block that was found, told as if it were to be requested
abbrev pub block_told : Result Block Fault → Answer
block_told (Ok b) = answer_of (Request b)
block_told (Err f) = nothing

-- the status and the answer tell a block of an open handle
abbrev pub TellsBlock : (Held → Result Block Fault → Type 0) → Option Held → ℕ → Answer → Type 0
TellsBlock P h s a = (o : Result Block Fault) × AtOpen P h o × (s ≡ status_of o) × (a ≡ block_told o)
