-- A check of a piece that is away from its picker.
use Rattle.std.specs.Prelude.{◌≡◌, ◌≢◌, ℕ, List, Bool, true, false, Option, None, Some, ◌⊎◌, length}
use Rattle.std.specs.List.{concat}
use Rattle.std.specs.declared.result.Result.{Result}
use Rattle.std.specs.declared.result.Result.TheVariants.{Ok, Err}
use Rattle.bt_check.specs.Checked.{Checked, joined}
use Rattle.bt_check.specs.declared.job.Job.{Job}
use Rattle.std.specs.declared.alloc.AllocError.{AllocError}
use Rattle.bt_history.specs.declared.call.Reason.TheVariants.{Stale as StaleReason}
use Rattle.bt_history.specs.declared.call.Reply.{Reply}
use Rattle.bt_history.specs.declared.call.Reply.TheVariants.{Failed, Had, Refused}
use Rattle.bt_picker.specs.Kept.{IsStale}
use Rattle.bt_picker.specs.Checks.{blocks_of, unasked_check, waits}
use Rattle.bt_picker.specs.Positions.{DeskState, Gains}
use Rattle.bt_picker.specs.Told.{checking}
use Rattle.bt_c.specs.declared.check.Check.{Check}
use Rattle.bt_c.specs.declared.check.Check.TheVariants.{Due, Hashed, Ready}
use Rattle.bt_c.specs.declared.engine.Keeping.{Keeping}
use Rattle.bt_c.specs.declared.engine.Keeping.TheVariants.{Journal, Nothing}
use Rattle.bt_c.specs.declared.fault.Fault.{Fault}
use Rattle.bt_c.specs.declared.fault.Fault.TheVariants.{Closed, Open, Piece, NoMemory, NotWaiting, NoJob, NotHashed, Keeps, Stale, Room}
use Rattle.bt_c.specs.declared.held.Held.{Held}
use Rattle.bt_c.specs.Behind.{keeping, state}
use Rattle.bt_c.specs.Calling.{IsPiece}
use Rattle.bt_c.specs.Outcomes.{Done, Outcome, status_of}
use Rattle.bt_c.specs.contracts.job_handle.JobHandle as handle

-- the piece and the blocks that a check is of, before and after they are hashed
abbrev pub checked_of : Check → Checked
checked_of (Due job) = record { piece = job.piece; blocks = job.blocks.items }
checked_of (Hashed verdict) = verdict
checked_of (Ready verdict) = verdict.value

-- the verdict is there, and may be told
abbrev pub is_ready : Check → Bool
is_ready (Due job) = false
is_ready (Hashed verdict) = false
is_ready (Ready verdict) = true

-- the check of piece p with the blocks that are held of it, where the piece is full and isn't had
abbrev pub IsCheckOf : Held → ℕ → Result Check Fault → Type 0
IsCheckOf h p (Ok c) = (keeping h ≡ Nothing → ⊥) × (waits (state h).setting (state h).history p ≡ true)
    × (checked_of c ≡ record { piece = p; blocks = blocks_of (state h).setting (state h).history p })
IsCheckOf h p (Err Keeps) = keeping h ≡ Nothing
IsCheckOf h p (Err Piece) = (keeping h ≡ Nothing → ⊥) × (IsPiece (state h) p → ⊥)
IsCheckOf h p (Err NotWaiting) = (keeping h ≡ Nothing → ⊥) × IsPiece (state h) p × (waits (state h).setting (state h).history p ≡ false)
IsCheckOf h p (Err NoMemory) = (keeping h ≡ Nothing) → ⊥
IsCheckOf h p (Err f) = ⊥

-- a handle that holds the check, if there is one
abbrev pub IsHandleOf : Held → ℕ → Result handle.the_row.Denot Fault → Type 0
IsHandleOf h p (Ok d) = (c : Check) × (d.check ≡ Some c) × IsCheckOf h p (Ok c)
IsHandleOf h p (Err f) = IsCheckOf h p (Err f)

-- a pointer that isn't NULL stays, and another one gets the check of piece p, if there is one
abbrev pub TakesJob : Option handle.the_row.Denot → Option handle.the_row.Denot → Held → ℕ → Done → Type 0
TakesJob (Some d) new h p o = (new ≡ Some d) × (o ≡ Err Open)
TakesJob None (Some e) h p (Ok u) = IsHandleOf h p (Ok e)
TakesJob None None h p (Err f) = IsCheckOf h p (Err f)
TakesJob None new h p o = ⊥

-- the same at a handle of a picker: where there is none, the pointer of the job stays as it is
abbrev pub PutsJob : Option Held → Option handle.the_row.Denot → Option handle.the_row.Denot → ℕ → Done → Type 0
PutsJob None old new p o = (new ≡ old) × (o ≡ Err Closed)
PutsJob (Some h) old new p o = TakesJob old new h p o

-- the status tells it
abbrev pub TellsJob : Option Held → Option handle.the_row.Denot → Option handle.the_row.Denot → ℕ → ℕ → Type 0
TellsJob held old new p s = (o : Done) × PutsJob held old new p o × (s ≡ status_of o)

-- a check is hashed: it stays that of the same blocks, and but for want of memory its verdict is ready
abbrev pub Hashes : Option Check → Option Check → Done → Type 0
Hashes None new o = (new ≡ None) × (o ≡ Err NoJob)
Hashes (Some c) (Some e) (Ok u) = (checked_of e ≡ checked_of c) × (is_ready e ≡ true)
Hashes (Some c) (Some e) (Err NoMemory) = checked_of e ≡ checked_of c
Hashes (Some c) new o = ⊥

-- the status tells how the hashing ended
abbrev pub TellsHash : Option Check → Option Check → ℕ → Type 0
TellsHash old new s = (o : Done) × Hashes old new o × (s ≡ status_of o)

-- a check came to its end: the piece has its hash, or another
abbrev pub IsSettled : Reply → Type 0
IsSettled reply = (reply ≡ Had) ⊎ (reply ≡ Failed)

-- a verdict that is refused enters a journal, where there is one, and changes nothing else
abbrev pub RefusesVerdict : Keeping → DeskState → DeskState → Checked → Reply → Type 0
RefusesVerdict Journal d e v reply = Gains d e (checking 0 v.piece (joined v) reply)
RefusesVerdict kept d e v reply = e ≡ d

-- a verdict is told where this is kept: its piece is settled, which the rules allow; or the piece has other blocks now, or waits for none
abbrev pub SettlesVerdict : Keeping → DeskState → DeskState → Checked → Outcome → Type 0
SettlesVerdict Nothing d e v o = (o ≡ Err Keeps) × (e ≡ d)
SettlesVerdict kept d e v (Ok r) =
    (waits d.setting d.history v.piece ≡ true) × IsSettled r × Gains d e (checking 0 v.piece (joined v) r)
SettlesVerdict kept d e v (Err Stale) = IsStale d v × RefusesVerdict kept d e v (Refused StaleReason)
SettlesVerdict kept d e v (Err NotWaiting) =
    (waits d.setting d.history v.piece ≡ false) × RefusesVerdict kept d e v (unasked_check d.setting v.piece)
SettlesVerdict kept d e v (Err NoMemory) = (kept ≡ Journal) × (e ≡ d)
SettlesVerdict kept d e v (Err f) = ⊥

-- the verdict of a check that was hashed is told
abbrev pub TellsVerdict : Option Check → Held → DeskState → Outcome → Type 0
TellsVerdict None h e o = (e ≡ state h) × (o ≡ Err NoJob)
TellsVerdict (Some c) h e (Err NotHashed) = (is_ready c ≡ false) × (e ≡ state h)
TellsVerdict (Some c) h e o = (is_ready c ≡ true) × SettlesVerdict (keeping h) (state h) e (checked_of c) o

-- the bytes of the blocks go into a room of just their length; another one stays as it was
abbrev pub PutsBlocks : List (List ℕ) → List ℕ → List ℕ → Done → Type 0
PutsBlocks blocks old new (Ok u) = new ≡ concat blocks
PutsBlocks blocks old new (Err Room) = (length old ≢ length (concat blocks)) × (new ≡ old)
PutsBlocks blocks old new (Err f) = ⊥

-- the same of the check behind a handle
abbrev pub ReadsJob : Option Check → List ℕ → List ℕ → Done → Type 0
ReadsJob None old new o = (new ≡ old) × (o ≡ Err NoJob)
ReadsJob (Some c) old new o = PutsBlocks (checked_of c).blocks old new o

-- the status tells it
abbrev pub TellsRead : Option Check → List ℕ → List ℕ → ℕ → Type 0
TellsRead c old new s = (o : Done) × ReadsJob c old new o × (s ≡ status_of o)

-- a check of the job that a picker gave, or why there is none
abbrev pub check_given : Result (Option Job) AllocError → Result Check Fault
check_given (Ok (Some job)) = Ok (Due job)
check_given (Ok None) = Err NotWaiting
check_given (Err f) = Err NoMemory

-- a reply that settles is told, and one that refuses is a fault
abbrev pub settled_of : Reply → Outcome
settled_of (Refused StaleReason) = Err Stale
settled_of (Refused reason) = Err NotWaiting
settled_of reply = Ok reply
