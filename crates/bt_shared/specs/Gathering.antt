-- What the workers' logs and a bitfield say of a desk, and why a desk isn't gathered.
use Rattle.std.specs.Prelude.{◌≡◌, ◌≢◌, ◌==◌, ◌<◌, ◌+◌, ◌-◌, ◌%◌, ◌^◌, ◌⊎◌, ◌∷◌, [], ℕ, Bool, false, List, Option, Some, length, min, take, slice_get}
use Rattle.std.specs.Prelude.{slice_index_or, sum_by, IsSomeAnd, if◌then◌else◌}
use Rattle.std.specs.Global.{Vec}
use Rattle.bt_history.specs.declared.mark.Mark.{Mark}
use Rattle.bt_history.specs.History.{History}
use Rattle.bt_history.specs.Legal.{IsLegal}
use Rattle.bt_history.specs.Logs.{Agrees, marks_of}
use Rattle.bt_history.specs.Pieces.{had}
use Rattle.bt_history.specs.Setting.{Setting}
use Rattle.bt_shared.specs.Closing.{EachKnows}
use Rattle.bt_shared.specs.Passes.{PassState}
use Rattle.bt_shared.specs.declared.gather.GatherFault.{GatherFault}
use Rattle.bt_shared.specs.declared.gather.GatherFault.TheVariants.{PassMissing, LogsDiffer, BoardDiffers, NoMemory}

-- ---- logs

-- worker w's log among the passes, empty where its pass isn't there
abbrev pub log_of : ℕ → List PassState → List Mark
log_of w [] = []
log_of w (p ∷ ps) = if p.worker == w then p.log else log_of w ps

-- how many marks the passes have together, as far as it can be counted
abbrev pub held_by : List PassState → ℕ
held_by passes = min (sum_by (λ (p : PassState). length p.log) passes) (2 ^ 64 - 1)

-- each log is empty
abbrev pub EachEmpty : List (Vec Mark) → Type 0
EachEmpty logs = (w : ℕ) (log : Vec Mark) → slice_get logs w ≡ Some log → log.items ≡ []

-- each log is that of its worker's pass
abbrev pub EachFrom : List PassState → List (Vec Mark) → Type 0
EachFrom passes logs = (w : ℕ) (log : Vec Mark) → slice_get logs w ≡ Some log → log.items ≡ log_of w passes

-- each log has exactly its worker's entries of the history
abbrev pub EachAgrees : History → List (Vec Mark) → Type 0
EachAgrees h logs = (w : ℕ) (log : Vec Mark) → slice_get logs w ≡ Some log → Agrees h w log.items

-- the lists are the same up to this index, and not there
pub record IsFirstDifference (log marks : List Mark) (index : ℕ) : Type 0 where
  pub same : take index log ≡ take index marks
  pub differ : slice_get log index ≢ slice_get marks index

-- the logs of the workers below w are what the history has of them, and that of w differs from it, first at this index
pub record IsFirstDiffering (h : History) (logs : List (Vec Mark)) (w index : ℕ) : Type 0 where
  pub within : w < length logs
  pub below : (v : ℕ) (log : Vec Mark) → v < w → slice_get logs v ≡ Some log → Agrees h v log.items
  pub here : (log : Vec Mark) → slice_get logs w ≡ Some log → IsFirstDifference log.items (marks_of h w) index

-- ---- bitfields

-- the bits are exactly the pieces that are had
abbrev pub AreHad : List Bool → History → Type 0
AreHad bits h = (p : ℕ) → p < length bits → slice_index_or bits p false ≡ had h p

-- bitfield and history tell the same of the pieces below p, and not of p
pub record IsFirstOther (bits : List Bool) (h : History) (p : ℕ) : Type 0 where
  pub within : p < length bits
  pub below : (q : ℕ) → q < p → slice_index_or bits q false ≡ had h q
  pub here : slice_index_or bits p false ≢ had h p

-- ---- refusals

-- the log of worker w among the passes is the first that differs from the history, and differs first at this index
pub record IsFirstUnlike (s : Setting) (h : History) (passes : List PassState) (w index : ℕ) : Type 0 where
  pub within : w < s.workers
  pub below : (v : ℕ) → v < w → Agrees h v (log_of v passes)
  pub here : IsFirstDifference (log_of w passes) (marks_of h w) index

-- each worker's log among the passes is what the history has of it
abbrev pub AreAlike : Setting → History → List PassState → Type 0
AreAlike s h passes = (w : ℕ) → w < s.workers → Agrees h w (log_of w passes)

-- a journal of so many entries is a legal one that begins with what each pass has seen, and has no entry of its worker but those there
abbrev pub IsKnown : Setting → List PassState → ℕ → Type 0
IsKnown s passes journal = (h : History) × IsLegal s h × EachKnows h passes × (journal ≡ length h)

-- a pass that isn't there took the desk with it, in the middle of its call
abbrev pub IsLost : ℕ → ℕ → Type 0
IsLost held journal = journal ≡ (held + 1) % 2 ^ 64

-- why a desk isn't gathered with these passes and this bitfield: the first cause that holds. The passes lack calls; then, their number
-- being that of a legal history, a log differs from it; then, each log being right, the bitfield does
abbrev pub IsCause : Setting → List PassState → Option (List Bool) → GatherFault → Type 0
IsCause s passes bits (PassMissing held journal) =
    (held ≡ held_by passes) × (held ≢ journal) × (IsKnown s passes journal ⊎ IsLost held journal)
IsCause s passes bits (LogsDiffer w index) =
    (h : History) × IsLegal s h × (held_by passes ≡ length h) × IsFirstUnlike s h passes w index
IsCause s passes bits (BoardDiffers p) =
    (h : History) × IsLegal s h × (held_by passes ≡ length h) × AreAlike s h passes × IsSomeAnd bits (λ b. IsFirstOther b h p)
IsCause s passes bits NoMemory = Unit {0}

-- why a history isn't what logs with so many marks and a bitfield tell: the first cause that holds
abbrev pub IsDifference : History → ℕ → List (Vec Mark) → Option (List Bool) → GatherFault → Type 0
IsDifference h held logs bits (PassMissing found journal) = (found ≡ held) × (journal ≡ length h) × (held ≢ journal)
IsDifference h held logs bits (LogsDiffer w index) = (held ≡ length h) × IsFirstDiffering h logs w index
IsDifference h held logs bits (BoardDiffers p) = (held ≡ length h) × EachAgrees h logs × IsSomeAnd bits (λ b. IsFirstOther b h p)
IsDifference h held logs bits NoMemory = ⊥

-- no pass is missing
abbrev pub IsNotMissing : GatherFault → Type 0
IsNotMissing (PassMissing held journal) = ⊥
IsNotMissing fault = Unit {0}
