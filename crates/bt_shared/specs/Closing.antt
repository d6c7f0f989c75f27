-- What is known of a desk whose passes' seats were joined into one.
use Rattle.std.specs.Prelude.{◌≡◌, ◌<◌, ◌==◌, ℕ, List, [], ◌∷◌, None, length, map, sum_by, if◌then◌else◌}
use Rattle.bt_history.specs.History.{History}
use Rattle.bt_history.specs.Logs.{Agrees}
use Rattle.bt_history.specs.Setting.{Setting}
use Rattle.bt_picker.specs.Positions.{DeskState}
use Rattle.bt_shared.specs.declared.view.Part.{Part}
use Rattle.bt_shared.specs.Guard.{IsIdle, Sat, Slot, part}
use Rattle.bt_shared.specs.Passes.{PassState}
use Rattle.bt_shared.specs.Seen.{AreApart, Each, IsAmong, Knows}

-- the workers that the passes speak for
abbrev pub workers_of : List PassState → List ℕ
workers_of passes = map (λ (p : PassState). p.worker) passes

-- what a pass's seat knows
abbrev pub part_of : PassState → Part
part_of p = part (p.worker ∷ []) p.seen

-- what each pass's seat knows
abbrev pub parts_of : List PassState → List Part
parts_of passes = map part_of passes

-- an idle seat into which those of these passes were joined
pub record IsJoined (passes : List PassState) (m : Sat) : Type 0 where
  pub idle : IsIdle m
  pub workers : m.0.part.workers ≡ workers_of passes
  pub parts : m.0.parts ≡ parts_of passes

-- the numbers are of the desk's workers, none twice
pub record AreCounted (s : Setting) (workers : List ℕ) : Type 0 where
  pub below : (w : ℕ) → IsAmong w workers → w < s.workers
  pub once : AreApart workers

-- each of the desk's workers is among these
abbrev pub IsEveryone : Setting → List ℕ → Type 0
IsEveryone s workers = (w : ℕ) → w < s.workers → IsAmong w workers

-- the slot's value, if the word is free
abbrev pub slot_if_free : ℕ → Slot → Slot
slot_if_free word slot = if word == 0 then slot else None

-- each pass's log has the marks of its worker's entries in what the pass has seen
abbrev pub EachOwn : List PassState → Type 0
EachOwn passes = Each (λ (p : PassState). Agrees p.seen p.worker p.log) passes

-- the passes have as many marks together as the journal has entries
abbrev pub IsEntered : DeskState → List PassState → Type 0
IsEntered d passes = sum_by (λ (p : PassState). length p.log) passes ≡ length d.history

-- each pass's worker has no entries in the history but those that the pass has seen, in its beginning: what is said of the passes to whom
-- gathers them
abbrev pub EachKnows : History → List PassState → Type 0
EachKnows h passes = Each (λ (p : PassState). Knows h (p.worker ∷ []) p.seen) passes
