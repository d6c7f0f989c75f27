-- The rule of the word lock. Word 0 is 0 while it is free and another number while it is taken, and slot 0 is the desk's.
use Rattle.std.specs.Prelude.{◌≡◌, ◌≢◌, ℕ, ◌+◌, ◌<◌, ◌≤◌, Bool, true, false, Option as StdOption, Some, List, [], ◌∷◌, ◌++◌, length, slice_index}
use Rattle.std.specs.Prelude.{nat_lt, if◌then◌else◌}
use mathlib.Core.Option.{none, some}
use lib.ListN.{get_elem?}
use Rattle.atomic_table.specs.Table.{State, Me, Step}
use Rattle.bt_history.specs.Setting.{Setting}
use Rattle.bt_history.specs.declared.event.Event.{Event}
use Rattle.bt_picker.specs.Positions.{DeskState}
use Rattle.bt_shared.specs.declared.view.Part.{Part}
use Rattle.bt_shared.specs.declared.view.DeskView.{DeskView}
use Rattle.bt_shared.specs.Seen.{AreApart, Each, GoesOn, Grows, IsAmong, Knows, own}

-- what the slot has: the desk, while nobody has the word
abbrev pub Slot : Type 0
Slot = StdOption DeskState

-- the words and slots of the table, with the views of its seats
abbrev pub Table : Type 0
Table = State Slot DeskView

-- a seat: its view, and what it holds
abbrev pub Sat : Type 0
Sat = Me Slot DeskView

-- a desk of this history
abbrev pub desk : Setting → List Event → DeskState
desk setting h = record { setting = setting; history = h }

-- ---- the rule

-- one of the seats that were joined into one that speaks for these workers: what it knew is so of the journal, and its workers are among
-- them, so that what is new of other workers leaves what it knew as it was
pub record Saw (h : List Event) (workers : List ℕ) (p : Part) : Type 0 where
  pub knows : Knows h p.workers p.seen
  pub among : (w : ℕ) → IsAmong w p.workers → IsAmong w workers

-- what a seat knows is so of the journal
pub record Fits (setting : Setting) (h : List Event) (v : DeskView) : Type 0 where
  pub same : v.spent ≡ false → v.setting ≡ setting
  pub part : Knows h v.part.workers v.part.seen
  pub parts : Each (Saw h v.part.workers) v.parts
  pub below : (w : ℕ) → IsAmong w v.part.workers → w < setting.workers
  pub once : AreApart v.part.workers

-- each worker has one seat, and one seat makes them
pub record Apart (views : List DeskView) : Type 0 where
  pub workers : (i j : ℕ) (v u : DeskView) (w : ℕ) → get_elem? views i ≡ some v → get_elem? views j ≡ some u → IsAmong w v.part.workers →
      IsAmong w u.part.workers → i ≡ j
  pub makers : (i j : ℕ) (v u : DeskView) → get_elem? views i ≡ some v → get_elem? views j ≡ some u → v.maker ≡ true → u.maker ≡ true → i ≡ j
  pub made : (i j : ℕ) (v u : DeskView) (w : ℕ) → get_elem? views i ≡ some v → get_elem? views j ≡ some u → v.maker ≡ true →
      IsAmong w u.part.workers →
      w < v.next

-- the desk is in its slot, with this journal, and no seat has taken the word
pub record IsFree (setting : Setting) (h : List Event) (s : Table) : Type 0 where
  pub home : get_elem? s.homes 0 ≡ some (some (Some (desk setting h)))
  pub none_taken : (i : ℕ) (v : DeskView) → get_elem? s.views i ≡ some v → v.taken ≡ false

-- one seat, which speaks for a worker, has taken the word, and found this journal
pub record IsTaken (h : List Event) (s : Table) : Type 0 where
  pub away : get_elem? s.homes 0 ≡ some none
  pub seat : ℕ
  pub view : DeskView
  pub at : get_elem? s.views seat ≡ some view
  pub says : view.taken ≡ true
  pub found : view.part.seen ≡ h
  pub worker : ℕ
  pub speaks : IsAmong worker view.part.workers
  pub only : (i : ℕ) (v : DeskView) → get_elem? s.views i ≡ some v → v.taken ≡ true → i ≡ seat

-- there is one journal, of which each seat knows what its view says
pub record Guards (setting : Setting) (s : Table) : Type 0 where
  pub journal : List Event
  pub words : length s.words ≡ 1
  pub slots : length s.homes ≡ 1
  pub free : slice_index s.words 0 ≡ 0 → IsFree setting journal s
  pub taken : slice_index s.words 0 ≢ 0 → IsTaken journal s
  pub fresh : (i : ℕ) (v : DeskView) → get_elem? s.views i ≡ some v → (w : ℕ) → v.maker ≡ true → v.next ≤ w → own w journal ≡ []
  pub each : (i : ℕ) (v : DeskView) → get_elem? s.views i ≡ some v → Fits setting journal v
  pub apart : Apart s.views

-- the table of a desk: one word, one slot
pub record IsDesk (words slots : ℕ) : Type 0 where
  pub one_word : words ≡ 1
  pub one_slot : slots ≡ 1

-- ---- views

-- these workers have seen this history
abbrev pub part : List ℕ → List Event → Part
part workers seen = record { workers = workers; seen = seen }

-- a view that is not used up, that was given no other parts
abbrev pub view : Setting → Bool → Bool → ℕ → Part → DeskView
view setting taken maker next p = record { setting = setting; spent = false; taken = taken; maker = maker; next = next; part = p; parts = p ∷ [] }

-- the first seat, which makes the workers' seats
abbrev pub maker : Setting → DeskView
maker setting = view setting false true 0 (part [] [])

-- the view of a seat once it has seen this history, which is all that its calls were answered from, with the word taken or not
abbrev pub seeing : Bool → DeskView → List Event → DeskView
seeing taken v h = view v.setting taken v.maker v.next (part v.part.workers h)

-- the first seat, once it made one more
abbrev pub making : DeskView → DeskView
making v = record v { next = v.next + 1 }

-- the seat of the next worker, which has seen nothing
abbrev pub newcomer_view : DeskView → DeskView
newcomer_view v = view v.setting false false 0 (part (v.next ∷ []) [])

-- a seat that has seen as much, and speaks for no worker
abbrev pub witness : DeskView → DeskView
witness v = view v.setting false false 0 (part [] v.part.seen)

-- the longer of two histories
abbrev pub longer : List Event → List Event → List Event
longer a b = if nat_lt (length a) (length b) then b else a

-- what two seats know, in one
abbrev pub meeting : DeskView → DeskView → DeskView
meeting v u = record v { part = part (v.part.workers ++ u.part.workers) (longer v.part.seen u.part.seen); parts = v.parts ++ u.parts }

-- the setting of a seat that is no more
abbrev pub no_setting : Setting
no_setting = record {
  torrent = record { piece_length = 0; total = 0; hashes = [] };
  workers = 0;
  depth = 0;
  random = 0;
  askers = 0;
  deepest = 0;
  most_open = 0;
  rush = 0;
  shown = false;
}

-- what is left of a seat that was joined into another
abbrev pub spent_view : DeskView
spent_view = record { setting = no_setting; spent = true; taken = false; maker = false; next = 0; part = part [] []; parts = [] }

-- ---- steps

-- taking the word: the seat has the desk, whose journal is what the view says, or nothing changed
abbrev pub Takes : Step Slot → Sat → ℕ → Sat → Type 0
Takes st m found m' =
    (found ≡ 0 → (d : DeskState) × (m.0.setting ≡ d.setting) × Fits d.setting d.history m.0 × (m' ≡ (seeing true m.0 d.history, (0, Some d) ∷ m.1)))
    × (found ≢ 0 → m' ≡ m)

-- freeing it: the seat has seen the desk's journal
abbrev pub Frees : Step Slot → Sat → ℕ → Sat → Type 0
Frees st m n m' = (d : DeskState) → m.1 ≡ (0, Some d) ∷ [] → m' ≡ (seeing false m.0 d.history, [])

-- a seat that may make that of the next worker
pub record MayMake (v : DeskView) : Type 0 where
  pub live : v.spent ≡ false
  pub makes : v.maker ≡ true
  pub below : v.next < v.setting.workers

-- a seat that hasn't taken the word
pub record IsIdle (m : Sat) : Type 0 where
  pub live : m.0.spent ≡ false
  pub idle : m.0.taken ≡ false
  pub empty : m.1 ≡ []

-- a seat that may take the word: it speaks for a worker
pub record MayTake (m : Sat) : Type 0 where
  pub idle : IsIdle m
  pub worker : ℕ
  pub speaks : IsAmong worker m.0.part.workers

-- a seat that may free the word with this desk, to which its workers' entries were added
pub record MayGive (v : DeskView) (d : DeskState) : Type 0 where
  pub taken : v.taken ≡ true
  pub same : d.setting ≡ v.setting
  pub goes : GoesOn v.part.workers v.part.seen d.history

-- the same, where one entry was added at most
pub record MayFree (v : DeskView) (d : DeskState) : Type 0 where
  pub taken : v.taken ≡ true
  pub same : d.setting ≡ v.setting
  pub grows : Grows v.part.workers v.part.seen d.history
