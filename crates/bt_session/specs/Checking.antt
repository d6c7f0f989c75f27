-- The workers of a run in threads that check pieces.
use Rattle.std.specs.Prelude.{◌≡◌, ◌<◌, ◌+◌, ℕ, Bool, List, length, slice_get, slice_index_or, Some}
use Rattle.std.specs.Global.{Vec}
use Rattle.bt_history.specs.declared.mark.Mark.{Mark}
use Rattle.bt_history.specs.Setting.{Setting}
use Rattle.bt_session.specs.PieceChecks.{AreChecks, MakesChecks, SeesToTickets}
use Rattle.bt_session.specs.Workers.{WorkerState}

-- A checker made checks alone, and it saw to each piece of which it took a ticket, or tells that it gave one up.
pub record ChecksTickets (setting : Setting) (old : WorkerState) (in_all : Bool) (new : WorkerState) : Type 0 where
  pub makes : MakesChecks old.pass new.pass
  pub sees : SeesToTickets setting old in_all new

-- each of these workers made checks alone
abbrev pub EachMakesChecks : List WorkerState → List WorkerState → Type 0
EachMakesChecks workers workers' =
    (i : ℕ) (any : WorkerState) → i < length workers → MakesChecks (slice_index_or workers i any).pass (slice_index_or workers' i any).pass

-- so many of these workers made checks alone, from the one with the number `first` on
abbrev pub CheckersWork : ℕ → ℕ → List WorkerState → List WorkerState → Type 0
CheckersWork first count workers workers' =
    (i : ℕ) (any : WorkerState) → i < count → MakesChecks (slice_index_or workers (first + i) any).pass (slice_index_or workers' (first + i) any).pass

-- the logs of so many workers, from this one on, are checks alone
abbrev pub CheckersCheck : ℕ → ℕ → List (Vec Mark) → Type 0
CheckersCheck first count logs = (i : ℕ) (log : Vec Mark) → i < count → slice_get logs (first + i) ≡ Some log → AreChecks log.items
