-- What a run in threads begins with: its desk, its board and its queue, and workers that have made no call.
use Rattle.std.specs.Prelude.{◌≡◌, ◌<◌, ℕ, false, List, [], ◌∷◌, length, slice_index_or, Option, Some}
use Rattle.atomic_table.specs.Seated.{TableId}
use Rattle.bt_board.specs.Seats.{SeatState}
use Rattle.bt_check.specs.Queues.{TicketPassState}
use Rattle.bt_history.specs.Setting.{Setting}
use Rattle.bt_session.specs.declared.fittings.Fittings.{Fittings}
use Rattle.bt_shared.specs.Passes.{PassState}
use Rattle.bt_session.specs.Workers.{AreNumbered, IsNamed, WorkerState, knows, tells}

-- the seat of this number at the board of this name, which has seen and told no piece
pub record IsNewSeat (board : Option TableId) (number : ℕ) (seat : SeatState) : Type 0 where
  pub board_is : board ≡ Some seat.table
  pub own : seat.view.seats ≡ number ∷ []
  pub seen : (setting : Setting) (piece : ℕ) → knows setting seat piece ≡ false
  pub told : (piece : ℕ) → tells seat piece ≡ false

-- the pass of this number at the desk of this name, which has made no call
pub record IsNewPass (desk : Option TableId) (setting : Setting) (number : ℕ) (pass : PassState) : Type 0 where
  pub named : IsNamed desk setting pass
  pub number_is : pass.worker ≡ number
  pub unseen : pass.seen ≡ []
  pub log : pass.log ≡ []

-- A desk of this setting, and a board and a queue for it: for each worker a pass that has made no call, a seat that has seen nothing, and a
-- pass of the queue
pub record AreFittings (setting : Setting) (f : Fittings) : Type 0 where
  pub desk : f.desk.setting ≡ setting
  pub board_torrent : f.board.torrent ≡ setting.torrent
  pub board_seats : f.board.seats ≡ setting.workers
  pub passes_count : length f.passes.items ≡ setting.workers
  pub seats_count : length f.seats.items ≡ setting.workers
  pub tickets_count : length f.tickets.items ≡ setting.workers
  pub passes : AreNumbered (IsNewPass (Some f.desk.table) setting) 0 f.passes.items
  pub seats : AreNumbered (IsNewSeat (Some f.board.table)) 0 f.seats.items
  pub tickets : (i : ℕ) (any : TicketPassState) → i < length f.tickets.items → (slice_index_or f.tickets.items i any).queue ≡ f.queue

-- the worker of this number has made no call, has seen no piece, and has told none
pub record IsFresh (setting : Setting) (number : ℕ) (worker : WorkerState) : Type 0 where
  pub number_is : worker.pass.worker ≡ number
  pub unseen : worker.pass.seen ≡ []
  pub log : worker.pass.log ≡ []
  pub seen : (piece : ℕ) → knows setting worker.seat piece ≡ false
  pub told : (piece : ℕ) → tells worker.seat piece ≡ false

-- each of the workers is, in the order of their numbers
abbrev pub AreFresh : Setting → List WorkerState → Type 0
AreFresh setting workers = AreNumbered (IsFresh setting) 0 workers
