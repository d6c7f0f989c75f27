-- The workers of a run in threads: what each of them has, and what its seat knows.
use Rattle.std.specs.Prelude.{◌≡◌, ◌==◌, ◌<◌, ◌≤◌, ◌+◌, if◌then◌else◌, ℕ, Bool, true, false, List, [], ◌∷◌, length, take}
use Rattle.std.specs.Prelude.{slice_get, slice_index_or, Option, Some, map}
use Rattle.std.specs.List.{All}
use Rattle.atomic_table.specs.Seated.{TableId}
use Rattle.bt_board.specs.Knowing.{has_seen, has_given}
use Rattle.bt_board.specs.Seats.{BoardState, SeatState}
use Rattle.bt_board.specs.Story.{Seen, StandsFor}
use Rattle.bt_board.specs.declared.view.BoardView.{BoardView}
use Rattle.bt_check.specs.Queues.{Queue, TicketPassState}
use Rattle.bt_history.specs.Setting.{Setting}
use Rattle.bt_meta.specs.Layout.{Layout, piece_count}
use Rattle.bt_shared.specs.Passes.{PassState, SharedState}
use Rattle.bt_shared.specs.SharedJobs.{JobState}

-- a worker: its pass of the desk, its seat at the board, and its pass of the queue of tickets
pub record WorkerState : Type 0 where
  pub pass : PassState
  pub seat : SeatState
  pub tickets : TicketPassState

-- the worker with another pass of the queue
abbrev pub with_tickets : WorkerState → TicketPassState → WorkerState
with_tickets worker tickets = record { pass = worker.pass; seat = worker.seat; tickets = tickets }

-- the pass is one of the desk of this name
pub record IsNamed (desk : Option TableId) (setting : Setting) (pass : PassState) : Type 0 where
  pub desk_is : desk ≡ Some pass.table
  pub setting_is : pass.setting ≡ setting

-- the job, or its verdict, is one of the desk of this name
pub record IsOfRun (desk : Option TableId) (setting : Setting) (job : JobState) : Type 0 where
  pub desk_is : desk ≡ Some job.table
  pub setting_is : job.setting ≡ setting

-- and it is of this piece
abbrev pub IsCheckOf : Option TableId → Setting → ℕ → JobState → Type 0
IsCheckOf desk setting piece job = IsOfRun desk setting job × (job.checked.piece ≡ piece)

-- each of them is
abbrev pub AreOfRun : Option TableId → Setting → List JobState → Type 0
AreOfRun desk setting jobs = All (IsOfRun desk setting) jobs

-- the pieces that they are of
abbrev pub pieces_of : List JobState → List ℕ
pieces_of jobs = map (λ (job : JobState). job.checked.piece) jobs

-- and they are of these pieces
abbrev pub AreChecksOf : Option TableId → Setting → List ℕ → List JobState → Type 0
AreChecksOf desk setting pieces jobs = AreOfRun desk setting jobs × (pieces ≡ pieces_of jobs)

-- and the first of them are of these pieces, which are two or more
pub record BeginWith (desk : Option TableId) (setting : Setting) (pieces : List ℕ) (jobs : List JobState) : Type 0 where
  pub of_run : AreOfRun desk setting jobs
  pub some : 2 ≤ length pieces
  pub first : take (length pieces) (pieces_of jobs) ≡ pieces

-- each of these passes is
abbrev pub AreNamed : Option TableId → Setting → List PassState → Type 0
AreNamed desk setting passes = (k : ℕ) (pass : PassState) → slice_get passes k ≡ Some pass → IsNamed desk setting pass

-- The worker belongs to the run of this desk, this board and this queue: its pass is the desk's, its seat is the board's and its own, and it
-- puts and takes at the queue
pub record Belongs (setting : Setting) (desk board : Option TableId) (queue : Option Queue) (worker : WorkerState) : Type 0 where
  pub pass : IsNamed desk setting worker.pass
  pub seat : board ≡ Some worker.seat.table
  pub own : worker.seat.view.seats ≡ worker.pass.worker ∷ []
  pub tickets : queue ≡ Some worker.tickets.queue

-- A run shares what its name says: a desk, its torrent, a board of it with a seat for each worker, and a queue
pub record Shares (setting : Setting) (named named_board : Option TableId) (named_queue : Option Queue)
    (torrent : Layout) (desk : SharedState) (board : BoardState) (queue : Queue) : Type 0 where
  pub desk_is : named ≡ Some desk.table
  pub desk_setting : desk.setting ≡ setting
  pub board_is : named_board ≡ Some board.table
  pub queue_is : named_queue ≡ Some queue
  pub torrent_is : torrent ≡ setting.torrent
  pub board_torrent : board.torrent ≡ setting.torrent
  pub seats : board.seats ≡ setting.workers

-- ---- what a seat knows

-- the seat has seen that the piece is finished
abbrev pub knows : Setting → SeatState → ℕ → Bool
knows setting seat = has_seen (piece_count setting.torrent) seat.view

-- the seat's news has given the piece
abbrev pub tells : SeatState → ℕ → Bool
tells seat = has_given seat.given

-- the seat told this piece, which it knows to be finished, and which it hadn't told
pub record TellsOne (setting : Setting) (old : SeatState) (piece : ℕ) (new : SeatState) : Type 0 where
  pub untold : tells old piece ≡ false
  pub adds : (other : ℕ) → tells new other ≡ (if other == piece then true else tells old other)
  pub stays : (other : ℕ) → knows setting old other ≡ true → knows setting new other ≡ true
  pub finished : knows setting new piece ≡ true

-- the seat told no piece: it has told each that it knows to be finished
pub record TellsNone (setting : Setting) (old new : SeatState) : Type 0 where
  pub same : (piece : ℕ) → tells new piece ≡ tells old piece
  pub stays : (piece : ℕ) → knows setting old piece ≡ true → knows setting new piece ≡ true
  pub all : (piece : ℕ) → knows setting new piece ≡ true → tells new piece ≡ true

-- the view of the seat that all were joined to stands for this worker, and has seen what the worker's seat saw
pub record Takes (whole : BoardView) (worker : WorkerState) : Type 0 where
  pub stands : StandsFor whole worker.pass.worker
  pub seen : (piece : ℕ) → Seen worker.seat.view piece → Seen whole piece

-- ---- the workers of a run

-- each element has P with its number, counted from this one
abbrev pub AreNumbered : {X : Type 0} → (ℕ → X → Type 0) → ℕ → List X → Type 0
AreNumbered {X} P first xs = (i : ℕ) (any : X) → i < length xs → P (first + i) (slice_index_or xs i any)

-- the workers stand in the order of their numbers
abbrev pub StandInOrder : List WorkerState → Type 0
StandInOrder workers = AreNumbered (λ number worker. worker.pass.worker ≡ number) 0 workers
