-- A place at a desk that threads share: what its worker's pass and seat say.
use Rattle.std.specs.Prelude.{◌≡◌, ◌⊎◌, ℕ, Bool, true, false, List, []}
use Rattle.bt_check.specs.declared.ticket.Ticket.TheVariants.{Piece}
use Rattle.bt_check.specs.Queues.{with_put}
use Rattle.bt_history.specs.Setting.{Setting}
use Rattle.bt_peer.specs.Conduct.{Calls}
use Rattle.bt_peer.specs.Desks.{calls_in}
use Rattle.bt_peer.specs.Places.{PlaceRecord}
use Rattle.bt_session.specs.Workers.{WorkerState, knows, tells, with_tickets}
use Rattle.bt_shared.specs.Passes.{PassState}

-- no piece at all
abbrev pub no_piece : ℕ → Bool
no_piece piece = false

-- what a place at a shared desk says of itself: its worker's calls, and the pieces that are known to be finished and those told.
-- Of the other workers' calls it knows nothing
abbrev pub pass_record : Setting → ℕ → Calls → (ℕ → Bool) → (ℕ → Bool) → Bool → PlaceRecord
pass_record setting worker calls had told lacked = record {
  lent = [];
  worker = worker;
  setting = setting;
  calls = calls;
  others = λ other. [];
  had = had;
  in_order = [];
  told = told;
  lacked = lacked;
}

-- that of a worker: its calls are those that its pass has seen of it, and its seat has seen the finished pieces, and given those that were told
abbrev pub worker_record : Setting → WorkerState → Bool → PlaceRecord
worker_record setting worker lacked =
    pass_record setting worker.pass.worker (calls_in worker.pass.seen worker.pass.worker) (knows setting worker.seat) (tells worker.seat) lacked

-- in what the pass has seen then its worker has made no call more
pub record KeepsCalls (old new : PassState) : Type 0 where
  pub worker : new.worker ≡ old.worker
  pub calls : calls_in new.seen new.worker ≡ calls_in old.seen old.worker

-- a place at a shared desk as its callers see it: its worker, whether a call has found no memory, and whether a ticket came back
pub record PassPlaceState : Type 0 where
  pub worker : WorkerState
  pub lacked : Bool
  pub given_up : Bool

-- a ticket was put for the piece; or it came back, which is noted
abbrev pub PutsTicket : PassPlaceState → ℕ → PassPlaceState → Type 0
PutsTicket old piece new =
    (new ≡ record { worker = with_tickets old.worker (with_put old.worker.tickets (Piece piece)); lacked = old.lacked; given_up = old.given_up })
    ⊎ (new ≡ record { worker = old.worker; lacked = old.lacked; given_up = true })
