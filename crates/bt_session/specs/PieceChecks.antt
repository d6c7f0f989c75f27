-- The tickets of a run in threads, and the workers that check pieces: what each of them calls at the shared desk.
use Rattle.std.specs.Prelude.{◌≡◌, ◌≢◌, ◌⊎◌, ℕ, Bool, true, false, List, [], ◌∷◌}
use Rattle.bt_check.specs.declared.ticket.Ticket.{Ticket}
use Rattle.bt_check.specs.declared.ticket.Ticket.TheVariants.{Piece, Stop}
use Rattle.bt_check.specs.Queues.{with_put, with_taken}
use Rattle.bt_history.specs.declared.call.Reply.{Reply}
use Rattle.bt_history.specs.declared.call.Reply.TheVariants.{Had}
use Rattle.bt_history.specs.declared.mark.CallMark.TheVariants.{Settle}
use Rattle.bt_history.specs.declared.mark.Mark.{Mark}
use Rattle.bt_history.specs.Setting.{Setting}
use Rattle.bt_picker.specs.Checks.{waits}
use Rattle.bt_session.specs.Workers.{WorkerState, knows, with_tickets}
use Rattle.bt_shared.specs.Passes.{PassState, Notes}

-- ---- tickets

-- where it is told so the worker put the ticket, and else nothing
abbrev pub PutsIf : Bool → Ticket → WorkerState → WorkerState → Type 0
PutsIf true ticket old new = new ≡ with_tickets old (with_put old.tickets ticket)
PutsIf false ticket old new = new ≡ old

-- the worker took the ticket of this piece
abbrev pub TakesPiece : WorkerState → ℕ → WorkerState → Type 0
TakesPiece old piece new = new ≡ with_tickets old (with_taken old.tickets (Piece piece))

-- it took Stop, or no ticket
abbrev pub TakesNone : WorkerState → WorkerState → Type 0
TakesNone old new = (new ≡ with_tickets old (with_taken old.tickets Stop)) ⊎ (new ≡ old)

-- the worker took the tickets of these pieces, in this order
abbrev pub TakesPieces : WorkerState → List ℕ → WorkerState → Type 0
TakesPieces old [] new = new ≡ old
TakesPieces old (piece ∷ pieces) new = TakesPieces (with_tickets old (with_taken old.tickets (Piece piece))) pieces new

-- it took nothing behind them, or, where that is told, Stop or no ticket for which it waited
abbrev pub EndsRound : WorkerState → Bool → WorkerState → Type 0
EndsRound old true new = TakesNone old new
EndsRound old false new = new ≡ old

-- the worker took the tickets of these pieces, and it is told whether no further ticket is for it
pub record TakesRound (old : WorkerState) (pieces : List ℕ) (is_last : Bool) (new : WorkerState) : Type 0 where
  pub between : WorkerState
  pub takes : TakesPieces old pieces between
  pub ends : EndsRound between is_last new

-- ---- checks

-- the pass is the same worker's, and its log as it was
pub record IsQuiet (old new : PassState) : Type 0 where
  pub worker : new.worker ≡ old.worker
  pub log : new.log ≡ old.log

-- What came of a check that was made: its reply is noted, and a piece that is had then is one that the worker's seat knows to be finished. After
-- another reply the seat is as it was.
pub record MakesCheck (setting : Setting) (old : WorkerState) (piece : ℕ) (new : WorkerState) : Type 0 where
  pub reply : Reply
  pub notes : Notes old.pass (Settle piece) reply new.pass
  pub marks : reply ≡ Had → knows setting new.seat piece ≡ true
  pub unmarked : reply ≢ Had → new.seat ≡ old.seat

-- nothing was noted, and the seat is as it was
pub record IsIdle (old new : WorkerState) : Type 0 where
  pub quiet : IsQuiet old.pass new.pass
  pub seat : new.seat ≡ old.seat

-- no check was due: in what the pass has then seen the piece doesn't wait for one
pub record NeedsNone (setting : Setting) (old : WorkerState) (piece : ℕ) (new : WorkerState) : Type 0 where
  pub idle : IsIdle old new
  pub undue : waits setting new.pass.seen piece ≡ false

-- the worker saw to the piece: it made the check, or none was due
abbrev pub SeesTo : Setting → WorkerState → ℕ → WorkerState → Type 0
SeesTo setting old piece new = MakesCheck setting old piece new ⊎ NeedsNone setting old piece new

-- the worker saw to the piece, or gave it up, which it tells
abbrev pub SeesOrGivesUp : Setting → WorkerState → ℕ → Bool → WorkerState → Type 0
SeesOrGivesUp setting old piece given_up new = SeesTo setting old piece new ⊎ (IsIdle old new × (given_up ≡ true))

-- the worker saw to the piece, or gave it up, and then did the rest
pub record GoesOn (setting : Setting) (old : WorkerState) (piece : ℕ) (given_up : Bool) (Rest : WorkerState → Type 0) : Type 0 where
  pub between : WorkerState
  pub sees : SeesOrGivesUp setting old piece given_up between
  pub rest : Rest between

-- The worker went through these pieces, one after the other: it saw to each of them, or gave it up, which it tells. It noted nothing else
abbrev pub GoesThrough : Setting → WorkerState → List ℕ → Bool → WorkerState → Type 0
GoesThrough setting old [] given_up new = IsIdle old new
GoesThrough setting old (piece ∷ pieces) given_up new =
    GoesOn setting old piece given_up (λ between. GoesThrough setting between pieces given_up new)

-- a worker's pass after it saw to a piece: the mark of a check of this piece, or nothing
abbrev pub MayCheck : PassState → ℕ → PassState → Type 0
MayCheck old piece new = IsQuiet old new ⊎ ((reply : Reply) × Notes old (Settle piece) reply new)

-- the marks are checks alone
abbrev pub AreChecks : List Mark → Type 0
AreChecks [] = Unit {0}
AreChecks (mark ∷ log) = ((piece : ℕ) × (mark.call ≡ Settle piece)) × AreChecks log

-- a worker made checks alone
pub record MakesChecks (old new : PassState) : Type 0 where
  pub worker : new.worker ≡ old.worker
  pub checks : AreChecks old.log → AreChecks new.log

-- ---- rounds of a checker

-- A round: the worker took the tickets of these pieces, and then it saw to each of them, in order, or gave it up, which is told.
pub record MakesRound (setting : Setting) (old : WorkerState) (pieces : List ℕ) (in_all : Bool) (new : WorkerState) : Type 0 where
  pub taken : WorkerState
  pub is_last : Bool
  pub given_up : Bool
  pub told : given_up ≡ true → in_all ≡ true
  pub takes : TakesRound old pieces is_last taken
  pub sees : GoesThrough setting taken pieces given_up new

-- rounds of these pieces, one after the other
abbrev pub MakesRounds : Setting → WorkerState → List (List ℕ) → Bool → WorkerState → Type 0
MakesRounds setting old [] in_all new = new ≡ old
MakesRounds setting old (pieces ∷ rounds) in_all new =
    (mid : WorkerState) × (MakesRound setting old pieces in_all mid × MakesRounds setting mid rounds in_all new)

-- The worker saw to each piece of which it took a ticket, or gave it up, which is told: it made rounds, and nothing else.
abbrev pub SeesToTickets : Setting → WorkerState → Bool → WorkerState → Type 0
SeesToTickets setting old in_all new = (rounds : List (List ℕ)) × MakesRounds setting old rounds in_all new
