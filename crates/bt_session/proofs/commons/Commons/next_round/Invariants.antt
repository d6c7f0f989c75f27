use Rattle.std.proofs.Common.{◌≡◌, length}
use Rattle.bt_session.specs.PieceChecks.{TakesPieces}
use Rattle.bt_session.proofs.commons.Commons.next_round.Given as goal

-- the worker took the tickets of the pieces so far
abbrev pub invariant-loop : goal.invariant-loop
invariant-loop g l = record { count : length l.pieces.items ≡ l.counter; takes : TakesPieces l.fn.worker l.pieces.items l.worker }
