use Rattle.std.proofs.Common.{take}
use Rattle.bt_session.specs.PieceChecks.{GoesThrough}
use Rattle.bt_session.proofs.commons.Commons.check_each.Given as goal

-- the worker went through the pieces so far
abbrev pub invariant-loop-piece : goal.invariant-loop-piece
invariant-loop-piece g l = GoesThrough g.L.RunName.setting l.fn.worker (take l.piece-index l.pieces) l.given_up l.worker
