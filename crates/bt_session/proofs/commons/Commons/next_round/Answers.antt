use Rattle.std.proofs.Common.{ℕ, List, sym, subst, arith}
use Rattle.bt_session.specs.PieceChecks.{TakesPieces}
use Rattle.bt_session.proofs.Through.{takes_more}
use Rattle.bt_session.proofs.commons.Commons.next_round.Goals as goal

pub loop-preserved : goal.loop-preserved
loop-preserved g c =
    let w = c.args.worker.now in
    let new = c.ticket_at_hand.new.worker in
    let one = rw c.in-Some-Piece.field-0-is at c.in-Some-Piece.ensures.some in
    let more = takes_more w c.loop.worker new c.loop.pieces.items c.in-Some-Piece.piece c.loop.invariant.takes one in
    record {
      count = omega (arith, c.push-in-Some-Piece.ensures.len, c.loop.invariant.count);
      takes = subst (λ (pieces : List ℕ). TakesPieces w pieces new) (sym c.push-in-Some-Piece.ensures.items) more;
    }
