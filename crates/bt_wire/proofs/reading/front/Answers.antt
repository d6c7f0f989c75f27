use Rattle.std.proofs.Common.{subst, sym, inr, arith}
use Rattle.bt_wire.specs.Stream.{HasFault}
use Rattle.bt_wire.proofs.Front.{bad_handshake}
use Rattle.bt_wire.proofs.reading.front.Goals as goal

pub returns-in-Err-clause-err : goal.returns-in-Err-clause-err
returns-in-Err-clause-err c =
    let bad = c.in-Err.ensures.err in
    let cut = c.in-Some.ensures.cases in
    inr (subst (λ b. HasFault b c.args.limit c.args.bytes.now c.in-Err.fault) (sym c.if-greeted.false)
    (bad_handshake c.args.limit c.args.bytes.now c.in-Some.first.now c.in-Err.fault (omega (arith, cut.2)) cut.0 bad.0 bad.1))
