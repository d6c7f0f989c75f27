use Rattle.std.proofs.Common.{refl, rules, false, arith}
use Rattle.std.proofs.lemmas.Grind.{common_steps}
use Rattle.std.proofs.lemmas.Result.{err_from_is_err_and}
use Rattle.bt_peer.specs.Reader.{source_state}
use Rattle.bt_peer.specs.Steps.{start}
use Rattle.bt_peer.proofs.Failing.{greeting_fails, handshake_fails, join_refused}
use Rattle.bt_peer.proofs.turn.greet.Goals as goal

pub returns-in_err-write-clause-err : goal.returns-in_err-write-clause-err
returns-in_err-write-clause-err g c =
    let p = err_from_is_err_and c.from_residual.result c.from_residual.ensures.1 in
    let old = start c.args.terms.now false c.args.heard.now.inbound (g.R.Source.left c.args.reader.now) in
    rw (p.1, p.2) (greeting_fails _ c.args.greeting.now c.args.said.now.interested old _ _ _ _ refl c.in_err-write.ensures.cause
    c.in_err-write.ensures.err.wrote refl)

pub returns-in_err-message-clause-err : goal.returns-in_err-message-clause-err
returns-in_err-message-clause-err g c =
    let p = err_from_is_err_and c.from_residual-in_err-message.result c.from_residual-in_err-message.ensures.1 in
    let old = start c.args.terms.now false c.args.heard.now.inbound (g.R.Source.left c.args.reader.now) in
    rw (p.1, p.2) (handshake_fails _ c.args.greeting.now c.args.said.now.interested old _ _ _ _ c.in_ok-write.ensures.ok.wrote
    c.in_err-message.ensures.fault)

pub returns-in-Refused-clause-err : goal.returns-in-Refused-clause-err
returns-in-Refused-clause-err g c =
    let old = start c.args.terms.now false c.args.heard.now.inbound (g.R.Source.left c.args.reader.now) in
    let source = source_state g.R.Source.left g.R.Source.ended g.R.Source.failed c.next.new.reader c.next.new.self.reads in
    join_refused c.in-Refused.reason c.args.greeting.now c.args.said.now.interested c.in-Hello.hello c.next.new.self.inbound old source _ _ _ _
    c.in_ok-write.ensures.ok.wrote
    (rw (c.in-Some.is, c.in-Hello.is) at c.in_ok-message.ensures.message) (rw c.in-Refused.is at c.in_ok-reason.ensures.ok)

pub returns-in_default-2-clause-ok : goal.returns-in_default-2-clause-ok
returns-in_default-2-clause-ok g c = search rules

pub returns-in_err-write-clause-keeps : goal.returns-in_err-write-clause-keeps
returns-in_err-write-clause-keeps g c = grind (arith, common_steps)

pub returns-in_default-clause-err : goal.returns-in_default-clause-err
returns-in_default-clause-err g c = grind (arith, common_steps)

pub returns-in_default-message : goal.returns-in_default-message
returns-in_default-message g c = grind (arith, common_steps)
