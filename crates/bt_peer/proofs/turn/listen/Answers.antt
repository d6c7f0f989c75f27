use Rattle.std.proofs.Common.{◌≡◌, ◌<◌, [], length, refl, arith, rules, true}
use Rattle.std.proofs.lemmas.Grind.{common_steps}
use Rattle.std.proofs.lemmas.List.{nil_from_length}
use Rattle.std.proofs.lemmas.Result.{err_from_is_err_and}
use Rattle.bt_peer.specs.Reader.{source_state}
use Rattle.bt_peer.specs.Steps.{start}
use Rattle.bt_peer.proofs.Conduct.{DrawsNumbers-none, left_draws}
use Rattle.bt_peer.proofs.Failing.{hearing_fails, ends_within, leave_refused, leave_lacks_memory, attending_fails}
use Rattle.bt_peer.proofs.turn.listen.Goals as goal

pub returns-in-Err-clause-err : goal.returns-in-Err-clause-err
returns-in-Err-clause-err g c =
    let old = start c.args.terms.now true c.args.heard.now.inbound (g.R.Source.left c.args.reader.now) in
    rw c.leave_by-in-Err.ensures.fault
    (hearing_fails _ c.args.said.now.interested old _ _ _ _ c.in-Err.ensures.fault c.leave_by-in-Err.ensures.leave)

pub returns-in-Ok-None-clause-err : goal.returns-in-Ok-None-clause-err
returns-in-Ok-None-clause-err g c =
    let some : 0 < length c.next.new.self.inbound.bytes = omega arith in
    let old = start c.args.terms.now true c.args.heard.now.inbound (g.R.Source.left c.args.reader.now) in
    let source = source_state g.R.Source.left g.R.Source.ended g.R.Source.failed c.next.new.reader c.next.new.self.reads in
    rw c.leave_by.ensures.fault
    (ends_within c.args.said.now.interested old source c.next.new.self.inbound _ _ _ (rw c.in-Ok-None.field-0-is at c.in-Ok-None.ensures.end) some
    c.leave_by.ensures.leave)

pub returns-in_err-reason-in-Ok-None-2-clause-err : goal.returns-in_err-reason-in-Ok-None-2-clause-err
returns-in_err-reason-in-Ok-None-2-clause-err g c =
    let p = err_from_is_err_and c.from_residual.result c.from_residual.ensures.1 in
    let old = start c.args.terms.now true c.args.heard.now.inbound (g.R.Source.left c.args.reader.now) in
    let source = source_state g.R.Source.left g.R.Source.ended g.R.Source.failed c.next.new.reader c.next.new.self.reads in
    rw (p.1, p.2) (leave_lacks_memory _ c.args.said.now.interested old source _ _
    (g.W.Sink.written c.args.said.now.writer.now) refl c.in_err-reason-in-Ok-None-2.ensures.err)

pub returns-in-Refused-clause-err : goal.returns-in-Refused-clause-err
returns-in-Refused-clause-err g c =
    let old = start c.args.terms.now true c.args.heard.now.inbound (g.R.Source.left c.args.reader.now) in
    let source = source_state g.R.Source.left g.R.Source.ended g.R.Source.failed c.next.new.reader c.next.new.self.reads in
    let empty : c.next.new.self.inbound.bytes ≡ [] = nil_from_length c.next.new.self.inbound.bytes (omega arith) in
    leave_refused c.in-Refused.reason c.args.said.now.interested old source c.next.new.self.inbound _ _ (g.W.Sink.written c.args.said.now.writer.now)
    (rw c.in-Ok-None.field-0-is at c.in-Ok-None.ensures.end) empty refl (rw c.in-Refused.is at c.in_ok-reason-in-Ok-None-2.ensures.ok)

pub returns-in-Err-attend-clause-err : goal.returns-in-Err-attend-clause-err
returns-in-Err-attend-clause-err g c =
    let old = start c.args.terms.now true c.args.heard.now.inbound (g.R.Source.left c.args.reader.now) in
    let source = source_state g.R.Source.left g.R.Source.ended g.R.Source.failed c.next.new.reader c.next.new.self.reads in
    let hears = rw c.in-Ok-Some.field-0-is at c.in-Ok-Some.ensures.message in
    rw c.leave_by-in-Err-attend.ensures.fault
    (attending_fails _ c.in-Ok-Some.message c.next.new.self.inbound old source _ _ _ hears c.in-Err-attend.ensures.err
    c.leave_by-in-Err-attend.ensures.leave)

pub returns-in-Err-clause-conduct : goal.returns-in-Err-clause-conduct
returns-in-Err-clause-conduct g c =
    let past = g.P.Place.past c.args.place.now in
    left_draws _ past past _ (DrawsNumbers-none _ past.calls) c.leave_by-in-Err.ensures.leave

pub returns-in-Ok-None-clause-conduct : goal.returns-in-Ok-None-clause-conduct
returns-in-Ok-None-clause-conduct g c =
    let past = g.P.Place.past c.args.place.now in
    left_draws _ past past _ (DrawsNumbers-none _ past.calls) c.leave_by.ensures.leave

pub returns-in-Err-attend-clause-conduct : goal.returns-in-Err-attend-clause-conduct
returns-in-Err-attend-clause-conduct g c =
    let past = g.P.Place.past c.args.place.now in
    left_draws _ past (g.P.Place.past c.attend.new.place) _ c.in-Err-attend.ensures.conduct c.leave_by-in-Err-attend.ensures.leave

pub returns-in_default-clause-leaves : goal.returns-in_default-clause-leaves
returns-in_default-clause-leaves g c = record {
  hears = rw c.in-Ok-None.field-0-is at c.in-Ok-None.ensures.end;
  empty = nil_from_length c.next.new.self.inbound.bytes (omega arith);
  gains = grind (arith, common_steps);
  wrote = search rules;
}

pub returns-in_err-reason-in-Ok-None-2-clause-keeps : goal.returns-in_err-reason-in-Ok-None-2-clause-keeps
returns-in_err-reason-in-Ok-None-2-clause-keeps g c = grind (arith, common_steps)

pub returns-clause-goes_on : goal.returns-clause-goes_on
returns-clause-goes_on g c = grind (arith, common_steps)
