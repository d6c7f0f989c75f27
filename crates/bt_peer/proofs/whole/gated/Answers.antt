use Rattle.std.proofs.Common.{◌<◌, ◌∙◌, arith}
use Rattle.std.proofs.lemmas.Result.{err_from_is_err_and}
use Rattle.bt_peer.specs.Reader.{source_state}
use Rattle.bt_peer.specs.Sessions.{to_hear}
use Rattle.bt_peer.proofs.Conduct.{Conducts-draws, Conducts-join, DrawsNumbers-join}
use Rattle.bt_peer.proofs.OwnTurns.{devices_of}
use Rattle.bt_peer.proofs.Runs.{running_on, running_ends, running_fails, unended}
use Rattle.bt_peer.proofs.whole.gated.Goals as goal

pub turns-preserved : goal.turns-preserved
turns-preserved g c =
    let was = c.turns.invariant in
    let did = c.in_ok-end.ensures in
    let less : to_hear c.turn.new.self < to_hear c.turns.session = rw c.in_default.is at did.shrinks in
    record {
      running = running_on _ _ _ _ _ _ _ was.running (rw c.in_default.is at did.goes_on);
      counted = λ none. did.counted (was.counted none);
      failed = did.sound.0 ∙ was.failed;
      writer_failed = did.sound.1 ∙ was.writer_failed;
      conduct = Conducts-join was.conduct did.conduct;
      turns = omega (arith, was.turns, less);
    }

pub returns-in-Some-clause-runs : goal.returns-in-Some-clause-runs
returns-in-Some-clause-runs g c =
    let was = c.turns.invariant in
    let did = c.in_ok-end.ensures in
    let last = rw c.in-Some.is at (did.ends (unended _ _ _ _ _ was.running)) in
    record {
      reads = c.turn.new.self.reads;
      ends = running_ends c.in-Some.end _ _ _ _ _ _ _ _ was.running (λ fresh. rw c.in-Some.is at (did.ends fresh));
      numbers = Conducts-draws (Conducts-join was.conduct did.conduct);
      devices = (last.leave.hears.ended, did.sound.0 ∙ was.failed, did.sound.1 ∙ was.writer_failed);
      counted = λ none. did.counted (was.counted none);
      most = did.most;
    }

pub returns-in-Some-clause-conduct : goal.returns-in-Some-clause-conduct
returns-in-Some-clause-conduct g c = Conducts-join c.turns.invariant.conduct c.in_ok-end.ensures.conduct

pub returns-in_err-end-clause-runs : goal.returns-in_err-end-clause-runs
returns-in_err-end-clause-runs g c =
    let p = err_from_is_err_and c.from_residual.result c.from_residual.ensures.1 in
    let was = c.turns.invariant in
    let did = c.in_err-end.ensures in
    let source = source_state g.R.Source.left g.R.Source.ended g.R.Source.failed c.turn.new.reader c.turn.new.self.reads in
    rw (p.1, p.2) (record {
      reads = c.turn.new.self.reads;
      ends = running_fails _ _ _ _ _ _ source _ _ was.running (λ fresh. did.fails fresh);
      numbers = DrawsNumbers-join was.conduct did.numbers;
      devices = devices_of _ _ _ (did.failed (unended _ _ _ _ _ was.running));
      counted = λ none. did.counted (was.counted none);
      most = did.most;
    })
