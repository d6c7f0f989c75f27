use Rattle.std.proofs.Common.{◌≡◌, true, sym, subst, ◌∙◌}
use Rattle.bt_check.specs.Checked.{Checked}
use Rattle.bt_history.specs.Legal.{IsAllowed, IsLegal}
use Rattle.bt_history.specs.declared.call.Reply.{Reply}
use Rattle.bt_history.specs.declared.mark.CallMark.TheVariants.{Settle}
use Rattle.bt_shared.specs.Passes.{Notes, PassState}
use Rattle.bt_shared.specs.SharedJobs.{checking}
use Rattle.bt_session.proofs.Passing.{passed_fits}
use Rattle.bt_session.proofs.commons.Commons.settle.Goals as goal
use Rattle.bt_session.specs.Workers.{knows}

pub unreachable-requires : goal.unreachable-requires
unreachable-requires g c =
    let setting = g.L.RunName.setting in
    let found = c.in_ok-reply.ensures.ok.0 in
    let worker = c.args.worker.now.pass.worker in
    let legal = subst (IsLegal setting) c.in_ok-reply.ensures.ok.1.entered c.in_ok-reply.ensures.legal in
    let allowed = subst (λ (r : Reply). IsAllowed setting found (checking worker c.args.verdict.checked r)) c.in-Had.is legal.1 in
    c.in_default-proven.ensures.err.1
    (rw (c.in_ok-clone.ensures.cases, c.verdict-2.ensures, c.deref.ensures, c.self.invariant.torrent_is)
    (passed_fits setting found worker c.args.verdict.checked allowed))

pub returns-in-Ok-clause-ok : goal.returns-in-Ok-clause-ok
returns-in-Ok-clause-ok g c =
    let setting = g.L.RunName.setting in
    let old = c.args.worker.now.pass in
    let new = c.announce.new.worker in
    let piece = c.args.verdict.checked.piece in
    record {
      reply = c.in_ok-reply.reply;
      notes = subst (λ (p : PassState). Notes old (Settle piece) c.in_ok-reply.reply p) (sym c.announce.ensures.rest.0) c.in_ok-reply.ensures.notes;
      marks = λ had. subst (λ (v : Checked). knows setting new.seat v.piece ≡ true)
          (c.in-Ok.ensures.ok.0 ∙ c.in_ok-clone.ensures.cases ∙ c.verdict-2.ensures) c.announce.ensures.known;
      unmarked = λ other. absurd (other c.in-Had.is);
    }
