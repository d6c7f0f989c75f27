use Rattle.std.proofs.Common.{sym, ◌∙◌}
use Rattle.bt_session.proofs.Seats.{same_table}
use Rattle.bt_session.proofs.commons.Commons.enter_verdict.Goals as goal

pub settle-requires-clause-pass : goal.settle-requires-clause-pass
settle-requires-clause-pass g c =
    same_table g.L.RunName.desk c.worker.inside.pass.table c.self.inside.desk.table c.worker.invariant.pass.desk_is c.self.invariant.desk_is

pub settle-requires-clause-verdict : goal.settle-requires-clause-verdict
settle-requires-clause-verdict g c = record {
  table = same_table g.L.RunName.desk c.args.verdict.table c.worker.inside.pass.table c.requires.desk_is c.worker.invariant.pass.desk_is;
  setting = c.requires.setting_is ∙ sym c.worker.invariant.pass.setting_is;
}
