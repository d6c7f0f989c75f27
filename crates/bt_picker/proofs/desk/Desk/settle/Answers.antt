use Rattle.bt_picker.specs.Positions.{Gains}
use Rattle.std.proofs.Common.{subst}
use Rattle.bt_picker.proofs.Checking.{if_ok, settling_is}
use Rattle.bt_picker.proofs.Lasting.{due_now}
use Rattle.bt_picker.proofs.desk.Desk.settle.Goals as goal

pub returns-clause-ok : goal.returns-clause-ok
returns-clause-ok c =
    let d = c.args.self.now in
    let v = c.args.verdict.value in
    if_ok c.settle_since.result
    (λ reply gained. subst (Gains d c.settle_since.new.self)
    (settling_is d.setting d.history c.args.worker v.piece v reply c.requires.due.1 c.requires.due.2) gained)
    c.settle_since.ensures.ok

pub settle_since-requires-clause-due : goal.settle_since-requires-clause-due
settle_since-requires-clause-due c =
    due_now c.args.self.now c.failures-failures.result c.args.verdict.value c.failures-failures.ensures c.requires.due
