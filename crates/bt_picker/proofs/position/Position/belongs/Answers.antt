use Rattle.std.proofs.Common.{◌∙◌, arith, sym}
use Rattle.bt_history.specs.Pieces.{is_own}
use Rattle.bt_history.proofs.Below.{any_found}
use Rattle.bt_picker.proofs.position.Position.belongs.Goals as goal

pub returns-then-is_own : goal.returns-then-is_own
returns-then-is_own c =
    let d = c.args.self.now in
    sym (any_found d.setting.workers (λ q. is_own d.setting d.history q c.args.piece) c.loop-worker.worker
    (omega (arith, c.loop-worker-test.true, c.workers-worker-end.ensures)) (sym c.is_own.ensures ∙ c.if-is_own.true))
