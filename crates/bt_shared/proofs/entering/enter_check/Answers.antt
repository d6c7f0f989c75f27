use Rattle.std.proofs.Common.{◌≡◌, Bool, true, subst, rules}
use Rattle.bt_history.proofs.Allowed.{allowed_answers}
use Rattle.bt_picker.specs.Checks.{SettlesIf, settling, waits}
use Rattle.bt_shared.proofs.entering.enter_check.Goals as goal

pub returns-clause-fits : goal.returns-clause-fits
returns-clause-fits c =
    let old = c.args.desk.now in
    let reply = c.in_ok-reply.reply in
    let waiting : waits old.setting old.history c.args.piece ≡ true = search rules in
    let gains = subst (λ (b : Bool). SettlesIf b old c.settle_now-made-2.new.self c.args.worker c.args.piece reply) waiting c.in_ok-reply.ensures.ok
    in
    allowed_answers old.setting old.history (settling old.setting old.history c.args.worker c.args.piece reply) gains.allowed
