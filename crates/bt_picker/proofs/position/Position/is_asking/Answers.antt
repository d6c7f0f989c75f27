use Rattle.std.proofs.Common.{sym, subst}
use Rattle.bt_history.specs.Legal.{Permits}
use Rattle.bt_history.specs.Next.{RequestOf}
use Rattle.bt_picker.specs.Search.{test_by}
use Rattle.bt_picker.proofs.Allowing.{request_yes}
use Rattle.bt_picker.proofs.position.Position.is_asking.Goals as goal

pub returns-in-Some-clause-yes : goal.returns-in-Some-clause-yes
returns-in-Some-clause-yes c =
    let d = c.args.self.now in
    let test = test_by d.setting d.history c.args.worker c.args.choice.rule in
    let found = c.in-Some.ensures.some in
    λ passes. subst (Permits d.setting.torrent (RequestOf test)) (sym c.in-Request.is)
    (request_yes d.setting.torrent test c.in-Request.block c.in-Some.index c.may_ask.result found.0 found.1 found.2 c.may_ask.ensures passes)
