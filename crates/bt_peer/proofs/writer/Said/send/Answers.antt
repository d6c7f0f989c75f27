use Rattle.std.proofs.Common.{◌≡◌, arith}
use Rattle.std.proofs.lemmas.Grind.{common_steps}
use Rattle.bt_wire.specs.Messages.{spelling}
use Rattle.bt_peer.proofs.writer.Said.send.Goals as goal

pub returns-clause-ok : goal.returns-clause-ok
returns-clause-ok g c =
    let said : c.deref.result.now ≡ spelling c.args.message.now = grind (arith, common_steps) in
    rw said at c.write.ensures.ok
