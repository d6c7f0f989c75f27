use Rattle.bt_shared.proofs.Turns.{told_gains}
use Rattle.bt_shared.proofs.telling.receive.Goals as goal

pub returns-clause-gains : goal.returns-clause-gains
returns-clause-gains c = told_gains _ _ _ c.requires.worker c.received-reply.ensures.tells
