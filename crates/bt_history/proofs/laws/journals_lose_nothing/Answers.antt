use Rattle.bt_history.proofs.Losing as losing
use Rattle.bt_history.proofs.laws.journals_lose_nothing.Goals as goal

pub returns : goal.returns
returns c = losing.journals_lose_nothing c.args.journal.now
