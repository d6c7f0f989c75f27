use Rattle.std.proofs.Common.{arith}
use Rattle.std.proofs.lemmas.Grind.{common_steps}
use Rattle.bt_peer.proofs.rounds.open_desk.Goals as goal

pub returns-clause-chosen : goal.returns-clause-chosen
returns-clause-chosen c = grind (arith, common_steps)
