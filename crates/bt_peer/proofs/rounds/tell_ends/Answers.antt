use Rattle.std.proofs.Common.{arith}
use Rattle.std.proofs.lemmas.Grind.{common_steps}
use Rattle.bt_peer.proofs.rounds.tell_ends.Goals as goal

pub loop-seat-preserved : goal.loop-seat-preserved
loop-seat-preserved c = grind (arith, common_steps)

pub returns : goal.returns
returns c = grind (arith, common_steps)
