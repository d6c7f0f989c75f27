use Rattle.std.proofs.Common.{arith}
use Rattle.std.proofs.lemmas.Grind.{common_steps}
use Rattle.bt_peer.specs.Serial.{stream_of}
use Rattle.bt_peer.proofs.EachStream.{TookTurns-join, TookTurns-refl}
use Rattle.bt_peer.proofs.rounds.all_rounds.Goals as goal

pub rounds-init : goal.rounds-init
rounds-init g c = TookTurns-refl _ _ _ _ c.requires

pub rounds-preserved : goal.rounds-preserved
rounds-preserved g c = TookTurns-join (stream_of g.R.Source g.W.Sink) _ _ _ _ _ _ _ _ _ c.rounds.invariant c.round.ensures.took

pub returns-clause-took : goal.returns-clause-took
returns-clause-took g c = TookTurns-join (stream_of g.R.Source g.W.Sink) _ _ _ _ _ _ _ _ _ c.rounds.invariant c.round.ensures.took

pub returns-clause-ended : goal.returns-clause-ended
returns-clause-ended g c = grind (arith, common_steps)
