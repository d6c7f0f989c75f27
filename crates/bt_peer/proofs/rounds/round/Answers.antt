use Rattle.std.proofs.Common.{arith}
use Rattle.std.proofs.lemmas.Grind.{common_steps}
use Rattle.bt_peer.specs.Serial.{stream_of}
use Rattle.bt_peer.proofs.EachStream.{TookTurns-join, progress_on}
use Rattle.bt_peer.proofs.rounds.round.Goals as goal

pub loop-i-preserved : goal.loop-i-preserved
loop-i-preserved g c =
    let before = c.loop-i.invariant in
    let turn = c.turn_of-turns.ensures in
    record {
      took = TookTurns-join (stream_of g.R.Source g.W.Sink) _ _ _ _ _ _ _ _ _ before.took turn.took;
      progress = progress_on c.turn_of-turns.result c.loop-i.turns _ _ c.loop-i.seats _ before.progress turn.falls turn.same turn.ended;
    }

pub returns-clause-ended : goal.returns-clause-ended
returns-clause-ended g c = grind (arith, common_steps)
