use Rattle.std.proofs.Common.{arith}
use Rattle.std.proofs.lemmas.Grind.{common_steps}
use Rattle.bt_peer.specs.SessionTerms.{terms_of}
use Rattle.bt_peer.proofs.rounds.new_seats.Goals as goal
use Rattle.bt_peer.proofs.EachStream.{AreNew-push}

pub loop-worker-preserved : goal.loop-worker-preserved
loop-worker-preserved c = record {
  count = grind (arith, common_steps);
  new = AreNew-push (terms_of c.args.torrent.now.value c.args.depth) c.args.seed c.loop-worker.seats.items c.push.new.self.items _
      c.loop-worker.worker c.loop-worker.invariant.count
      c.in_ok-push.ensures.items
      c.loop-worker.invariant.new c.in_ok-new_seat.ensures;
}
