use Rattle.std.proofs.Common.{◌≡◌, length}
use Rattle.bt_peer.specs.Course.{AreNew}
use Rattle.bt_peer.specs.SessionTerms.{terms_of}
use Rattle.bt_peer.proofs.rounds.new_seats.Given as goal

abbrev pub invariant-loop-worker : goal.invariant-loop-worker
invariant-loop-worker l = record {
  count : length l.seats.items ≡ l.worker;
  new : AreNew (terms_of l.torrent.value l.depth) l.seed l.seats.items;
}
