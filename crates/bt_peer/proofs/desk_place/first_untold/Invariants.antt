use Rattle.bt_peer.specs.News.{FindsUntold}
use Rattle.bt_peer.proofs.desk_place.first_untold.Given as goal

abbrev pub invariant-loop-i : goal.invariant-loop-i
invariant-loop-i l = FindsUntold l.told l.pieces l.i l.least
