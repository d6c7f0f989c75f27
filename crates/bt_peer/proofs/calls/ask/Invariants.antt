use Rattle.bt_peer.specs.Conduct.{Conducts}
use Rattle.bt_peer.specs.Outlets.{outlet}
use Rattle.bt_peer.proofs.Asking.{Asking}
use Rattle.bt_peer.proofs.calls.ask.Given as goal

abbrev pub invariant-next : goal.invariant-next
invariant-next g l = record {
  asking : Asking (outlet g.P.Place g.W.Sink l.fn.place l.fn.said) (outlet g.P.Place g.W.Sink l.place l.said) l.counter;
  conduct : Conducts g.P.Place.settles (g.N.Rng.stream l.fn.rng) (g.P.Place.past l.fn.place).calls (g.P.Place.past l.place).calls
      (g.N.Rng.stream l.rng);
}
