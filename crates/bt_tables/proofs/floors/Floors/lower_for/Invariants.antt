use Rattle.bt_tables.specs.Floors.{AreLowered}
use Rattle.bt_tables.proofs.floors.Floors.lower_for.Given as goal

abbrev pub invariant-loop-worker : goal.invariant-loop-worker
invariant-loop-worker l = AreLowered l.initial.self l.self l.peers l.worker l.piece l.rank
