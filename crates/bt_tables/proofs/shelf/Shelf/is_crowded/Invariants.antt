use Rattle.bt_tables.specs.Standings.{NoneCrowded}
use Rattle.bt_tables.proofs.shelf.Shelf.is_crowded.Given as goal

abbrev pub invariant-loop-slot : goal.invariant-loop-slot
invariant-loop-slot l = NoneCrowded l.slot l.self.groups
