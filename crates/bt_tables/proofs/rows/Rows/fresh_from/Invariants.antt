use Rattle.bt_tables.specs.Floors.{NoneFresh}
use Rattle.bt_tables.proofs.rows.Rows.fresh_from.Given as goal

abbrev pub invariant-loop-piece : goal.invariant-loop-piece
invariant-loop-piece l = NoneFresh l.from l.self → NoneFresh l.piece l.self
