use Rattle.std.proofs.Common.{◌≡◌, ◌==◌, ◌&&◌, drop, false}
use Rattle.std.specs.List.{list_any}
use Rattle.bt_meta.specs.declared.block.Block.{Block}
use Rattle.bt_tables.proofs.line.place_from_end.Given as goal

abbrev pub invariant-loop-index : goal.invariant-loop-index
invariant-loop-index l = list_any (λ (b : Block). (l.piece == b.piece) && (l.begin == b.begin)) (drop l.index l.line) ≡ false
