use Rattle.std.proofs.Common.{map}
use Rattle.bt_text.specs.Scripts.{AreBlank}
use Rattle.bt_text.proofs.script.first_line.Given as goal

abbrev pub invariant-loop-index : goal.invariant-loop-index
invariant-loop-index l = AreBlank (map (λ x. x.now) l.lines) l.from l.index
