use Rattle.std.proofs.Common.{arith}
use Rattle.std.proofs.lemmas.Grind.{common_steps}
use Rattle.bt_picker.proofs.refuse.exceeds_levels.Goals as goal

pub returns-then-level-gt-MOST_LEVEL : goal.returns-then-level-gt-MOST_LEVEL
returns-then-level-gt-MOST_LEVEL c = grind (arith, common_steps)

pub loop-level-preserved : goal.loop-level-preserved
loop-level-preserved c = grind (arith, common_steps)

pub returns : goal.returns
returns c = grind (arith, common_steps)
