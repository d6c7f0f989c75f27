use Rattle.std.proofs.Common.{arith, map}
use Rattle.std.proofs.lemmas.Grind.{common_steps}
use Rattle.std.proofs.Math.ListN.{length-map}
use Rattle.std.proofs.lemmas.Bool.Decides.{nat_tests}
use Rattle.bt_text.proofs.Counts.{command_in-many}
use Rattle.bt_text.proofs.script.line.read_command.Goals as goal

pub returns-in_default : goal.returns-in_default
returns-in_default c =
    let texts = map (λ x. x.now) c.args.arguments.now in
    command_in-many c.args.word.now texts (simp length-map (grind (arith, nat_tests)))

pub returns-in-empty : goal.returns-in-empty
returns-in-empty c = grind (arith, common_steps)

pub returns-in-len1 : goal.returns-in-len1
returns-in-len1 c = grind (arith, common_steps)

pub returns-in-len2 : goal.returns-in-len2
returns-in-len2 c = grind (arith, common_steps)

pub returns-in-len3 : goal.returns-in-len3
returns-in-len3 c = grind (arith, common_steps)
