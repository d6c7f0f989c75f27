use Rattle.std.proofs.Common.{arith, map}
use Rattle.std.proofs.lemmas.Grind.{common_steps}
use Rattle.std.proofs.Math.ListN.{length-map}
use Rattle.bt_text.proofs.Counts.{line_of_fields-short}
use Rattle.bt_text.proofs.script.line.Line.parse.Goals as goal

pub returns-in_default : goal.returns-in_default
returns-in_default c =
    let texts = map (λ x. x.now) c.in_ok-fields.fields.items in
    rw (← c.in_ok-fields.ensures) (line_of_fields-short texts (simp length-map (omega arith)))

pub returns-in_err-read_command : goal.returns-in_err-read_command
returns-in_err-read_command c = grind (arith, common_steps)

pub returns : goal.returns
returns c = grind (arith, common_steps)
