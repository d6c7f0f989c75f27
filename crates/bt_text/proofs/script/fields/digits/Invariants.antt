use Rattle.std.proofs.Common.{◌≡◌, map, take, true}
use Rattle.std.specs.Str.{all_ascii_digits}
use Rattle.bt_text.specs.Fields.{digit_value}
use Rattle.bt_text.proofs.script.fields.digits.Given as goal

abbrev pub invariant-loop-digit : goal.invariant-loop-digit
invariant-loop-digit l =
    (l.values.items ≡ map digit_value (take l.digit-index l.text)) × (all_ascii_digits (take l.digit-index l.text) ≡ true)
