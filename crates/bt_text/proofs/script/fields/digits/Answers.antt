use Rattle.std.proofs.Common.{◌++◌, ◌∷◌, [], ℕ, List, slice_index_or, ◌∙◌, ap, sym}
use Rattle.bt_text.specs.Fields.{digit_value}
use Rattle.bt_text.proofs.Digits.{digits_in-other, digits_more, values_more}
use Rattle.bt_text.proofs.script.fields.digits.Goals as goal

pub returns-then-not-is_ascii_digit : goal.returns-then-not-is_ascii_digit
returns-then-not-is_ascii_digit c =
    digits_in-other c.args.text.now c.loop-digit.digit-index c.loop-digit-test.true
    (sym c.is_ascii_digit.ensures.value ∙ c.if-not-is_ascii_digit.true)

pub loop-digit-preserved : goal.loop-digit-preserved
loop-digit-preserved c = (
  c.in_ok-push.ensures.items
      ∙ (ap (λ (xs : List ℕ). xs ++ digit_value (slice_index_or c.args.text.now c.loop-digit.digit-index 0) ∷ []) c.loop-digit.invariant.0
      ∙ sym (values_more c.args.text.now c.loop-digit.digit-index c.loop-digit-test.true)),
  digits_more c.args.text.now c.loop-digit.digit-index c.loop-digit-test.true c.loop-digit.invariant.1
      (sym c.is_ascii_digit.ensures.value ∙ c.if-not-is_ascii_digit.false),
)
