use Rattle.std.proofs.Common.{refl}
use Rattle.bt_bencode.proofs.Digits.{passes, digit_below}
use Rattle.bt_bencode.proofs.scalar.number.Goals as goal

pub returns-then-number-value : goal.returns-then-number-value
returns-then-number-value c =
    let digit = c.requires c.loop-digit.digit-index 0 c.loop-digit-test.true in
    rw (passes c.args.run.now c.loop-digit.digit-index c.loop-digit.number c.loop-digit-test.true c.requires c.loop-digit.invariant
    c.if-number-value.true (digit_below _ digit)) refl
