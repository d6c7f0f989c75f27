use Rattle.std.proofs.Common.{arith, div-add-mod'}
use Rattle.bt_meta.specs.WireBits.{wire_bit}
use Rattle.bt_meta.proofs.Searched.{finds_before, first_of_rest, none_of_rest}
use Rattle.bt_meta.proofs.bitfield.first_bit.Goals as goal

pub returns-then-rest-ne0 : goal.returns-then-rest-ne0
returns-then-rest-ne0 c = first_of_rest c.args.bytes.now c.args.place c.leading_bit.result c.leading_bit.ensures

pub returns : goal.returns
returns c =
    let parts = div-add-mod' c.args.place 8 in
    finds_before (wire_bit c.args.bytes.now) c.args.place _ c.first_bit_behind.result (omega arith)
    (none_of_rest c.args.bytes.now c.args.place c.if-rest-ne0.false) c.first_bit_behind.ensures
