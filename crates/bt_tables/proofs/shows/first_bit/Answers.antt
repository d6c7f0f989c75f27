use Rattle.std.proofs.Common.{arith, div-add-mod', ◌%◌, ◌*◌, ◌^◌, ℕ, subst}
use Rattle.std.specs.Int.Count.{count_leading_zeros}
use Rattle.bt_meta.specs.WireBits.{IsFirstBit, wire_bit}
use Rattle.bt_meta.proofs.Searched.{finds_before, first_of_rest, leading, none_of_rest}
use Rattle.bt_tables.specs.Stripes.{stripe}
use Rattle.bt_tables.proofs.shows.first_bit.Goals as goal

pub returns-then-rest-ne0 : goal.returns-then-rest-ne0
returns-then-rest-ne0 c =
    let rest = c.byte.result * 2 ^ (c.args.place % 8) % 256 in
    let first = leading rest (omega (arith, c.if-rest-ne0.true)) (omega arith) in
    let here = subst (λ (byte : ℕ). IsFirstBit (byte * 2 ^ (c.args.place % 8) % 256) (count_leading_zeros 8 rest)) c.byte.ensures first in
    first_of_rest (stripe c.args.stripes.now c.args.row) c.args.place _ here

pub returns : goal.returns
returns c =
    let bytes = stripe c.args.stripes.now c.args.row in
    let parts = div-add-mod' c.args.place 8 in
    finds_before (wire_bit bytes) c.args.place _ c.first_bit_behind.result (omega arith)
    (none_of_rest bytes c.args.place (rw c.byte.ensures at c.if-rest-ne0.false)) c.first_bit_behind.ensures
