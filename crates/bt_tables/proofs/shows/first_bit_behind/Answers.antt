use Rattle.std.proofs.Common.{rules, arith, ◌+◌, ◌*◌, Some, ℕ, subst}
use Rattle.std.specs.Int.Count.{count_leading_zeros}
use Rattle.bt_meta.specs.WireBits.{IsFirstBit, wire_bit}
use Rattle.bt_meta.proofs.Searched.{finds_before, first_of_byte, leading}
use Rattle.bt_tables.specs.Stripes.{stripe}
use Rattle.bt_tables.proofs.shows.first_bit_behind.Goals as goal

pub returns-then-byte-ne0 : goal.returns-then-byte-ne0
returns-then-byte-ne0 c =
    let bytes = stripe c.args.stripes.now c.args.row in
    let first = leading c.byte-byte.result (omega (arith, c.if-byte-ne0.true)) (omega (arith, c.byte-byte.type_inv)) in
    let here = subst (λ (byte : ℕ). IsFirstBit byte (count_leading_zeros 8 c.byte-byte.result)) c.byte-byte.ensures first in
    finds_before (wire_bit bytes) (8 * (c.args.index + 1)) (8 * c.loop-next.next) (Some _) (omega (arith, c.loop-next.auto.next))
    c.loop-next.invariant (first_of_byte bytes c.loop-next.next _ here)

pub loop-next-init : goal.loop-next-init
loop-next-init c = search rules fits 100
