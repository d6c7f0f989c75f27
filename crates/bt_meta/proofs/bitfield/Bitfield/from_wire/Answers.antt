use Rattle.std.proofs.Common.{arith}
use Rattle.bt_meta.proofs.Payloads.{length_flags, no_spare, spells}
use Rattle.bt_meta.proofs.bitfield.Bitfield.from_wire.Goals as goal

pub returns-in-Ok-clause-ok : goal.returns-in-Ok-clause-ok
returns-in-Ok-clause-ok c =
    let payload = no_spare c.args.count c.args.bytes.now (omega (arith, c.ranges.count.fits))
    (omega (arith, c.if-bytes-bytes_for.false, c.bytes_for.ensures))
    c.if-has_spare_bit.ensures.1 in
    (length_flags c.args.count _, rw (c.in-Ok.ensures.items_if_clones_equal (λ x y same. same)) (spells c.args.count c.args.bytes.now payload))
