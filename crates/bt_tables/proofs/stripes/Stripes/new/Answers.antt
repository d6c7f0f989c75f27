use Rattle.std.proofs.Common.{arith, ◌^◌, ◌-◌}
use Rattle.std.proofs.lemmas.List.{length-replicate}
use Rattle.std.proofs.lemmas.Nat.{mul-le}
use Rattle.bt_tables.proofs.Striped.{striped_zeros}
use Rattle.bt_tables.proofs.stripes.Stripes.new.Goals as goal

pub overflow_mul-rows : goal.overflow_mul-rows
overflow_mul-rows c =
    let most = mul-le c.args.rows c.args.width (2 ^ 32 - 1) (2 ^ 32 - 1) (omega (arith, c.ranges.rows.fits)) (omega (arith, c.requires)) in
    omega (arith, most)

pub invariant_of-result : goal.invariant_of-result
invariant_of-result c = rw c.in_ok-vec.ensures.items_if_clones_equal (length-replicate _ 0)

pub returns : goal.returns
returns c = rw c.in_ok-vec.ensures.items_if_clones_equal (striped_zeros c.args.rows c.args.width)
