use Rattle.std.proofs.Common.{◌∙◌, ap, length}
use Rattle.bt_tables.proofs.FloorSteps.{no_floors}
use Rattle.bt_tables.proofs.Tabled.{length_table}
use Rattle.bt_tables.proofs.tables.Tables.new.Goals as goal

pub invariant_of-result : goal.invariant_of-result
invariant_of-result c =
    let long = ap length c.in_ok-new.ensures ∙ length_table c.args.workers _ in
    rw c.in_ok-new-3.ensures (no_floors c.args.workers _ _ long)
