use Rattle.std.proofs.Common.{ap, arith, length}
use Rattle.bt_tables.proofs.Rowed.{rows_length}
use Rattle.bt_tables.proofs.rows.Rows.len.Goals as goal

pub returns : goal.returns
returns c =
    let o = c.self.inside in
    omega (arith, c.len.ensures, o.counts.ok.0, ap length c.self.view_is, rows_length o.width o.counts.items o.cells.items)
