use Rattle.std.proofs.Common.{arith, ap, length}
use Rattle.bt_tables.proofs.Apart.{length_whole}
use Rattle.bt_tables.proofs.pieces.Pieces.len.Goals as goal

pub returns-clause-is : goal.returns-clause-is
returns-clause-is c =
    let o = c.self.inside in
    omega (arith, c.len.ensures, ap length c.self.view_is, length_whole o.rows o.shown_by.items c.self.invariant.1)

pub returns-clause-short : goal.returns-clause-short
returns-clause-short c =
    let o = c.self.inside in
    omega (arith, c.len.ensures, c.self.invariant.0.short, length_whole o.rows o.shown_by.items c.self.invariant.1)
