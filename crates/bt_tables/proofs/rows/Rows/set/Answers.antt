use Rattle.std.proofs.Common.{ap, arith, length}
use Rattle.bt_tables.proofs.Rowed.{counts_put, kept_put, place_within, rows_length, rows_put}
use Rattle.bt_tables.proofs.rows.Rows.set.Goals as goal

pub index_mut-requires : goal.index_mut-requires
index_mut-requires c =
    let o = c.self.inside in
    let within = place_within o.width o.counts.items o.cells.items _ c.args.piece c.args.index c.self.view_is c.requires.piece c.requires.index in
    omega (arith, within, o.cells.ok.0)

pub index_mut-requires-2 : goal.index_mut-requires-2
index_mut-requires-2 c =
    let o = c.self.inside in
    omega (arith, c.requires.piece, o.counts.ok.0, ap length c.self.view_is, rows_length o.width o.counts.items o.cells.items)

pub invariant_of-self : goal.invariant_of-self
invariant_of-self c =
    let o = c.self.inside in
    kept_put o.width o.counts.items o.cells.items _ c.args.piece c.args.index c.args.counts c.args.cell c.self.view_is c.requires.piece
    c.requires.index c.self.invariant c.requires.keeps

pub returns-clause-rows : goal.returns-clause-rows
returns-clause-rows c =
    let o = c.self.inside in
    rows_put o.width o.counts.items o.cells.items _ c.args.piece c.args.index c.args.counts c.args.cell c.self.view_is c.requires.piece
    c.requires.index c.requires.had c.requires.level

pub returns-clause-counts : goal.returns-clause-counts
returns-clause-counts c =
    let o = c.self.inside in
    let rows = rows_put o.width o.counts.items o.cells.items _ c.args.piece c.args.index c.args.counts c.args.cell c.self.view_is c.requires.piece
    c.requires.index c.requires.had c.requires.level in
    rw rows
    (counts_put o.width o.counts.items o.cells.items _ c.args.piece c.args.index c.args.counts c.args.cell c.self.view_is c.requires.piece
    c.requires.index c.requires.had c.requires.level c.requires.keeps)
