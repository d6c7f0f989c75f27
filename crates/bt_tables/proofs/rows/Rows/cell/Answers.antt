use Rattle.std.proofs.Common.{arith}
use Rattle.bt_tables.proofs.Rowed.{place_within, read_cell}
use Rattle.bt_tables.proofs.rows.Rows.cell.Goals as goal

pub index-requires : goal.index-requires
index-requires c =
    let o = c.self.inside in
    let within = place_within o.width o.counts.items o.cells.items _ c.args.piece c.args.index c.self.view_is c.requires.piece c.requires.index in
    omega (arith, within, o.cells.ok.0)

pub returns : goal.returns
returns c =
    let o = c.self.inside in
    read_cell o.width o.counts.items o.cells.items _ c.args.piece c.args.index c.index.result.now c.self.view_is c.requires.piece c.requires.index
    c.index.ensures
