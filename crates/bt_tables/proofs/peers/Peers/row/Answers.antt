use Rattle.std.proofs.Common.{arith}
use Rattle.bt_tables.proofs.Showing.{row_of, worker_within}
use Rattle.bt_tables.proofs.peers.Peers.row.Goals as goal

pub index-requires : goal.index-requires
index-requires c =
    let o = c.self.inside in
    let lw = worker_within o.rows.items o.shows _ c.args.worker c.self.view_is c.self.invariant.each c.requires in
    omega (arith, o.rows.ok.0, lw)

pub returns : goal.returns
returns c =
    let o = c.self.inside in
    let lw = worker_within o.rows.items o.shows _ c.args.worker c.self.view_is c.self.invariant.each c.requires in
    rw (← c.self.view_is) (row_of o.rows.items o.shows c.args.worker c.index.result.now c.self.invariant.each lw c.index.ensures)
