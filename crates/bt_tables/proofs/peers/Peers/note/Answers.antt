use Rattle.std.proofs.Common.{arith}
use Rattle.bt_tables.specs.Showing.{noted}
use Rattle.bt_tables.specs.Tables.{noted_row}
use Rattle.bt_tables.proofs.Showing.{noted_shown, peers_noted, showing_set, worker_within}
use Rattle.bt_tables.proofs.peers.Peers.note.Goals as goal

pub index_mut-requires : goal.index_mut-requires
index_mut-requires c =
    let o = c.self.inside in
    let lw = worker_within o.rows.items o.shows _ c.args.worker c.self.view_is c.self.invariant.each c.requires in
    omega (arith, o.rows.ok.0, lw)

pub invariant_of-self : goal.invariant_of-self
invariant_of-self c =
    let o = c.self.inside in
    let lw = worker_within o.rows.items o.shows _ c.args.worker c.self.view_is c.self.invariant.each c.requires in
    peers_noted o.rows.items o.shows o.delayed o.apart c.args.worker c.index_mut.result.now c.note.new.self c.args.dealing c.self.invariant lw
    c.index_mut.ensures.value c.note.ensures

pub returns : goal.returns
returns c =
    let o = c.self.inside in
    let lw = worker_within o.rows.items o.shows _ c.args.worker c.self.view_is c.self.invariant.each c.requires in
    rw (← c.self.view_is, c.note.ensures)
    (showing_set o.rows.items o.shows c.args.worker c.index_mut.result.now (noted c.args.dealing) (noted_row c.args.dealing)
    c.self.invariant.each lw c.index_mut.ensures.value (noted_shown c.args.dealing))
