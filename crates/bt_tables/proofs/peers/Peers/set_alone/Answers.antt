use Rattle.std.proofs.Common.{◌∙◌, ap, arith, refl}
use Rattle.bt_tables.specs.Showing.{Dealings}
use Rattle.bt_tables.specs.Tables.{alone_row}
use Rattle.bt_tables.proofs.Showing.{peers_parted, showing_set, worker_within}
use Rattle.bt_tables.proofs.peers.Peers.set_alone.Goals as goal

pub index_mut-requires : goal.index_mut-requires
index_mut-requires c =
    let o = c.self.inside in
    let lw = worker_within o.rows.items o.shows _ c.args.worker c.self.view_is c.self.invariant.each c.requires in
    omega (arith, o.rows.ok.0, lw)

pub invariant_of-self : goal.invariant_of-self
invariant_of-self c =
    let o = c.self.inside in
    let lw = worker_within o.rows.items o.shows _ c.args.worker c.self.view_is c.self.invariant.each c.requires in
    peers_parted o.rows.items o.shows o.delayed o.apart c.args.worker c.index_mut.result.now c.set_alone.new.self c.self.invariant lw
    c.index_mut.ensures.value (λ none. ap (λ (r : Dealings). r.overdue) c.set_alone.ensures ∙ none)

pub returns : goal.returns
returns c =
    let o = c.self.inside in
    let lw = worker_within o.rows.items o.shows _ c.args.worker c.self.view_is c.self.invariant.each c.requires in
    let now : Dealings → Dealings = λ r. record r { alone = c.args.alone } in
    rw (← c.self.view_is, c.set_alone.ensures)
    (showing_set o.rows.items o.shows c.args.worker c.index_mut.result.now now (alone_row c.args.alone) c.self.invariant.each lw
    c.index_mut.ensures.value (λ flags r. refl))
