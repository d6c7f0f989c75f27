use Rattle.std.proofs.Common.{◌∙◌, ap, arith, refl, ◌&&◌, ◌||◌, ◌==◌}
use Rattle.std.specs.List.{filter}
use Rattle.bt_history.specs.Peers.{has_place}
use Rattle.bt_tables.specs.Showing.{Dealings}
use Rattle.bt_tables.specs.Tables.{delay_row}
use Rattle.bt_tables.proofs.Showing.{peers_delayed, showing_set, worker_within}
use Rattle.bt_tables.proofs.peers.Peers.delay.Goals as goal

pub index_mut-requires : goal.index_mut-requires
index_mut-requires c =
    let o = c.self.inside in
    let lw = worker_within o.rows.items o.shows _ c.args.worker c.self.view_is c.self.invariant.each c.requires in
    omega (arith, o.rows.ok.0, lw)

pub invariant_of-self : goal.invariant_of-self
invariant_of-self c =
    let o = c.self.inside in
    let lw = worker_within o.rows.items o.shows _ c.args.worker c.self.view_is c.self.invariant.each c.requires in
    peers_delayed o.rows.items o.shows o.delayed o.apart c.args.worker c.index_mut.result.now c.delay.new.self c.self.invariant lw
    c.index_mut.ensures.value (λ none. ap (λ (r : Dealings). r.alone) c.delay.ensures ∙ none)

pub returns : goal.returns
returns c =
    let o = c.self.inside in
    let lw = worker_within o.rows.items o.shows _ c.args.worker c.self.view_is c.self.invariant.each c.requires in
    let now : Dealings → Dealings = λ r. record r {
      overdue = filter (λ b. ((c.args.piece == b.piece) && (c.args.begin == b.begin)) || has_place b r.overdue) r.asked;
    } in
    rw (← c.self.view_is, c.delay.ensures)
    (showing_set o.rows.items o.shows c.args.worker c.index_mut.result.now now (delay_row c.args.piece c.args.begin)
    c.self.invariant.each lw c.index_mut.ensures.value
    (λ flags r. refl))
