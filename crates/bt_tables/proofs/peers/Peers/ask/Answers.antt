use Rattle.std.proofs.Common.{arith, refl, ◌∙◌, [], ◌++◌, ◌∷◌, ap}
use Rattle.bt_tables.specs.Showing.{Dealings}
use Rattle.bt_tables.specs.Tables.{request_row}
use Rattle.bt_tables.proofs.Showing.{peers_kept, row_of, showing_set, worker_within}
use Rattle.bt_tables.proofs.peers.Peers.ask.Goals as goal

pub index_mut-requires : goal.index_mut-requires
index_mut-requires c =
    let o = c.self.inside in
    let lw = worker_within o.rows.items o.shows _ c.args.worker c.self.view_is c.self.invariant.each c.requires.worker in
    omega (arith, o.rows.ok.0, lw)

pub ask-requires : goal.ask-requires
ask-requires c =
    let o = c.self.inside in
    let lw = worker_within o.rows.items o.shows _ c.args.worker c.self.view_is c.self.invariant.each c.requires.worker in
    let room = rw (← c.self.view_is) at c.requires.room in
    let new = rw (← c.self.view_is) at c.requires.new in
    let row = row_of o.rows.items o.shows c.args.worker c.index_mut.result.now c.self.invariant.each lw c.index_mut.ensures.value in
    rw row (record { room = room; new = new })

pub invariant_of-self : goal.invariant_of-self
invariant_of-self c =
    let o = c.self.inside in
    let lw = worker_within o.rows.items o.shows _ c.args.worker c.self.view_is c.self.invariant.each c.requires.worker in
    peers_kept o.rows.items o.shows o.shows o.delayed o.apart c.args.worker c.index_mut.result.now c.ask.new.self c.self.invariant
    refl lw c.index_mut.ensures.value
    (λ none. ap (λ (r : Dealings). r.overdue) c.ask.ensures ∙ none)
    (λ none. ap (λ (r : Dealings). r.alone) c.ask.ensures ∙ none)

pub returns : goal.returns
returns c =
    let o = c.self.inside in
    let lw = worker_within o.rows.items o.shows _ c.args.worker c.self.view_is c.self.invariant.each c.requires.worker in
    let now : Dealings → Dealings = λ r. record r { asked = r.asked ++ c.args.block ∷ [] } in
    rw (← c.self.view_is, c.ask.ensures)
    (showing_set o.rows.items o.shows c.args.worker c.index_mut.result.now now (request_row c.args.block)
    c.self.invariant.each lw c.index_mut.ensures.value
    (λ flags r. refl))
