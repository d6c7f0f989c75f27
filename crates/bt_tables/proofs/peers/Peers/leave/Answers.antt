use Rattle.std.proofs.Common.{◌∙◌, arith, refl, List, Bool, [], false, length, replicate, ap}
use Rattle.bt_tables.specs.Showing.{Dealings}
use Rattle.bt_tables.specs.Tables.{leave_row}
use Rattle.bt_tables.proofs.Showing.{peers_kept, showing_edit, worker_within}
use Rattle.bt_tables.proofs.Tabled.{length_edit}
use Rattle.bt_tables.proofs.peers.Peers.leave.Goals as goal

pub index_mut-requires : goal.index_mut-requires
index_mut-requires c =
    let o = c.self.inside in
    let lw = worker_within o.rows.items o.shows _ c.args.worker c.self.view_is c.self.invariant.each c.requires in
    omega (arith, o.rows.ok.0, lw)

pub clear-requires : goal.clear-requires
clear-requires c =
    let o = c.self.inside in
    let lw = worker_within o.rows.items o.shows _ c.args.worker c.self.view_is c.self.invariant.each c.requires in
    omega (arith, lw, c.self.invariant.each)

pub invariant_of-self : goal.invariant_of-self
invariant_of-self c =
    let o = c.self.inside in
    let lw = worker_within o.rows.items o.shows _ c.args.worker c.self.view_is c.self.invariant.each c.requires in
    rw c.clear.ensures
    (peers_kept o.rows.items o.shows _ o.delayed o.apart c.args.worker c.index_mut.result.now c.leave.new.self c.self.invariant
    (length_edit o.shows c.args.worker _) lw c.index_mut.ensures.value
    (λ none. ap (λ (r : Dealings). r.overdue) c.leave.ensures)
    (λ none. ap (λ (r : Dealings). r.alone) c.leave.ensures ∙ none))

pub returns : goal.returns
returns c =
    let o = c.self.inside in
    let lw = worker_within o.rows.items o.shows _ c.args.worker c.self.view_is c.self.invariant.each c.requires in
    let now : Dealings → Dealings = λ r. record r { joined = false; is_open = false; asked = []; overdue = []; due = [] } in
    let flags : List Bool → List Bool = λ flags. replicate (length flags) false in
    rw (← c.self.view_is, c.clear.ensures, c.leave.ensures)
    (showing_edit o.rows.items o.shows c.args.worker c.index_mut.result.now now flags leave_row c.self.invariant.each lw c.index_mut.ensures.value
    (λ flags r. refl))
