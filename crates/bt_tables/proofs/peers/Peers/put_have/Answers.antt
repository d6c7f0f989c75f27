use Rattle.std.proofs.Common.{ap, arith, refl, ◌∙◌, List, Bool, true, length, set}
use Rattle.bt_tables.specs.Showing.{Dealings}
use Rattle.bt_tables.specs.Tables.{have_row}
use Rattle.bt_tables.proofs.Showing.{flags_of_row, peers_kept, showing_edit, worker_within}
use Rattle.bt_tables.proofs.Tabled.{length_edit}
use Rattle.bt_tables.proofs.peers.Peers.put_have.Goals as goal

pub index_mut-requires : goal.index_mut-requires
index_mut-requires c =
    let o = c.self.inside in
    let lw = worker_within o.rows.items o.shows _ c.args.worker c.self.view_is c.self.invariant.each c.requires.worker in
    omega (arith, o.rows.ok.0, lw)

pub set-requires-clause-worker : goal.set-requires-clause-worker
set-requires-clause-worker c =
    let o = c.self.inside in
    let lw = worker_within o.rows.items o.shows _ c.args.worker c.self.view_is c.self.invariant.each c.requires.worker in
    omega (arith, lw, c.self.invariant.each)

pub set-requires-clause-piece : goal.set-requires-clause-piece
set-requires-clause-piece c =
    let o = c.self.inside in
    let lw = worker_within o.rows.items o.shows _ c.args.worker c.self.view_is c.self.invariant.each c.requires.worker in
    let lp = rw (← c.self.view_is) at c.requires.piece in
    omega (arith, lp, ap (λ (flags : List Bool). length flags) (flags_of_row o.rows.items o.shows c.args.worker c.self.invariant.each lw))

pub invariant_of-self : goal.invariant_of-self
invariant_of-self c =
    let o = c.self.inside in
    let lw = worker_within o.rows.items o.shows _ c.args.worker c.self.view_is c.self.invariant.each c.requires.worker in
    rw c.set.ensures
    (peers_kept o.rows.items o.shows _ o.delayed o.apart c.args.worker c.index_mut.result.now c.note.new.self c.self.invariant
    (length_edit o.shows c.args.worker _) lw c.index_mut.ensures.value
    (λ none. ap (λ (r : Dealings). r.overdue) c.note.ensures ∙ none)
    (λ none. ap (λ (r : Dealings). r.alone) c.note.ensures ∙ none))

pub returns : goal.returns
returns c =
    let o = c.self.inside in
    let lw = worker_within o.rows.items o.shows _ c.args.worker c.self.view_is c.self.invariant.each c.requires.worker in
    let now : Dealings → Dealings = λ r. record r { late = true } in
    let flags : List Bool → List Bool = λ flags. set flags c.args.piece true in
    rw (← c.self.view_is, c.set.ensures, c.note.ensures)
    (showing_edit o.rows.items o.shows c.args.worker c.index_mut.result.now now flags (have_row c.args.piece)
    c.self.invariant.each lw c.index_mut.ensures.value
    (λ flags r. refl))
