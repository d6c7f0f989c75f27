use Rattle.std.proofs.Common.{◌==◌, not, ap, arith, refl, ◌∙◌, List, Bool, false, true, length, set}
use Rattle.std.specs.List.{filter}
use Rattle.bt_tables.specs.Showing.{Dealings}
use Rattle.bt_tables.specs.Tables.{lack_row}
use Rattle.bt_tables.proofs.Showing.{flags_of_row, peers_kept, showing_edit, worker_within}
use Rattle.bt_tables.proofs.Tabled.{length_edit}
use Rattle.bt_tables.proofs.peers.Peers.lack.Goals as goal

pub index_mut-requires : goal.index_mut-requires
index_mut-requires c =
    let o = c.self.inside in
    let lw = worker_within o.rows.items o.shows _ c.args.worker c.self.view_is c.self.invariant.each c.requires.worker in
    omega (arith, o.rows.ok.0, lw)

pub unset-requires-clause-worker : goal.unset-requires-clause-worker
unset-requires-clause-worker c =
    let o = c.self.inside in
    let lw = worker_within o.rows.items o.shows _ c.args.worker c.self.view_is c.self.invariant.each c.requires.worker in
    omega (arith, lw, c.self.invariant.each)

pub unset-requires-clause-piece : goal.unset-requires-clause-piece
unset-requires-clause-piece c =
    let o = c.self.inside in
    let lw = worker_within o.rows.items o.shows _ c.args.worker c.self.view_is c.self.invariant.each c.requires.worker in
    let lp = rw (← c.self.view_is) at c.requires.piece in
    omega (arith, lp, ap (λ (flags : List Bool). length flags) (flags_of_row o.rows.items o.shows c.args.worker c.self.invariant.each lw))

pub invariant_of-self : goal.invariant_of-self
invariant_of-self c =
    let o = c.self.inside in
    let lw = worker_within o.rows.items o.shows _ c.args.worker c.self.view_is c.self.invariant.each c.requires.worker in
    rw c.unset.ensures
    (peers_kept o.rows.items o.shows _ o.delayed o.apart c.args.worker c.index_mut.result.now c.lack.new.self c.self.invariant
    (length_edit o.shows c.args.worker _) lw c.index_mut.ensures.value
    (λ none. ap (λ (r : Dealings). r.overdue) c.lack.ensures ∙ ap (filter (λ b. not (c.args.piece == b.piece))) none)
    (λ none. ap (λ (r : Dealings). r.alone) c.lack.ensures ∙ none))

pub returns : goal.returns
returns c =
    let o = c.self.inside in
    let lw = worker_within o.rows.items o.shows _ c.args.worker c.self.view_is c.self.invariant.each c.requires.worker in
    let now : Dealings → Dealings = λ r. record r {
      late = true;
      asked = filter (λ b. not (c.args.piece == b.piece)) r.asked;
      overdue = filter (λ b. not (c.args.piece == b.piece)) r.overdue;
    } in
    let flags : List Bool → List Bool = λ flags. set flags c.args.piece false in
    rw (← c.self.view_is, c.unset.ensures, c.lack.ensures)
    (showing_edit o.rows.items o.shows c.args.worker c.index_mut.result.now now flags (lack_row c.args.piece)
    c.self.invariant.each lw c.index_mut.ensures.value
    (λ flags r. refl))
