use Rattle.std.proofs.Common.{arith, refl, ◌∙◌, [], ◌++◌, ◌&&◌, ◌==◌, not, ap}
use Rattle.std.specs.Prelude.{if◌then◌else◌}
use Rattle.std.specs.List.{filter}
use Rattle.bt_tables.specs.Showing.{Dealings}
use Rattle.bt_tables.specs.Tables.{without_block}
use Rattle.bt_tables.proofs.Showing.{peers_kept, row_of, showing_set, worker_within}
use Rattle.bt_tables.proofs.peers.Peers.forget_at.Goals as goal

pub index_mut-requires : goal.index_mut-requires
index_mut-requires c =
    let o = c.self.inside in
    let lw = worker_within o.rows.items o.shows _ c.args.worker c.self.view_is c.self.invariant.each c.requires.worker in
    omega (arith, o.rows.ok.0, lw)

pub forget-requires : goal.forget-requires
forget-requires c =
    let o = c.self.inside in
    let lw = worker_within o.rows.items o.shows _ c.args.worker c.self.view_is c.self.invariant.each c.requires.worker in
    let room = rw (← c.self.view_is) at c.requires.room in
    let row = row_of o.rows.items o.shows c.args.worker c.index_mut.result.now c.self.invariant.each lw c.index_mut.ensures.value in
    rw row room

pub invariant_of-self : goal.invariant_of-self
invariant_of-self c =
    let o = c.self.inside in
    let lw = worker_within o.rows.items o.shows _ c.args.worker c.self.view_is c.self.invariant.each c.requires.worker in
    peers_kept o.rows.items o.shows o.shows o.delayed o.apart c.args.worker c.index_mut.result.now c.forget.new.self c.self.invariant
    refl lw c.index_mut.ensures.value
    (λ none. ap (λ (r : Dealings). r.overdue) c.forget.ensures
    ∙ ap (filter (λ b. not ((c.args.piece == b.piece) && (c.args.begin == b.begin)))) none)
    (λ none. ap (λ (r : Dealings). r.alone) c.forget.ensures ∙ none)

pub returns : goal.returns
returns c =
    let o = c.self.inside in
    let lw = worker_within o.rows.items o.shows _ c.args.worker c.self.view_is c.self.invariant.each c.requires.worker in
    let now : Dealings → Dealings = λ r. record r {
      asked = filter (λ b. not ((c.args.piece == b.piece) && (c.args.begin == b.begin))) r.asked;
      overdue = filter (λ b. not ((c.args.piece == b.piece) && (c.args.begin == b.begin))) r.overdue;
      due = r.due ++ (if c.args.own then [] else filter (λ b. (c.args.piece == b.piece) && (c.args.begin == b.begin)) r.asked);
    } in
    rw (← c.self.view_is, c.forget.ensures)
    (showing_set o.rows.items o.shows c.args.worker c.index_mut.result.now now (without_block c.args.piece c.args.begin c.args.own)
    c.self.invariant.each lw c.index_mut.ensures.value
    (λ flags r. refl))
