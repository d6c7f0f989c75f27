use Rattle.std.proofs.Common.{Bool, List, arith, subst, sym}
use Rattle.bt_tables.specs.Showing.{AreSet}
use Rattle.bt_tables.proofs.Showing.{flags_of_row, worker_within}
use Rattle.bt_tables.proofs.peers.Peers.shows_all.Goals as goal

pub has_all-requires : goal.has_all-requires
has_all-requires c =
    let o = c.self.inside in
    let lw = worker_within o.rows.items o.shows _ c.args.worker c.self.view_is c.self.invariant.each c.requires in
    omega (arith, lw, c.self.invariant.each)

pub returns : goal.returns
returns c is =
    let o = c.self.inside in
    let lw = worker_within o.rows.items o.shows _ c.args.worker c.self.view_is c.self.invariant.each c.requires in
    rw (← c.self.view_is)
    (subst (λ (flags : List Bool). AreSet flags) (sym (flags_of_row o.rows.items o.shows c.args.worker c.self.invariant.each lw))
    (c.has_all.ensures is))
