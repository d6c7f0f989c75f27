use Rattle.std.proofs.Common.{arith, sym, ap, length, ◌∙◌, List, Bool, get_or, false}
use Rattle.bt_tables.proofs.Showing.{flags_of_row, worker_within}
use Rattle.bt_tables.proofs.peers.Peers.shows.Goals as goal

pub has-requires-clause-worker : goal.has-requires-clause-worker
has-requires-clause-worker c =
    let o = c.self.inside in
    let lw = worker_within o.rows.items o.shows _ c.args.worker c.self.view_is c.self.invariant.each c.requires.worker in
    omega (arith, lw, c.self.invariant.each)

pub has-requires-clause-piece : goal.has-requires-clause-piece
has-requires-clause-piece c =
    let o = c.self.inside in
    let lw = worker_within o.rows.items o.shows _ c.args.worker c.self.view_is c.self.invariant.each c.requires.worker in
    let lp = rw (← c.self.view_is) at c.requires.piece in
    omega (arith, lp, ap (λ (flags : List Bool). length flags) (flags_of_row o.rows.items o.shows c.args.worker c.self.invariant.each lw))

pub returns : goal.returns
returns c =
    let o = c.self.inside in
    let lw = worker_within o.rows.items o.shows _ c.args.worker c.self.view_is c.self.invariant.each c.requires.worker in
    rw (← c.self.view_is)
    (c.has.ensures ∙ sym (ap (λ (flags : List Bool). get_or flags c.args.piece false)
    (flags_of_row o.rows.items o.shows c.args.worker c.self.invariant.each lw)))
