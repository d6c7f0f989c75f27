use Rattle.std.proofs.Common.{arith, sym, subst, List, Bool, ℕ, get_or, false}
use Rattle.bt_meta.specs.WireBits.{FindsFirst}
use Rattle.bt_tables.proofs.Showing.{flags_of_row, worker_within}
use Rattle.bt_tables.proofs.peers.Peers.first_shown.Goals as goal

pub first_from-requires : goal.first_from-requires
first_from-requires c =
    let o = c.self.inside in
    let lw = worker_within o.rows.items o.shows _ c.args.worker c.self.view_is c.self.invariant.each c.requires in
    omega (arith, lw, c.self.invariant.each)

pub returns : goal.returns
returns c =
    let o = c.self.inside in
    let lw = worker_within o.rows.items o.shows _ c.args.worker c.self.view_is c.self.invariant.each c.requires in
    rw (← c.self.view_is)
    (subst (λ (flags : List Bool). FindsFirst (λ (p : ℕ). get_or flags p false) c.args.piece c.first_from.result)
    (sym (flags_of_row o.rows.items o.shows c.args.worker c.self.invariant.each lw)) c.first_from.ensures)
