use Rattle.std.proofs.Common.{arith, ap, sym, length, ◌∙◌, List, Bool}
use Rattle.bt_tables.specs.Tables.{PeerState, peer_row}
use Rattle.bt_tables.proofs.Showing.{flags_of_row, worker_within}
use Rattle.bt_tables.proofs.peers.Peers.pieces.Goals as goal

pub returns : goal.returns
returns c worker lt =
    let o = c.self.inside in
    let lw = worker_within o.rows.items o.shows _ worker c.self.view_is c.self.invariant.each lt in
    ap (λ (rows : List PeerState). length (peer_row rows worker).shows) (sym c.self.view_is)
    ∙ (ap (λ (flags : List Bool). length flags) (flags_of_row o.rows.items o.shows worker c.self.invariant.each lw)
    ∙ c.pieces.ensures worker (omega (arith, lw, c.self.invariant.each)))
