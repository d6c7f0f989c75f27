use Rattle.std.proofs.Common.{ap, sym, ◌∙◌, List}
use Rattle.bt_tables.specs.Tables.{PeerState, peer_row}
use Rattle.bt_tables.proofs.Showing.{row_together, worker_within}
use Rattle.bt_tables.proofs.peers.Peers.may_have_alone.Goals as goal

pub returns : goal.returns
returns c never w lw =
    let o = c.self.inside in
    ap (λ (rows : List PeerState). (peer_row rows w).alone) (sym c.self.view_is)
    ∙ row_together o.rows.items o.shows o.delayed o.apart w c.self.invariant never
    (worker_within o.rows.items o.shows _ w c.self.view_is c.self.invariant.each lw)
