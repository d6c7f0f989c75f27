use Rattle.std.proofs.Common.{◌&&◌, ◌==◌, ◌∙◌, List, ap, length, sym}
use Rattle.std.specs.List.{list_any}
use Rattle.bt_history.proofs.Below.{any_none}
use Rattle.bt_tables.specs.Tables.{PeerState, is_late_at, peer_row}
use Rattle.bt_tables.proofs.Showing.{row_prompt, worker_within}
use Rattle.bt_tables.proofs.peers.Peers.is_late_at_some.Goals as goal

pub returns-else-self : goal.returns-else-self
returns-else-self c =
    let o = c.self.inside in
    c.if-self.false ∙ sym (any_none (length c.args.self.now) (λ q. is_late_at c.args.piece c.args.begin (peer_row c.args.self.now q)) (λ q lq.
    ap (list_any (λ b. (c.args.piece == b.piece) && (c.args.begin == b.begin)))
    (ap (λ (rows : List PeerState). (peer_row rows q).overdue) (sym c.self.view_is)
    ∙ row_prompt o.rows.items o.shows o.delayed o.apart q c.self.invariant c.if-self.false
    (worker_within o.rows.items o.shows _ q c.self.view_is c.self.invariant.each lq))))
