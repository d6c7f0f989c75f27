use Rattle.std.proofs.Common.{ap, length, sym, ◌∙◌}
use Rattle.bt_tables.proofs.Showing.{length_showing}
use Rattle.bt_tables.proofs.peers.Peers.len.Goals as goal

pub returns : goal.returns
returns c =
    let o = c.self.inside in
    c.len.ensures ∙ (sym (length_showing o.rows.items o.shows c.self.invariant.each) ∙ ap length c.self.view_is)
