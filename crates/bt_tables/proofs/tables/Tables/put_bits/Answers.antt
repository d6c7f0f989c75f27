use Rattle.std.proofs.Common.{ap, ◌∙◌}
use Rattle.bt_tables.specs.Tables.{TablesState, bits_row, peer_row, with_peer}
use Rattle.bt_tables.proofs.Changes.{peers_of}
use Rattle.bt_tables.proofs.FloorSteps.{new_floor, no_floor}
use Rattle.bt_tables.proofs.tables.Tables.put_bits.Goals as goal

pub invariant_of-self : goal.invariant_of-self
invariant_of-self c =
    let w = c.args.worker in
    let o = c.self.inside in
    let change = bits_row c.args.flags.now in
    let lw = peers_of _ _ w (c.self.view_is ∙ c.reshow.ensures) c.requires.worker in
    rw (c.put_bits.ensures, c.put.ensures)
    (new_floor o.floors o.peers o.pieces w 0 change c.self.invariant lw (no_floor o.pieces (change (peer_row o.peers w))))

pub returns : goal.returns
returns c =
    let shown = c.self.view_is ∙ c.reshow.ensures in
    rw c.put_bits.ensures (ap (λ (t : TablesState). with_peer t c.args.worker (bits_row c.args.flags.now)) shown)
