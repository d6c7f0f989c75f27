use Rattle.std.proofs.Common.{ap, ◌∙◌, length, refl}
use Rattle.bt_tables.specs.Tables.{TablesState, join_row, peer_row, with_peer}
use Rattle.bt_tables.proofs.Changes.{peers_of}
use Rattle.bt_tables.proofs.FloorSteps.{new_floor, shows_none}
use Rattle.bt_tables.proofs.tables.Tables.join.Goals as goal

pub invariant_of-self : goal.invariant_of-self
invariant_of-self c =
    let o = c.self.inside in
    let w = c.args.worker in
    let row = peer_row o.peers w in
    let lw = peers_of _ _ w (c.self.view_is ∙ c.release.ensures) c.requires in
    rw (c.join.ensures, c.put.ensures)
    (new_floor o.floors o.peers o.pieces w _ join_row c.self.invariant lw (shows_none o.pieces (join_row row) (length row.shows) _ refl))

pub returns : goal.returns
returns c =
    rw c.join.ensures (ap (λ (t : TablesState). with_peer t c.args.worker join_row) (c.self.view_is ∙ c.release.ensures))
