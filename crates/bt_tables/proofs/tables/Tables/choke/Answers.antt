use Rattle.std.proofs.Common.{ap, ◌∙◌, refl}
use Rattle.bt_tables.specs.Tables.{TablesState, choke_row, with_peer}
use Rattle.bt_tables.proofs.Changes.{peers_of}
use Rattle.bt_tables.proofs.FloorSteps.{kept_peer}
use Rattle.bt_tables.proofs.tables.Tables.choke.Goals as goal

pub invariant_of-self : goal.invariant_of-self
invariant_of-self c =
    let o = c.self.inside in
    let lw = peers_of _ _ c.args.worker (c.self.view_is ∙ c.release.ensures) c.requires in
    rw c.note.ensures (kept_peer o.floors o.peers o.pieces c.args.worker choke_row c.self.invariant lw (λ row. refl))

pub returns : goal.returns
returns c =
    rw c.note.ensures (ap (λ (t : TablesState). with_peer t c.args.worker choke_row) (c.self.view_is ∙ c.release.ensures))
