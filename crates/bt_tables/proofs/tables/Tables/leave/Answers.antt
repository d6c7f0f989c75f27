use Rattle.std.proofs.Common.{ap, ◌∙◌, [], refl}
use Rattle.bt_tables.specs.Tables.{TablesState, leave_row, reshown, with_peer}
use Rattle.bt_tables.proofs.Changes.{peers_of}
use Rattle.bt_tables.proofs.FloorSteps.{silent_peer}
use Rattle.bt_tables.proofs.tables.Tables.leave.Goals as goal

pub invariant_of-self : goal.invariant_of-self
invariant_of-self c =
    let w = c.args.worker in
    let o = c.self.inside in
    let shown = c.self.view_is ∙ (c.reshow.ensures ∙ ap (λ (t : TablesState). reshown t w []) c.release.ensures) in
    rw c.leave.ensures
    (silent_peer o.floors o.peers o.pieces w leave_row c.self.invariant (peers_of _ _ w shown c.requires.worker) (λ row. refl))

pub returns : goal.returns
returns c =
    let w = c.args.worker in
    let shown = c.self.view_is ∙ (c.reshow.ensures ∙ ap (λ (t : TablesState). reshown t w []) c.release.ensures) in
    rw c.leave.ensures (ap (λ (t : TablesState). with_peer t w leave_row) shown)
