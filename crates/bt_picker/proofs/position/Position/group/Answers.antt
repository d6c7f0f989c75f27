use Rattle.std.proofs.Common.{◌≡◌, ◌∙◌, ap, List, ℕ, map, subst}
use Rattle.bt_tables.specs.Orders.{ListsGroup}
use Rattle.bt_picker.specs.Positions.{DeskState}
use Rattle.bt_tables.specs.Standings.{group_number, group_of_row}
use Rattle.bt_picker.specs.Tables.{groups_of}
use Rattle.bt_tables.proofs.Tabled.{map_table}
use Rattle.bt_picker.proofs.position.Position.group.Goals as goal

pub returns : goal.returns
returns c =
    let rows : map group_of_row c.self.inside.tables.now.pieces ≡ _ =
    ap (map group_of_row) c.self.invariant.pieces_are ∙ map_table group_of_row _ _ in
    subst (λ (groups : List ℕ). ListsGroup groups (group_number c.args.level c.args.stage) c.group.result.now)
    (rows ∙ ap (λ (d : DeskState). groups_of d.setting d.history) c.self.view_is) c.group.ensures
