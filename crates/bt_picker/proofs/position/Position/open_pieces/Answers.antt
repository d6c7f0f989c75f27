use Rattle.std.proofs.Common.{◌≡◌, ◌∙◌, ap, List, ℕ, map, subst}
use Rattle.bt_picker.specs.Positions.{DeskState}
use Rattle.bt_tables.specs.Standings.{ListsOpen, group_of_row}
use Rattle.bt_picker.specs.Tables.{groups_of}
use Rattle.bt_tables.proofs.Tabled.{map_table}
use Rattle.bt_picker.proofs.position.Position.open_pieces.Goals as goal

pub returns-clause-lists : goal.returns-clause-lists
returns-clause-lists c =
    let rows : map group_of_row c.self.inside.tables.now.pieces ≡ _ =
    ap (map group_of_row) c.self.invariant.pieces_are ∙ map_table group_of_row _ _ in
    subst (λ (groups : List ℕ). ListsOpen groups c.open_pieces.result.now)
    (rows ∙ ap (λ (d : DeskState). groups_of d.setting d.history) c.self.view_is) c.open_pieces.ensures.lists
