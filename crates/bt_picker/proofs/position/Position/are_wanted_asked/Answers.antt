use Rattle.std.proofs.Common.{◌∙◌, ◌==◌, ℕ, List, ap}
use Rattle.std.specs.List.{sum_by}
use Rattle.bt_tables.specs.Standings.{standing_of}
use Rattle.bt_tables.specs.Tables.{PieceState}
use Rattle.bt_picker.proofs.Endings.{all_asked_rows}
use Rattle.bt_picker.proofs.position.Position.are_wanted_asked.Goals as goal

pub returns : goal.returns
returns c = rw (← c.self.view_is)
    (ap (λ (n : ℕ). n == 0) c.unasked.ensures
    ∙ (ap (λ (rows : List PieceState). sum_by (λ row. (standing_of row).unasked) rows == 0) c.self.invariant.pieces_are
    ∙ all_asked_rows c.self.inside.tables.now.setting c.self.inside.past.now.entries))
