use Rattle.std.proofs.Common.{◌∙◌, List, ap}
use Rattle.std.specs.Prelude.{nat_lt}
use Rattle.std.specs.List.{sum_by}
use Rattle.bt_tables.specs.Standings.{standing_of}
use Rattle.bt_tables.specs.Tables.{PieceState}
use Rattle.bt_picker.proofs.Endings.{some_lacking_rows}
use Rattle.bt_picker.proofs.position.Position.is_some_lacking.Goals as goal

pub returns : goal.returns
returns c = rw (← c.self.view_is)
    (ap (nat_lt 0) c.unheld.ensures
    ∙ (ap (λ (rows : List PieceState). nat_lt 0 (sum_by (λ row. (standing_of row).unheld) rows)) c.self.invariant.pieces_are
    ∙ some_lacking_rows c.self.inside.tables.now.setting c.self.inside.past.now.entries))
