use Rattle.std.proofs.Common.{ap, ◌∙◌}
use Rattle.bt_tables.specs.Standings.{ShelfState}
use Rattle.bt_tables.proofs.Resting.{tells_rest}
use Rattle.bt_tables.proofs.pieces.Pieces.are_all_resting.Goals as goal

pub returns : goal.returns
returns c =
    rw (← c.self.view_is) (tells_rest _ c.left.result (c.left.ensures ∙ ap (λ (s : ShelfState). s.left) c.self.invariant.0.is))
