use Rattle.std.proofs.Common.{◌∙◌, Bool, List, ap, arith, sym}
use Rattle.std.specs.Prelude.{if◌then◌else◌}
use Rattle.bt_tables.specs.Tables.{PieceState, lowered}
use Rattle.bt_tables.proofs.Tabled.{edit_past}
use Rattle.bt_tables.proofs.sweep.lower_if.Goals as goal
use Rattle.bt_tables.proofs.sweep.lower_if.Goals.{else-is_one-via-then-is_one+else-block-len, else-is_one-via-else-is_one}

pub returns-else-is_one : goal.returns-else-is_one
returns-else-is_one c =
    let rows = c.args.pieces.now in
    let either : Bool → List PieceState = λ x. if x then lowered c.args.block rows else rows in
    elim c.else-is_one.branch [
      | else-is_one-via-then-is_one+else-block-len w ↦
          sym (ap either w.if-is_one.true ∙ edit_past rows c.args.block.piece _ (omega (arith, w.if-block-len.false, w.len.ensures.is)))
      | else-is_one-via-else-is_one w ↦ sym (ap either w.if-is_one.false)
    ]
