use Rattle.std.proofs.Common.{◌∙◌, ap, length, sym, arith}
use Rattle.bt_tables.proofs.FloorSteps.{edit_beside}
use Rattle.bt_tables.proofs.Tabled.{edit_past, length_edit}
use Rattle.bt_tables.proofs.sweep.lower.Goals as goal

pub admit-requires-clause-piece : goal.admit-requires-clause-piece
admit-requires-clause-piece c =
    let long = ap length c.apply.ensures ∙ length_edit c.args.pieces.now c.args.block.piece _ in
    omega (arith, long, c.len.ensures.is, c.if-block-len.true)

pub admit-requires-clause-beside : goal.admit-requires-clause-beside
admit-requires-clause-beside c = rw c.apply.ensures (edit_beside _ _ _ c.args.block.piece _ c.requires)

pub returns-else-block-len : goal.returns-else-block-len
returns-else-block-len c = record {
  pieces = sym (edit_past c.args.pieces.now c.args.block.piece _ (omega (arith, c.if-block-len.false, c.len.ensures.is)));
  floors = c.requires;
}
