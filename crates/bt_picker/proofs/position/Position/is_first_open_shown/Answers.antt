use Rattle.std.proofs.Common.{arith}
use Rattle.std.proofs.lemmas.Bool.{ltb-true}
use Rattle.bt_picker.proofs.Waiting.{open_first}
use Rattle.bt_picker.proofs.position.Position.is_first_open_shown.Goals as goal

pub availability-requires : goal.availability-requires
availability-requires c =
    let d = c.args.self.now in
    (open_first d.setting d.history c.open_pieces.result.now c.in-Some.piece.now c.open_pieces.ensures.lists c.in-Some.ensures.value).0

pub returns-in-Some : goal.returns-in-Some
returns-in-Some c is =
    let d = c.args.self.now in
    (open_first d.setting d.history c.open_pieces.result.now c.in-Some.piece.now c.open_pieces.ensures.lists c.in-Some.ensures.value).1
    (omega (arith, ltb-true 0 c.availability.result is, c.availability.ensures))
