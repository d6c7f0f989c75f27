use Rattle.bt_picker.proofs.Leading.{open_length}
use Rattle.bt_picker.proofs.position.Position.open_count.Goals as goal

pub returns : goal.returns
returns c =
    let d = c.args.self.now in
    open_length d.setting d.history c.open_pieces.result.now c.open_pieces.ensures.lists c.open_pieces.ensures.rise
