use Rattle.std.proofs.Common.{set}
use Rattle.bt_picker.specs.Stashes.{roomed}
use Rattle.bt_picker.proofs.StashRows.{put_row}
use Rattle.bt_picker.proofs.stash.Stash.put.Goals as goal

pub returns : goal.returns
returns c =
    rw (← c.self.view_is)
    (put_row (λ row. row.items) c.self.inside.rows.items c.args.piece c.index_mut.result.now c.put_in.new.row
    (λ row. set (roomed row c.args.room.items) c.args.index c.args.bytes) (rw (← c.self.view_is) at c.requires.piece) c.index_mut.ensures.value
    c.put_in.ensures)
