use Rattle.std.proofs.Common.{[], set}
use Rattle.bt_picker.proofs.StashRows.{put_row}
use Rattle.bt_picker.proofs.stash.Stash.clear.Goals as goal

pub returns : goal.returns
returns c =
    rw (← c.self.view_is)
    (put_row (λ row. row.items) c.self.inside.rows.items c.args.piece c.index_mut.result.now c.clear_in.new.row
    (λ row. set row c.args.index []) (rw (← c.self.view_is) at c.requires) c.index_mut.ensures.value c.clear_in.ensures)
