use Rattle.std.proofs.Common.{[], ap, ◌∙◌}
use Rattle.bt_picker.proofs.StashRows.{put_row}
use Rattle.bt_picker.proofs.stash.Stash.take.Goals as goal

pub returns-clause-left : goal.returns-clause-left
returns-clause-left c =
    rw (← c.self.view_is)
    (put_row (λ row. row.items) c.self.inside.rows.items c.args.piece c.index_mut.result.now c.replace.new.dest (λ row. [])
    (rw (← c.self.view_is) at c.requires) c.index_mut.ensures.value (ap (λ row. row.items) c.replace.ensures.after ∙ c.none-none.ensures))
