use Rattle.std.proofs.Common.{◌∙◌, sym}
use Rattle.bt_tables.proofs.Forgetting.{place_there}
use Rattle.bt_tables.proofs.line.Line.has.Goals as goal

pub returns : goal.returns
returns c =
    let said = rw c.as_slice.ensures at c.place_in.ensures in
    rw (← c.self.view_is)
    (c.is_some.ensures
    ∙ sym (place_there c.args.piece c.args.begin c.self.inside.blocks.items c.place_in.result (record { some = said.some; none = said.none })))
