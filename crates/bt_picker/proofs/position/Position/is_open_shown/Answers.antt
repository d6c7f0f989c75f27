use Rattle.std.proofs.Common.{sym, ◌∙◌}
use Rattle.bt_picker.proofs.Stages.{open_within}
use Rattle.bt_picker.proofs.Waiting.{open_found, open_missing}
use Rattle.bt_picker.proofs.position.Position.is_open_shown.Goals as goal

pub some_available-requires : goal.some_available-requires
some_available-requires c =
    let d = c.args.self.now in
    open_within d.setting d.history c.open_pieces.result.now c.open_pieces.ensures.lists

pub returns-clause-yes : goal.returns-clause-yes
returns-clause-yes c is =
    let d = c.args.self.now in
    open_found d.setting d.history c.open_pieces.result.now c.some_available.result c.open_pieces.ensures.lists c.some_available.ensures
    (sym c.is_some.ensures ∙ is)

pub returns-clause-no : goal.returns-clause-no
returns-clause-no c is =
    let d = c.args.self.now in
    open_missing d.setting d.history c.open_pieces.result.now c.some_available.result c.open_pieces.ensures.lists c.some_available.ensures
    (sym c.is_some.ensures ∙ is)
