use Rattle.std.proofs.Common.{◌<◌, false, sym, true, ◌∙◌}
use Rattle.bt_meta.specs.Layout.{piece_count}
use Rattle.bt_picker.proofs.Arriving.{discard_causes}
use Rattle.bt_picker.proofs.position.Position.discard_refusal.Goals as goal

pub returns-then-had : goal.returns-then-had
returns-then-had c =
    let d = c.args.self.now in
    let found = c.in-Some.ensures.some in
    let lp : c.args.piece < piece_count d.setting.torrent = rw c.piece_count.ensures at c.if-piece-piece_count.false in
    discard_causes d.setting d.history c.args.piece c.args.begin c.in-Some._index true lp found.0 found.1 (sym c.had.ensures ∙ c.if-had.true)

pub returns-else-had : goal.returns-else-had
returns-else-had c =
    let d = c.args.self.now in
    let found = c.in-Some.ensures.some in
    let lp : c.args.piece < piece_count d.setting.torrent = rw c.piece_count.ensures at c.if-piece-piece_count.false in
    discard_causes d.setting d.history c.args.piece c.args.begin c.in-Some._index false lp found.0 found.1 (sym c.had.ensures ∙ c.if-had.false)
