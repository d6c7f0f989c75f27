use Rattle.std.proofs.Common.{◌<◌, true, false, sym, ◌∙◌}
use Rattle.bt_meta.specs.Layout.{piece_count}
use Rattle.bt_picker.proofs.Arriving.{requested_causes}
use Rattle.bt_picker.proofs.position.Position.requested_refusal.Goals as goal

pub returns-then-may_count : goal.returns-then-may_count
returns-then-may_count c =
    let d = c.args.self.now in
    let found = c.in-Some.ensures.some in
    let lp : c.args.piece < piece_count d.setting.torrent = rw c.piece_count.ensures at c.if-piece-piece_count.false in
    requested_causes d.setting d.history c.args.worker c.args.piece c.args.begin c.in-Some.index true
    (sym c.is_joined.ensures ∙ c.if-not-is_joined.false) lp found.0 found.1 (sym c.may_count.ensures ∙ c.if-may_count.true)

pub returns-else-may_count : goal.returns-else-may_count
returns-else-may_count c =
    let d = c.args.self.now in
    let found = c.in-Some.ensures.some in
    let lp : c.args.piece < piece_count d.setting.torrent = rw c.piece_count.ensures at c.if-piece-piece_count.false in
    requested_causes d.setting d.history c.args.worker c.args.piece c.args.begin c.in-Some.index false
    (sym c.is_joined.ensures ∙ c.if-not-is_joined.false) lp found.0 found.1 (sym c.may_count.ensures ∙ c.if-may_count.false)
