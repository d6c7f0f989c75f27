use Rattle.std.proofs.Common.{◌≡◌, ◌∙◌, ap, sym}
use Rattle.bt_meta.specs.Layout.{block}
use Rattle.bt_history.specs.Entries.{history_of}
use Rattle.bt_picker.specs.Positions.{DeskState}
use Rattle.bt_picker.proofs.Arriving.{place_within, nothing_held}
use Rattle.bt_picker.proofs.Filing.{filed_at, filed_bytes}
use Rattle.bt_picker.proofs.Checking.{if_ok}
use Rattle.bt_picker.proofs.filed.Filed.share_block.Goals as goal

pub share_at-requires : goal.share_at-requires
share_at-requires c =
    let d = c.args.self.now in
    let b = block d.setting.torrent c.args.piece c.args.index in
    let journal = c.self.inside.journal.now in
    let is : d.history ≡ history_of journal = ap (λ (n : DeskState). n.history) (sym c.self.view_is) ∙ c.self.invariant.0 in
    place_within journal b c.in-Some.place (filed_at d.history journal b c.in-Some.place is c.in-Some.ensures)

pub returns-in-Some : goal.returns-in-Some
returns-in-Some c =
    let d = c.args.self.now in
    let b = block d.setting.torrent c.args.piece c.args.index in
    let journal = c.self.inside.journal.now in
    let is : d.history ≡ history_of journal = ap (λ (n : DeskState). n.history) (sym c.self.view_is) ∙ c.self.invariant.0 in
    if_ok c.share_at.result (λ bytes read. filed_bytes d.history journal b c.in-Some.place bytes is c.in-Some.ensures read) c.share_at.ensures

pub returns-in-None : goal.returns-in-None
returns-in-None c =
    let d = c.args.self.now in
    c.new.ensures ∙ nothing_held d.history (block d.setting.torrent c.args.piece c.args.index) (sym c.in-None.ensures)
