use Rattle.std.proofs.Common.{◌≡◌, ◌∙◌, ap, sym}
use Rattle.bt_meta.specs.Layout.{block}
use Rattle.bt_history.specs.Entries.{history_of}
use Rattle.bt_picker.specs.Positions.{DeskState}
use Rattle.bt_picker.proofs.Arriving.{place_within, nothing_held}
use Rattle.bt_picker.proofs.Filing.{filed_at, filed_bytes}
use Rattle.bt_picker.proofs.filed.Filed.held_bytes.Goals as goal

pub bytes_at-requires : goal.bytes_at-requires
bytes_at-requires c =
    let d = c.args.self.now in
    let b = block d.setting.torrent c.args.piece c.args.index in
    let journal = c.self.inside.journal.now in
    let is : d.history ≡ history_of journal = ap (λ (n : DeskState). n.history) (sym c.self.view_is) ∙ c.self.invariant.0 in
    place_within journal b c.in-Some.place (filed_at d.history journal b c.in-Some.place is c.in-Some.ensures)

pub returns-in-Some : goal.returns-in-Some
returns-in-Some c =
    let d = c.args.self.now in
    let b = block d.setting.torrent c.args.piece c.args.index in
    let journal = c.self.inside.journal.now in
    let is : d.history ≡ history_of journal = ap (λ (n : DeskState). n.history) (sym c.self.view_is) ∙ c.self.invariant.0 in
    filed_bytes d.history journal b c.in-Some.place c.bytes_at.result.now is c.in-Some.ensures c.bytes_at.ensures

pub returns-in-None : goal.returns-in-None
returns-in-None c =
    let d = c.args.self.now in
    nothing_held d.history (block d.setting.torrent c.args.piece c.args.index) (sym c.in-None.ensures)
