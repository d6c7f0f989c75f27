use Rattle.std.proofs.Common.{◌∙◌, ap, length, sym}
use Rattle.bt_meta.specs.declared.block.Block.{Block}
use Rattle.bt_meta.specs.Layout.{Layout, block}
use Rattle.bt_picker.specs.Restores.{part}
use Rattle.bt_picker.proofs.Restoring.{part_len}
use Rattle.bt_picker.proofs.picker.Picker.bring_block.Goals as goal

pub bring-reply-requires-clause-len : goal.bring-reply-requires-clause-len
bring-reply-requires-clause-len c =
    let bytes = c.args.bytes.now.bytes in
    let is = c.block-block.ensures ∙ ap (λ (t : Layout). block t c.args.piece c.args.index) c.torrent.ensures in
    ap (λ (b : Block). b.len) is ∙ (part_len c.args.self.now.setting c.args.piece c.args.index bytes c.requires.len
    ∙ sym (ap length c.part-part.ensures ∙ ap (λ (b : Block). length (part bytes b.begin)) is))
