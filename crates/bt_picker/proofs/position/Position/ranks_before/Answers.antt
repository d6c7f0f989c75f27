use Rattle.std.proofs.Common.{◌≡◌, ◌∙◌, ◌*◌, Bool, refl, subst, sym}
use Rattle.std.specs.Prelude.{nat_lt}
use Rattle.bt_meta.specs.Layout.{piece_count}
use Rattle.bt_picker.specs.Search.{order_of}
use Rattle.bt_picker.proofs.Rounds.{order_alike}
use Rattle.bt_picker.proofs.position.Position.ranks_before.Goals as goal

pub returns-then-rare : goal.returns-then-rare
returns-then-rare c =
    let d = c.args.self.now in
    subst (λ (rare : Bool). c.is_rarer.result ≡ nat_lt (order_of d.setting d.history rare c.args.first c.args.piece)
    (order_of d.setting d.history rare c.args.first c.args.other)) (sym c.if-rare.true) c.is_rarer.ensures

pub returns-else-rare : goal.returns-else-rare
returns-else-rare c =
    let d = c.args.self.now in
    subst (λ (rare : Bool). c.comes_before.result ≡ nat_lt (order_of d.setting d.history rare c.args.first c.args.piece)
    (order_of d.setting d.history rare c.args.first c.args.other)) (sym c.if-rare.false)
    (c.comes_before.ensures (piece_count d.setting.torrent) c.requires.piece c.requires.other ∙ order_alike 0 0 (2 * piece_count d.setting.torrent) _ _ refl)
