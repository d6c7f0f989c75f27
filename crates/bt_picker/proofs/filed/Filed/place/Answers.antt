use Rattle.std.proofs.Common.{arith, ◌<◌, ◌∙◌, Some, ap, subst, sym}
use Rattle.std.proofs.lemmas.Grind.{common_steps}
use Rattle.bt_meta.specs.Layout.{block, block_count, piece_count}
use Rattle.bt_picker.specs.Places.{stored_place}
use Rattle.bt_picker.specs.Positions.{DeskState}
use Rattle.bt_picker.proofs.Placing.{place_found, place_lacks}
use Rattle.bt_picker.proofs.filed.Filed.place.Goals as goal

pub returns-then-holds : goal.returns-then-holds
returns-then-holds c =
    let n = c.self.inside.position in
    let lp = subst (λ (d : DeskState). c.args.piece < piece_count d.setting.torrent) (sym c.self.view_is) c.requires.piece in
    let lk = subst (λ (d : DeskState). c.args.index < block_count d.setting.torrent c.args.piece) (sym c.self.view_is) c.requires.index in
    ap Some c.of.ensures
    ∙ place_found n.setting n.history c.self.inside.places.now c.args.piece c.args.index c.self.invariant.1 lp lk
    (sym c.holds.ensures ∙ c.if-holds.true)
    ∙ ap (λ (d : DeskState). stored_place d.history (block d.setting.torrent c.args.piece c.args.index)) c.self.view_is

pub returns-else-holds : goal.returns-else-holds
returns-else-holds c =
    let n = c.self.inside.position in
    place_lacks n.history (block n.setting.torrent c.args.piece c.args.index) (sym c.holds.ensures ∙ c.if-holds.false)
    ∙ ap (λ (d : DeskState). stored_place d.history (block d.setting.torrent c.args.piece c.args.index)) c.self.view_is

pub of-requires : goal.of-requires
of-requires c = grind (arith, common_steps)
