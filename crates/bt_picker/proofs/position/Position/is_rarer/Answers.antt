use Rattle.std.proofs.Common.{◌∙◌, ◌*◌, sym}
use Rattle.std.specs.Prelude.{nat_lt}
use Rattle.bt_meta.specs.Layout.{piece_count}
use Rattle.bt_history.specs.Picks.{place_in_round}
use Rattle.bt_history.specs.Pieces.{availability}
use Rattle.bt_picker.proofs.Rounds.{order_alike, order_apart, place_bound}
use Rattle.bt_picker.proofs.position.Position.is_rarer.Goals as goal

pub returns-then-shown-shown_other : goal.returns-then-shown-shown_other
returns-then-shown-shown_other c =
    let d = c.args.self.now in
    c.comes_before.ensures (piece_count d.setting.torrent) c.requires.piece c.requires.other
    ∙ order_alike (availability d.setting d.history c.args.piece) (availability d.setting d.history c.args.other) (2 * piece_count d.setting.torrent)
    (place_in_round (piece_count d.setting.torrent) c.args.first c.args.piece)
    (place_in_round (piece_count d.setting.torrent) c.args.first c.args.other)
    (sym c.availability-shown.ensures ∙ (c.if-shown-shown_other.true ∙ c.availability-shown_other.ensures))

pub returns-else-shown-shown_other : goal.returns-else-shown-shown_other
returns-else-shown-shown_other c =
    let d = c.args.self.now in
    let n = piece_count d.setting.torrent in
    (λ i. nat_lt (c.availability-shown.ensures i) (c.availability-shown_other.ensures i))
    ∙ order_apart (availability d.setting d.history c.args.piece) (availability d.setting d.history c.args.other) (2 * n)
    (place_in_round n c.args.first c.args.piece) (place_in_round n c.args.first c.args.other)
    (place_bound n c.args.first c.args.piece c.requires.piece) (place_bound n c.args.first c.args.other c.requires.other)
    (λ same. c.if-shown-shown_other.false (c.availability-shown.ensures ∙ (same ∙ sym c.availability-shown_other.ensures)))
