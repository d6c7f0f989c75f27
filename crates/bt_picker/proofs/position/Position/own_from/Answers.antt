use Rattle.std.proofs.Common.{◌∙◌, ◌*◌, ap, sym}
use Rattle.bt_meta.specs.Layout.{block, block_size}
use Rattle.bt_history.specs.Legal.{place_at}
use Rattle.bt_history.specs.Peers.{has_place}
use Rattle.bt_history.proofs.Lines.{asked_outstanding}
use Rattle.bt_picker.proofs.position.Position.own_from.Goals as goal

pub returns : goal.returns
returns c k low high =
    let d = c.args.self.now in
    c.places_from.ensures k low high ∙ (ap (has_place (place_at c.args.piece (block_size * k))) c.outstanding.ensures
    ∙ sym (asked_outstanding d.history c.args.worker (block d.setting.torrent c.args.piece k)))
