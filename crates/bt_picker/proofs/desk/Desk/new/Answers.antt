use Rattle.std.proofs.Common.{◌≡◌, [], ap, sym, ◌∙◌, rules, arith}
use Rattle.bt_history.specs.Entries.{history_of}
use Rattle.bt_history.specs.Finished.{finished}
use Rattle.bt_meta.specs.Layout.{piece_count}
use Rattle.bt_picker.specs.Lasting.{failure_count}
use Rattle.bt_picker.specs.Places.{ArePlaces}
use Rattle.bt_picker.proofs.Placing.{places_fresh}
use Rattle.bt_picker.proofs.desk.Desk.new.Goals as goal

pub invariant_of-result : goal.invariant_of-result
unfolding finished failure_count
invariant_of-result c =
    let none : history_of c.empty_journal-journal.result.items ≡ history_of [] = ap history_of c.empty_journal-journal.ensures in
    let none_yet = c.in_ok-picker.ensures.history in
    let pieces : c.piece_count.result ≡ piece_count c.in_ok-picker.picker.setting.torrent =
    c.piece_count.ensures.count ∙ ap piece_count c.torrent-2.ensures in
    let fresh : ArePlaces c.in_ok-picker.picker.setting c.in_ok-picker.picker.history c.in_ok-places.places =
    rw (none_yet, c.in_ok-places.ensures, c.torrent-3.ensures) (places_fresh c.in_ok-picker.picker.setting) in (
      none_yet ∙ sym none,
      search rules fits 100,
      c.in_ok-had_pieces.ensures.items ∙ ap finished (sym none_yet),
      omega (arith, pieces, c.in_ok-had_pieces.ensures.capacity),
      fresh,
      sym (ap failure_count none_yet),
    )
