use Rattle.std.proofs.Common.{◌<◌}
use Rattle.bt_meta.specs.Layout.{piece_count}
use Rattle.bt_history.specs.Picks.{place_in_round}
use Rattle.bt_history.specs.Pieces.{availability}
use Rattle.bt_picker.specs.Search.{FirstWhere, is_candidate_at}
use Rattle.bt_picker.proofs.position.Position.nearest_listed.Given as goal

abbrev pub invariant-loop-shown_by : goal.invariant-loop-shown_by
invariant-loop-shown_by l =
    FirstWhere (is_candidate_at l.self.setting l.self.history l.worker l.level) (place_in_round (piece_count l.self.setting.torrent) l.first)
    (piece_count l.self.setting.torrent) (λ p. availability l.self.setting l.self.history p < l.shown_by) l.nearest
