use Rattle.std.proofs.Common.{◌≡◌, ℕ, ◌+◌, ◌-◌, ◌*◌, ◌<◌, ◌≤◌, false, take, get_or}
use Rattle.bt_meta.specs.Layout.{block_size}
use Rattle.bt_history.specs.Legal.{place_at}
use Rattle.bt_history.specs.Peers.{has_place}
use Rattle.bt_picker.proofs.endgame.places_from.Given as goal

abbrev pub invariant-loop-block : goal.invariant-loop-block
invariant-loop-block l =
    (k : ℕ) → l.first ≤ k → k < l.first + 64 →
    get_or l.own (k - l.first) false ≡ has_place (place_at l.piece (block_size * k)) (take l.block-index l.line)
