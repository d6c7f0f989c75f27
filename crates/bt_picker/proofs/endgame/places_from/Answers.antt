use Rattle.std.proofs.Common.{◌-◌, ◌<◌, arith, false}
use Rattle.std.proofs.lemmas.List.{get_or-replicate}
use Rattle.bt_picker.proofs.endgame.places_from.Goals as goal

pub loop-block-init : goal.loop-block-init
loop-block-init c k low high = let within : k - c.args.first < 64 = omega (arith, low, high) in
    get_or-replicate 64 (k - c.args.first) false false within
