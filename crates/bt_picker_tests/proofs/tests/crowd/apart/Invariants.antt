use Rattle.std.proofs.Common.{All}
use Rattle.std.specs.Prelude.{length}
use Rattle.bt_shared.specs.Passes.{AreOf, IsOf}
use Rattle.bt_picker_tests.proofs.tests.crowd.apart.Given as goal

abbrev pub invariant-players : goal.invariant-players
invariant-players l = (All (λ player. IsOf l.picker player.0) l.players.items) × (AreOf l.picker l.passes.items)

abbrev pub decreases-players : goal.decreases-players
decreases-players l = length l.players.items
