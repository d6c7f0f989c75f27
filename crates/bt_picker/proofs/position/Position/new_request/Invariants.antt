use Rattle.std.proofs.Common.{◌-◌}
use Rattle.bt_picker.specs.Search.{NoneAbove}
use Rattle.bt_picker.proofs.position.Position.new_request.Given as goal

abbrev pub invariant-loop-slot : goal.invariant-loop-slot
invariant-loop-slot l = NoneAbove l.self.setting l.self.history l.worker (7 - l.slot)
