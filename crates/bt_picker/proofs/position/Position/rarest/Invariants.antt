use Rattle.bt_picker.specs.Search.{NoneRarer}
use Rattle.bt_picker.proofs.position.Position.rarest.Given as goal

abbrev pub invariant-loop-shown_by : goal.invariant-loop-shown_by
invariant-loop-shown_by l = NoneRarer l.self.setting l.self.history l.worker l.level l.shown_by
