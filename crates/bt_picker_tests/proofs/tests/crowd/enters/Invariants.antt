use Rattle.bt_shared.specs.Passes.{IsOf}
use Rattle.bt_picker_tests.proofs.tests.crowd.enters.Given as goal

abbrev pub invariant-steps : goal.invariant-steps
invariant-steps g l = IsOf l.desk l.pass
