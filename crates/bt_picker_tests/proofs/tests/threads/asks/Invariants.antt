use Rattle.bt_shared.specs.Passes.{IsSame}
use Rattle.bt_picker_tests.proofs.tests.threads.asks.Given as goal

abbrev pub invariant-calls : goal.invariant-calls
invariant-calls g l = IsSame l.fn.pass l.pass
