use Rattle.std.proofs.Common.{◌≡◌, false, take}
use Rattle.std.specs.List.{list_any}
use Rattle.bt_cli.specs.Runs.{lacked_memory}
use Rattle.bt_cli.proofs.telling.some_lacked.Given as goal

abbrev pub invariant-loop-end : goal.invariant-loop-end
invariant-loop-end l = list_any lacked_memory (take l.end-index l.ends) ≡ false
