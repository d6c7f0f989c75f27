use Rattle.std.proofs.Common.{rules}
use Rattle.bt_shared.proofs.gather.difference.Goals as goal

pub returns-in_err-bits-clause-agrees : goal.returns-in_err-bits-clause-agrees
returns-in_err-bits-clause-agrees c = search rules fits 100
