use Rattle.std.proofs.Common.{rules}
use Rattle.bt_cli.proofs.saving.save.Goals as goal

pub returns-in-Err-clause-saved : goal.returns-in-Err-clause-saved
returns-in-Err-clause-saved g c = search rules fits 100
