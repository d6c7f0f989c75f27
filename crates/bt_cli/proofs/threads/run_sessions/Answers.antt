use Rattle.std.proofs.Common.{arith}
use Rattle.std.proofs.lemmas.Grind.{common_steps}
use Rattle.bt_cli.proofs.threads.run_sessions.Goals as goal

pub returns-in_err-torrent-clause-err : goal.returns-in_err-torrent-clause-err
returns-in_err-torrent-clause-err g c = grind (arith, common_steps)

pub returns-in-Err-clause-err : goal.returns-in-Err-clause-err
returns-in-Err-clause-err g c = grind (arith, common_steps)
