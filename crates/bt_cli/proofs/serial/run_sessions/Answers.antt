use Rattle.std.proofs.Common.{arith}
use Rattle.std.proofs.lemmas.Grind.{common_steps}
use Rattle.bt_cli.proofs.serial.run_sessions.Goals as goal

pub returns-in_err-torrent-clause-err : goal.returns-in_err-torrent-clause-err
returns-in_err-torrent-clause-err g c = grind (arith, common_steps)

pub returns-in_err-torrent-2-clause-ran : goal.returns-in_err-torrent-2-clause-ran
returns-in_err-torrent-2-clause-ran g c = grind (arith, common_steps)

pub returns-in_err-torrent-2-clause-err : goal.returns-in_err-torrent-2-clause-err
returns-in_err-torrent-2-clause-err g c = grind (arith, common_steps)

pub returns-in_err-clone-clause-err : goal.returns-in_err-clone-clause-err
returns-in_err-clone-clause-err g c = grind (arith, common_steps)

pub serial-requires-clause-want : goal.serial-requires-clause-want
serial-requires-clause-want g c = grind (arith, common_steps)
