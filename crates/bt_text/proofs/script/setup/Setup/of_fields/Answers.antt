use Rattle.std.proofs.Common.{arith, rules}
use Rattle.std.proofs.lemmas.Grind.{common_steps}
use Rattle.bt_text.proofs.script.setup.Setup.of_fields.Goals as goal

pub returns-in_default-clause-reads : goal.returns-in_default-clause-reads
returns-in_default-clause-reads c = grind (arith, common_steps)

pub returns-then-not-is-clause-reads : goal.returns-then-not-is-clause-reads
returns-then-not-is-clause-reads c = search rules fits 100

pub returns-in_err-piece_length-clause-reads : goal.returns-in_err-piece_length-clause-reads
returns-in_err-piece_length-clause-reads c = search rules fits 100

pub returns-in_err-total-clause-reads : goal.returns-in_err-total-clause-reads
returns-in_err-total-clause-reads c = search rules fits 100

pub returns-in_err-workers-clause-reads : goal.returns-in_err-workers-clause-reads
returns-in_err-workers-clause-reads c = search rules fits 100

pub returns-in_err-hashes-clause-reads : goal.returns-in_err-hashes-clause-reads
returns-in_err-hashes-clause-reads c = grind (arith, common_steps)

pub returns-in_err-torrent-clause-reads : goal.returns-in_err-torrent-clause-reads
returns-in_err-torrent-clause-reads c = grind (arith, common_steps)

pub returns-clause-reads : goal.returns-clause-reads
returns-clause-reads c = grind (arith, common_steps)
