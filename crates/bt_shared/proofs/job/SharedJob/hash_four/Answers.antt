use Rattle.std.proofs.Common.{arith}
use Rattle.std.proofs.lemmas.Grind.{common_steps}
use Rattle.bt_shared.proofs.job.SharedJob.hash_four.Goals as goal

pub returns-in_err-share-4-clause-first : goal.returns-in_err-share-4-clause-first
returns-in_err-share-4-clause-first c = grind (arith, common_steps)

pub returns-in_err-share-4-clause-second : goal.returns-in_err-share-4-clause-second
returns-in_err-share-4-clause-second c = grind (arith, common_steps)

pub returns-in_err-share-4-clause-third : goal.returns-in_err-share-4-clause-third
returns-in_err-share-4-clause-third c = grind (arith, common_steps)

pub returns-in_err-share-4-clause-fourth : goal.returns-in_err-share-4-clause-fourth
returns-in_err-share-4-clause-fourth c = grind (arith, common_steps)

pub returns-clause-first : goal.returns-clause-first
returns-clause-first c = grind (arith, common_steps)

pub returns-clause-second : goal.returns-clause-second
returns-clause-second c = grind (arith, common_steps)

pub returns-clause-third : goal.returns-clause-third
returns-clause-third c = grind (arith, common_steps)

pub returns-clause-fourth : goal.returns-clause-fourth
returns-clause-fourth c = grind (arith, common_steps)
