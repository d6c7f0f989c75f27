use Rattle.std.proofs.Common.{rules}
use Rattle.bt_c.proofs.exports.tell.tell.Goals as goal

pub returns-in-Err-clause-answer : goal.returns-in-Err-clause-answer
returns-in-Err-clause-answer c = search rules fits 100
