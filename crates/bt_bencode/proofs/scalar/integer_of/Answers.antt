use Rattle.std.proofs.Common.{rules}
use Rattle.bt_bencode.proofs.scalar.integer_of.Goals as goal

pub returns-in-Some-signed : goal.returns-in-Some-signed
returns-in-Some-signed c = search rules
