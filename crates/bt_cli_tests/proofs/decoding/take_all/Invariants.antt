use Rattle.std.proofs.Common.{length}
use Rattle.bt_cli_tests.proofs.decoding.take_all.Given as goal

abbrev pub decreases-messages : goal.decreases-messages
decreases-messages l = length l.inbound.bytes
