use Rattle.std.proofs.Common.{◌≡◌, ◌*◌, length, take}
use Rattle.sha1.specs.Sha1.{digest_bytes}
use Rattle.bt_check.proofs.four.digest_of.Given as goal

abbrev pub invariant-loop-i : goal.invariant-loop-i
invariant-loop-i l = (length l.out ≡ 20) × (take (4 * l.i) l.out ≡ digest_bytes l.words l.i)
