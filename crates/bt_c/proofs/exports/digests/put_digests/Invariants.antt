use Rattle.std.proofs.Common.{◌≡◌, ◌*◌, take, length}
use Rattle.std.specs.List.{concat}
use Rattle.bt_c.proofs.exports.digests.put_digests.Given as goal

-- the buffer has the digests so far
abbrev pub invariant-loop-i : goal.invariant-loop-i
invariant-loop-i l = (length l.buffer ≡ 80) × (take (20 * l.i) l.buffer ≡ concat (take l.i l.digests))
