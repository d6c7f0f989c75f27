use Rattle.std.proofs.Common.{◌≡◌, ℕ, ◌*◌, ◌%◌, ◌<◌, List, ◌++◌, length, take}
use Rattle.sha1.specs.Sha1.{IsAbsorbed}
use Rattle.bt_check.specs.Lanes.{variables, bytes_of}
use Rattle.bt_check.proofs.four.compress_blocks.Given as goal

abbrev pub invariant-loop-i : goal.invariant-loop-i
invariant-loop-i l = (j : ℕ) (tail m : List ℕ) → j < 4 → length m % 64 ≡ 0 → IsAbsorbed (variables j l.fn.h) tail m
    → IsAbsorbed (variables j l.now) tail (m ++ take (64 * l.i) (bytes_of j l.a l.b l.c l.d))
