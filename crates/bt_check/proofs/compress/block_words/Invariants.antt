use Rattle.std.proofs.Common.{◌≡◌, ℕ, ◌<◌, ◌*◌, length, slice_index}
use Rattle.sha1.specs.Sha1.{word_at}
use Rattle.bt_check.specs.Lanes.{lane, bytes_of}
use Rattle.bt_check.proofs.compress.block_words.Given as goal

abbrev pub invariant-loop-i : goal.invariant-loop-i
invariant-loop-i l = (length l.w ≡ 16) × ((j k : ℕ) → j < 4 → k < l.i
    → slice_index (lane j l.w) k ≡ word_at (bytes_of j l.a l.b l.c l.d) (4 * k))
