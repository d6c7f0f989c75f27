use Rattle.std.proofs.Common.{refl}
use Rattle.bt_check.proofs.VectorLemmas.{lane-set, slice_index-lane}
use Rattle.bt_check.proofs.compress.next_word.Goals as goal

pub returns-clause-value : goal.returns-clause-value
returns-clause-value c j h =
    simp slice_index-lane (rw (c.rotate_left-word.ensures j h, c.xor.ensures j h, c.parity-three.ensures j h) refl)

pub returns-clause-window : goal.returns-clause-window
returns-clause-window c j h = lane-set j c.args.w.now _ _
