-- A handle may go to another thread where what it holds may, and any thread may give a block back to the C heap.
use Rattle.std.specs.Prelude.{Option, Some, None}
use base.Fraction.{full_share}
use base.Shift.{Keyless}
use mir.Raw.{raw as bare}
use denote.Memory.{lone}
use denote.RattleType.{RattleType}
use denote.RawPtr.{Ptr, block_ptr, null_ptr}
use denote.Param.Send.{IsSend, part_keyless}
use Rattle.std.specs.declared.alloc.Global.{Global}
use Rattle.std.proofs.Crossing.{frees}
use Rattle.bt_c.specs.Handles.{handle_owns}

pub owns-Keyless : (R : RattleType) → IsSend R → (p : Ptr) (a : Global) (o : Option R.Denot) → Keyless (handle_owns R p a o)
owns-Keyless R send p a None = tt
owns-Keyless R send (block_ptr b k) a (Some x) = (part_keyless R send full_share x b k, frees.frees a (bare (lone R.mir)) (block_ptr b k))
owns-Keyless R send null_ptr a (Some x) = (tt, frees.frees a (bare (lone R.mir)) null_ptr)
