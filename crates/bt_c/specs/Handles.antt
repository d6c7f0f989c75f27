-- What a handle's memory is.
use Rattle.std.specs.Prelude.{Option, None, Some}
use base.Fml.{Fml, feq}
use denote.RattleType.{RattleType}
use denote.RawPtr.{Ptr, null_ptr}
use Rattle.std.specs.declared.alloc.Global.{Global}
use Rattle.std.specs.contracts.impls.GlobalAllocator.TheImpl.{ghosts}
use Rattle.std_alloc.specs.Box.Ownership.{box_owns}

-- at p lies a box of R's value, or p is null
abbrev pub handle_owns : (R : RattleType) → Ptr → Global → Option R.Denot → Fml
handle_owns R p a None = feq Ptr p null_ptr
handle_owns R p a (Some d) = box_owns (ghosts.dealloc_token a) R p d
