-- Writes that a fault cut off.
use Rattle.std.proofs.Common.{List, ℕ, Option, refl, inl}
use Rattle.bt_meta.specs.Devices as devices
use Rattle.bt_peer.specs.declared.fault.SessionFault.TheVariants.{WriteFault}
use Rattle.bt_peer.specs.Outlets.{WroteFront}

-- a front is written, and the fault is that of a write
pub front_cut : (old new : Option (List ℕ)) (bytes : List ℕ) → devices.WroteFront old bytes new → WroteFront WriteFault old bytes new
front_cut old new bytes cut = record { front = cut.front; rest = cut.rest; parts = cut.parts; wrote = cut.wrote; all = inl (inl refl) }
