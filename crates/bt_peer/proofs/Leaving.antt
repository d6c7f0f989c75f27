-- The departure after a fault.
use Rattle.std.proofs.Common.{[], ◌∷◌, Result, Ok, Err, refl}
use Rattle.std.specs.Prelude.{IfOk, OnErr}
use Rattle.bt_history.specs.declared.call.Reply.{Reply}
use Rattle.bt_history.specs.declared.event.Action.TheVariants as actions
use Rattle.bt_peer.specs.Acts.{Called}
use Rattle.bt_peer.specs.Places.{PlaceRecord, Gains, LacksMemory}
use Rattle.bt_peer.specs.Steps.{Leaves}
use Rattle.bt_peer.proofs.Stretches.{up_to}

pub left : {E : Type 0} (old new : PlaceRecord) (result : Result Reply E) →
    IfOk result (λ reply. Gains old (Called actions.Leave reply ∷ []) new) → OnErr result (LacksMemory old new) → Leaves old new
left old new (Ok reply) ok err =
    record { leave = Called actions.Leave reply ∷ []; departs = refl; gains = up_to old new (Called actions.Leave reply ∷ []) ok }
left old new (Err e) ok err = record { leave = []; departs = λ is_in. err.lacked; gains = err.gains }
