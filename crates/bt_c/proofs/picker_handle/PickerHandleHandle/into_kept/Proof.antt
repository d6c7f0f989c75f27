-- `into_kept` moves the pointer, which points to what the handle holds.
use Rattle.bt_c.proofs.Walking.{refl, emp, fact_i}
use Rattle.bt_c.specs.contracts.kept.Kept as kept
use Rattle.bt_c.specs.contracts.picker_handle.PickerHandle as handle
use Rattle.bt_c.specs.contracts.held.Held.{the_row as R}
use Rattle.bt_c.proofs.Moves.{moving}
use Rattle.bt_c.specs.contracts.picker_handle.PickerHandleHandle.into_kept.{clauses}
use Rattle.bt_c.specs.contracts.picker_handle.PickerHandleHandle.into_kept.Key.{name as #self}
use Rattle.bt_c.proofs.picker_handle.PickerHandleHandle.into_kept.Statement.{statement}
use Rattle.bt_c.proofs.picker_handle.PickerHandleHandle.into_kept.Code as code

pub into_kept_spec : {M : Type 1} → statement M
into_kept_spec 𝓤 𝓛 𝓜 𝓡 wired =
    moving R handle.the_row (kept.the_row R) (λ s. s.at) (λ s. s.alloc) (λ s. s.held) (λ s. record { at = s.at; alloc = s.alloc; value = s.held })
    (λ s vs. refl) (λ s vs. refl) (λ s. tt) 𝓤 𝓛 𝓜 𝓡 (clauses 𝓛 𝓜.mem 𝓡.returns) (λ κs s f. refl) (λ s g e. fact_i 𝓤 _ (emp 𝓤) refl) #self _ _
    (code.unfolded 𝓤 𝓛.H 𝓜 𝓡 wired)
