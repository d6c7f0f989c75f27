-- `of_kept` moves the pointer, and forgets what it points to.
use Rattle.bt_c.proofs.Walking.{refl, emp, fact_i}
use Rattle.bt_c.specs.contracts.kept.Kept as kept
use Rattle.bt_c.specs.contracts.job_handle.JobHandle as handle
use Rattle.bt_c.specs.contracts.check.Check.{the_row as R}
use Rattle.bt_c.proofs.Moves.{moving}
use Rattle.bt_c.specs.contracts.job_handle.JobHandleHandle.of_kept.{clauses}
use Rattle.bt_c.specs.contracts.job_handle.JobHandleHandle.of_kept.Key.{name as #self}
use Rattle.bt_c.proofs.job_handle.JobHandleHandle.of_kept.Statement.{statement}
use Rattle.bt_c.proofs.job_handle.JobHandleHandle.of_kept.Code as code

pub of_kept_spec : {M : Type 1} → statement M
of_kept_spec 𝓤 𝓛 𝓜 𝓡 wired =
    moving R (kept.the_row R) handle.the_row (λ s. s.at) (λ s. s.alloc) (λ s. s.value) (λ s. record { at = s.at; alloc = s.alloc; check = s.value })
    (λ s vs. refl) (λ s vs. refl) (λ s. tt) 𝓤 𝓛 𝓜 𝓡 (clauses 𝓛 𝓜.mem 𝓡.returns) (λ κs s f. refl) (λ s g e. fact_i 𝓤 _ (emp 𝓤) refl) #self _ _
    (code.unfolded 𝓤 𝓛.H 𝓜 𝓡 wired)
