-- The check that a picker gives of a piece.
use Rattle.std.specs.Prelude.{◌≡◌, ℕ, Option, None, Some, IfOk, true}
use Rattle.std.proofs.Common.{ap, sym, ◌∙◌}
use Rattle.std.proofs.lemmas.Bool.{false≢true}
use Rattle.std.specs.declared.alloc.AllocError.{AllocError}
use Rattle.std.specs.declared.result.Result.{Result}
use Rattle.std.specs.declared.result.Result.TheVariants.{Ok, Err}
use Rattle.bt_check.specs.declared.job.Job.{Job}
use Rattle.bt_picker.specs.Checks.{IsJobOf}
use Rattle.bt_c.specs.declared.engine.Engine.{Engine}
use Rattle.bt_c.specs.declared.engine.Keeping.TheVariants.{Nothing}
use Rattle.bt_c.specs.declared.held.Held.{Held}
use Rattle.bt_c.specs.Behind.{keeping, state}
use Rattle.bt_c.specs.Calling.{IsPiece}
use Rattle.bt_c.specs.Engines.{content_kept, keeping_of}
use Rattle.bt_c.specs.Jobs.{IsCheckOf, check_given}

pub is_check_of : (h : Held) (p : ℕ) (job : Result (Option Job) AllocError) → IsPiece (state h) p → (keeping h ≡ Nothing → ⊥)
    → IfOk job (IsJobOf (state h).setting (state h).history p) → IsCheckOf h p (check_given job)
is_check_of h p (Ok (Some job)) within keeps given =
    (keeps, given.0, λ i. record { piece = given.1 i; blocks = given.2 i })
is_check_of h p (Ok None) within keeps given = (keeps, within, given)
is_check_of h p (Err f) within keeps given = keeps

-- a picker of the two other kinds keeps something
pub keeps_content : (h : Held) (e : Engine) → h.engine ≡ e → content_kept (keeping_of e) ≡ true → keeping h ≡ Nothing → ⊥
keeps_content h e is some none =
    false≢true (sym (ap content_kept none) ∙ (ap (λ (x : Engine). content_kept (keeping_of x)) is ∙ some))
