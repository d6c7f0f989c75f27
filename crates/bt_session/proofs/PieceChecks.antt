-- The log of a worker that checks pieces.
use Rattle.std.proofs.Common.{◌≡◌, ℕ, List, [], ◌∷◌, ◌++◌, refl, sym, subst, ◌∙◌, inl, inr}
use Rattle.bt_history.specs.declared.mark.CallMark.TheVariants.{Settle}
use Rattle.bt_history.specs.declared.mark.Mark.{Mark}
use Rattle.bt_shared.specs.Passes.{PassState}
use Rattle.bt_session.specs.PieceChecks.{AreChecks, MakesChecks, MayCheck, TakesPiece}
use Rattle.bt_session.specs.Workers.{WorkerState}

-- one more check
checks_more : (log : List Mark) (mark : Mark) (piece : ℕ) → mark.call ≡ Settle piece → AreChecks log → AreChecks (log ++ mark ∷ [])
checks_more [] mark piece is checks = ((piece, is), tt)
checks_more (first ∷ log) mark piece is checks = (checks.0, checks_more log mark piece is checks.1)

-- a worker that has made none
pub checks_none : (pass : PassState) → MakesChecks pass pass
checks_none pass = record { worker = refl; checks = λ checks. checks }

-- a worker sees to one more piece
pub checks_on : (first old new : PassState) (piece : ℕ) → MakesChecks first old → MayCheck old piece new → MakesChecks first new
checks_on first old new piece makes may =
    elim may [
      | inl quiet ↦ record { worker = quiet.worker ∙ makes.worker; checks = λ none. subst AreChecks (sym quiet.log) (makes.checks none) }
      | inr more ↦ record {
        worker = more.1.worker ∙ makes.worker;
        checks = λ none. subst AreChecks (sym more.1.log) (checks_more old.log _ piece refl (makes.checks none));
      }
    ]
