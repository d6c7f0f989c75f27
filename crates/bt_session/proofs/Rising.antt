-- The log of checks that were made in the order of their pieces.
use Rattle.std.proofs.Common.{◌≡◌, ℕ, ◌+◌, ◌≤◌, List, [], ◌∷◌, ◌++◌, refl, sym, ◌∙◌, subst, arith, inl, inr}
use Rattle.bt_history.specs.declared.mark.CallMark.TheVariants as marks
use Rattle.bt_history.specs.declared.mark.Mark.{Mark}
use Rattle.bt_shared.specs.Passes.{PassState}
use Rattle.bt_session.specs.PieceChecks.{IsQuiet, MayCheck}
use Rattle.bt_session.specs.Runs.{ChecksLast, ChecksRise}

rise_up : (low : ℕ) (log : List Mark) (high more : ℕ) → high ≤ more → ChecksRise low log high → ChecksRise low log more
rise_up low [] high more up rise = omega (arith, rise, up)
rise_up low (mark ∷ log) high more up rise = (rise.0, (rise.1.0, rise.1.1, rise_up (rise.0 + 1) log high more up rise.1.2))

rise_on : (low : ℕ) (log : List Mark) (piece : ℕ) (mark : Mark) → mark.call ≡ marks.Settle piece → ChecksRise low log piece →
    ChecksRise low (log ++ mark ∷ []) (piece + 1)
rise_on low [] piece mark is rise = (piece, (is, rise, omega arith))
rise_on low (first ∷ log) piece mark is rise = (rise.0, (rise.1.0, rise.1.1, rise_on (rise.0 + 1) log piece mark is rise.1.2))

-- before the first piece
pub none_yet : (pass : PassState) → ChecksLast pass pass 0
none_yet pass = record {
  worker = refl;
  rise = λ none. subst (λ (log : List Mark). ChecksRise 0 log 0) (sym none) (omega arith);
}

goes_same : (first old new : PassState) (piece : ℕ) → IsQuiet old new → ChecksLast first old piece → ChecksLast first new (piece + 1)
goes_same first old new piece quiet was = record {
  worker = quiet.worker ∙ was.worker;
  rise = λ none. subst (λ (log : List Mark). ChecksRise 0 log (piece + 1)) (sym quiet.log)
      (rise_up 0 old.log piece (piece + 1) (omega arith) (was.rise none));
}

-- the check of one more piece was asked for, whatever the answer
pub goes_on : (first old new : PassState) (piece : ℕ) → ChecksLast first old piece → MayCheck old piece new → ChecksLast first new (piece + 1)
goes_on first old new piece was may =
    elim may [
      | inl same ↦ goes_same first old new piece same was
      | inr more ↦ record {
        worker = more.1.worker ∙ was.worker;
        rise = λ none. subst (λ (log : List Mark). ChecksRise 0 log (piece + 1)) (sym more.1.log) (rise_on 0 old.log piece _ refl (was.rise none));
      }
    ]
