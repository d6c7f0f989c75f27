-- From the logs in their places to the logs of the passes.
use Rattle.std.proofs.Common.{◌≡◌, ◌∙◌, ℕ, ◌<◌, Bool, List, Option, length, Some, slice_get, subst, sym, arith, ⊎_elim, inl}
use Rattle.std.specs.Global.{Vec}
use Rattle.std.proofs.lemmas.Option.{slice_get_cases}
use Rattle.bt_history.specs.declared.mark.Mark.{Mark}
use Rattle.bt_history.specs.History.{History}
use Rattle.bt_history.specs.Legal.{IsLegal}
use Rattle.bt_history.specs.Logs.{Agrees, marks_of}
use Rattle.bt_history.specs.Setting.{Setting}
use Rattle.bt_shared.specs.Gathering.{AreAlike, EachAgrees, EachFrom, IsCause, IsDifference, IsFirstDifference, IsFirstDiffering, IsFirstUnlike}
use Rattle.bt_shared.specs.Gathering.{held_by, log_of}
use Rattle.bt_shared.specs.Closing.{EachKnows}
use Rattle.bt_shared.specs.Passes.{PassState}
use Rattle.bt_shared.specs.declared.gather.GatherFault.{GatherFault}
use Rattle.bt_shared.specs.declared.gather.GatherFault.TheVariants.{PassMissing, LogsDiffer, BoardDiffers, NoMemory}

module _ (passes : List PassState) (logs : List (Vec Mark)) (from : EachFrom passes logs) where
  -- what holds of the log at a worker's place holds of the log of its pass
  of_pass : (P : List Mark → Type 0) (w : ℕ) → w < length logs
      → ((log : Vec Mark) → slice_get logs w ≡ Some log → P log.items) → P (log_of w passes)
  of_pass P w within holds =
      ⊎_elim
      (λ found. let at = found.2 in subst P (from w found.0 at) (holds found.0 at))
      (λ past. absurd (omega (arith, past.0, within)))
      (slice_get_cases logs w).1

  module _ (s : Setting) (h : History) (count : length logs ≡ s.workers) where
    -- each pass's log is what the history has of its worker
    pub all_alike : EachAgrees h logs → AreAlike s h passes
    all_alike agree w within = of_pass (Agrees h w) w (omega (arith, count, within)) (agree w)

    -- the first pass's log that isn't
    pub unlike : (w index : ℕ) → IsFirstDiffering h logs w index → IsFirstUnlike s h passes w index
    unlike w index first = record {
      within = omega (arith, count, first.within);
      below = λ v less. of_pass (Agrees h v) v (omega (arith, less, first.within)) (λ log at. first.below v log less at);
      here = of_pass (λ log. IsFirstDifference log (marks_of h w) index) w first.within first.here;
    }

    -- a difference of the logs in their places is one of the passes
    pub cause : (held : ℕ) (bits : Option (List Bool)) (fault : GatherFault) → IsLegal s h → EachKnows h passes → held ≡ held_by passes
        → IsDifference h held logs bits fault → IsCause s passes bits fault
    cause held bits (PassMissing found journal) legal knows counted is =
        (is.0 ∙ counted, λ same. is.2 (sym is.0 ∙ same), inl (h, legal, knows, is.1))
    cause held bits (LogsDiffer w index) legal knows counted is = (h, legal, sym counted ∙ is.0, unlike w index is.1)
    cause held bits (BoardDiffers p) legal knows counted is = (h, legal, sym counted ∙ is.0, all_alike is.1, is.2)
    cause held bits NoMemory legal knows counted is = absurd is
