-- A worker's log against its marks in the journal.
use Rattle.std.proofs.Common.{◌≡◌, ◌≢◌, Bool, true, false, not, ℕ, ◌<◌, ◌≤◌, List, [], ◌∷◌, ◌++◌, length, take, get_or, None, Some, slice_get, refl}
use Rattle.std.proofs.Common.{ap, sym, ◌∙◌, arith, ⊎_elim}
use Rattle.std.proofs.lemmas.List.{append_assoc, length-take-le, take_all, take_at}
use Rattle.std.proofs.lemmas.Bool.{true≢false}
use Rattle.std.proofs.lemmas.Option.{none-some, same_Some, slice_get_cases, slice_get_past, slice_get-get_or}
use Rattle.bt_history.specs.contracts.mark.MarkEq.TheImpl.Laws.{laws-law}
use Rattle.bt_history.specs.contracts.mark.MarkPartialEq.TheImpl as marks
use Rattle.bt_history.specs.declared.mark.Mark.{Mark}
use Rattle.bt_history.proofs.Marks.{same_mark}
use Rattle.bt_shared.specs.Gathering.{IsFirstDifference}

-- what `!=` says of the mark at a place of a log
module _ (log : List Mark) (n : ℕ) (d m : Mark) (within : n < length log) where
  pub same_at : not (marks.ghosts.eq (get_or log n d) m) ≡ false → slice_get log n ≡ Some m
  same_at is = slice_get-get_or log n d within ∙ ap Some (same_mark (get_or log n d) m (affirmed (marks.ghosts.eq (get_or log n d) m) is)) where
    affirmed : (same : Bool) → not same ≡ false → same ≡ true
    affirmed true is = refl
    affirmed false is = sym is

  pub apart_at : not (marks.ghosts.eq (get_or log n d) m) ≡ true → slice_get log n ≢ Some m
  apart_at is alike =
      let same = same_Some (get_or log n d) m (sym (slice_get-get_or log n d within) ∙ alike) in
      true≢false (sym is ∙ (ap (λ (a : Mark). not (marks.ghosts.eq a m)) same ∙ ap not (laws-law.refl m)))

-- the element behind a list
at_seam : {A : Type 0} (xs : List A) (x : A) (ys : List A) → slice_get (xs ++ x ∷ ys) (length xs) ≡ Some x
at_seam [] x ys = refl
at_seam (z ∷ xs) x ys = at_seam xs x ys

module _ (log : List Mark) (n : ℕ) (within : n ≤ length log) where
  -- the marks go on with one that the log hasn't there
  pub differs : (m : Mark) (marks rest : List Mark) → marks ≡ (take n log ++ m ∷ []) ++ rest → slice_get log n ≢ Some m
      → IsFirstDifference log marks n
  differs m marks rest are other =
      let whole : marks ≡ take n log ++ m ∷ rest = are ∙ append_assoc (take n log) (m ∷ []) rest in
      let len : length (take n log) ≡ n = length-take-le n log within in
      let there : slice_get marks n ≡ Some m =
      ap (λ (ms : List Mark). slice_get ms n) whole ∙ ap (slice_get (take n log ++ m ∷ rest)) (sym len) ∙ at_seam (take n log) m rest in record {
        same = sym (ap (take n) whole ∙ take_at (take n log) (m ∷ rest) n len);
        differ = λ alike. other (alike ∙ there);
      }

  -- the log goes on and the marks don't
  pub goes_on : (marks : List Mark) → marks ≡ take n log → n < length log → IsFirstDifference log marks n
  goes_on marks are more =
      let len : length (take n log) ≡ n = length-take-le n log within in
      let none : slice_get marks n ≡ None = slice_get_past marks n (omega (arith, ap length are, len)) in record {
        same = sym (ap (take n) are ∙ take_all n (take n log) (omega (arith, len)));
        differ = λ alike. ⊎_elim
            (λ found. none-some found.0 (sym none ∙ (sym alike ∙ found.2)))
            (λ past. omega (arith, past.0, more))
            (slice_get_cases log n).1;
      }
