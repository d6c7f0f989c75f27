-- What a writer or a sink holds after several calls.
use Rattle.std.proofs.Common.{◌≡◌, ℕ, List, ◌++◌, Option, Some, None, Result, Ok, Err}
use Rattle.std.specs.Prelude.{OnOk}
use Rattle.std.specs.Io.KnownBytes.{Appends, Keeps}
use Rattle.std.proofs.KnownBytes.{Appends-trans}

-- what was appended stays over a flush
pub Appends-flushed : (first then last : Option (List ℕ)) (xs ys : List ℕ) → ys ≡ xs → Appends first then ys → Keeps then last → Appends first last xs
Appends-flushed None then last xs ys e appends keeps = tt
Appends-flushed (Some a) None last xs ys e appends keeps = absurd appends
Appends-flushed (Some a) (Some b) None xs ys e appends keeps = absurd keeps
Appends-flushed (Some a) (Some b) (Some d) xs ys e appends keeps = cc

-- a text, and then that of a call which may fail
pub more : {X E : Type 0} (r : Result X E) (first then last : Option (List ℕ)) (xs ys : List ℕ)
    → Appends first then xs → OnOk r (Appends then last ys) → OnOk r (Appends first last (xs ++ ys))
more (Ok x) first then last xs ys wrote next = Appends-trans first then last xs ys wrote next
more (Err e) first then last xs ys wrote next = tt

-- a text that passes, and then its end
pub ended : {X E : Type 0} (P : List ℕ → Type 0) (r : Result X E) (first then last : Option (List ℕ)) (xs end : List ℕ) → P xs
    → Appends first then xs → OnOk r (Appends then last end) → OnOk r ((text : List ℕ) × P text × Appends first last (text ++ end))
ended P (Ok x) first then last xs end is wrote next = (xs, is, Appends-trans first then last xs end wrote next)
ended P (Err e) first then last xs end is wrote next = tt
