-- Up to which line a script passes, and at which one it is at fault.
use Rattle.std.proofs.Common.{◌≡◌, ◌<◌, ◌≤◌, ◌+◌, ℕ, List, inl, inr, length, arith, subst, below_more}
use Rattle.bt_text.specs.declared.fault.Fault.{Fault}
use Rattle.bt_text.specs.declared.fault.Fault.TheVariants as faults
use Rattle.bt_text.specs.Scripts.{Passes, PassTo, Starts, AreScript, FailsLater, FailsToStart, LacksLines, StopsOpening, Blames, Explains}
use Rattle.bt_text.specs.Scripts.{IsScript, lines_of, line_at}

-- one more line that passes
pub PassTo-more : (lines : List (List ℕ)) (from w p i : ℕ) → PassTo lines from w p i → Passes w p (line_at lines i) → PassTo lines from w p (i + 1)
PassTo-more lines from w p i pass this k behind before =
    below_more (λ (n : ℕ). from ≤ n → Passes w p (line_at lines n)) i (λ n h b. pass n b h) (λ b. this) k before behind

-- all lines pass
pub IsScript-passed : (input : List ℕ) (lines : List (List ℕ)) (from w p i : ℕ) → lines ≡ lines_of input → Starts lines from w p →
    PassTo lines from w p i → length lines ≤ i → IsScript input
IsScript-passed input lines from w p i e starts pass end =
    let whole : AreScript lines = record {
      from = from;
      workers = w;
      pieces = p;
      starts = starts;
      pass = λ k behind within. pass k behind (omega arith);
    } in
    subst AreScript e whole

-- a line that doesn't pass, behind lines that do
pub Explains-later : (input : List ℕ) (lines : List (List ℕ)) (from w p i : ℕ) (fault : Fault) → lines ≡ lines_of input → Starts lines from w p →
    PassTo lines from w p i → from ≤ i → i < length lines → Blames fault (i + 1) (¬ (Passes w p (line_at lines i))) → Explains input fault
Explains-later input lines from w p i (faults.Line n) e starts pass behind within blames =
    let fails : FailsLater lines n = record {
      from = from;
      workers = w;
      pieces = p;
      starts = starts;
      line = i;
      behind = behind;
      within = within;
      pass = pass;
      bad = blames.1;
      number = blames.0;
    } in
    inr (inr (subst (λ (ls : List (List ℕ)). FailsLater ls n) e fails))
Explains-later input lines from w p i (faults.Metainfo fault) e starts pass behind within blames = blames
Explains-later input lines from w p i (faults.Want fault) e starts pass behind within blames = blames
Explains-later input lines from w p i faults.Random e starts pass behind within blames = blames
Explains-later input lines from w p i faults.File e starts pass behind within blames = tt
Explains-later input lines from w p i faults.Memory e starts pass behind within blames = tt
Explains-later input lines from w p i faults.NoThread e starts pass behind within blames = blames
Explains-later input lines from w p i (faults.Gather fault) e starts pass behind within blames = blames

-- a script that wasn't opened
pub Explains-unopened : (input : List ℕ) (lines : List (List ℕ)) (fault : Fault) → lines ≡ lines_of input → StopsOpening lines fault →
    Explains input fault
Explains-unopened input lines (faults.Line n) e (inl lacks) = inl (subst (λ (ls : List (List ℕ)). LacksLines ls n) e lacks)
Explains-unopened input lines (faults.Line n) e (inr fails) = inr (inl (subst (λ (ls : List (List ℕ)). FailsToStart ls n) e fails))
Explains-unopened input lines (faults.Metainfo fault) e stops = stops
Explains-unopened input lines (faults.Want fault) e stops = stops
Explains-unopened input lines faults.Random e stops = stops
Explains-unopened input lines faults.File e stops = tt
Explains-unopened input lines faults.Memory e stops = tt
Explains-unopened input lines faults.NoThread e stops = stops
Explains-unopened input lines (faults.Gather fault) e stops = stops
