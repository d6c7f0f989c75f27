-- What a script has printed and done to its desk, line by line.
use Rattle.std.proofs.Common.{◌≡◌, ◌<◌, ◌≤◌, ◌+◌, ◌-◌, ℕ, zero, suc, Result, Ok, Err, inl, inr, List, [], ◌∷◌, ◌++◌, Some, length, take, refl, sym}
use Rattle.std.proofs.Common.{ap, ◌∙◌, subst, append_assoc, append-nil, arith}
use Rattle.std.specs.Result.{IsErrAnd}
use Rattle.std.proofs.lemmas.List.{take_more}
use Rattle.bt_picker.specs.Positions.{DeskState}
use Rattle.bt_text.specs.declared.fault.Fault.{Fault}
use Rattle.bt_text.specs.declared.fault.Fault.TheVariants as faults
use Rattle.bt_text.specs.Scripts.{AreBlank, EndsAfter, IsPrintedBy, MaySetRules, SetsRules, StopsOpening, lines_of, line_at}
use Rattle.bt_text.specs.Setups.{setup_in}
use Rattle.bt_text.specs.PlayedLines.{IsDesk, IsPrintedOf, Stage, TakesFront, TakesLine, TakesLines, opened, playing, silent}
use Rattle.bt_text.specs.declared.script.setup.Setup.{Setup}
use Rattle.bt_history.specs.declared.rules.Rules.{Rules}
use Rattle.bt_meta.specs.Layout.{piece_count}

-- one more line behind these
takes_behind : (old mid new : Stage) (lines : List (List ℕ)) (line text said : List ℕ) → TakesLines old mid lines text
    → TakesLine mid new line said → TakesLines old new (lines ++ line ∷ []) (text ++ said)
takes_behind old mid new [] line text said takes this =
    let same : TakesLine old new line said = subst (λ (d : Stage). TakesLine d new line said) takes.0 this in
    (new, said, [], (same, (refl, refl), ap (λ (xs : List ℕ). xs ++ said) takes.1 ∙ sym (append-nil said)))
takes_behind old mid new (first ∷ lines) line text said takes this =
    let next = takes.0 in
    let front = takes.1 in
    let rest = takes.2 in
    let is = takes.3 in
    let more = takes_behind next mid new lines line rest said is.1 this in
    (next, front, rest ++ said, (is.0, more, ap (λ (xs : List ℕ). xs ++ said) is.2 ∙ append_assoc front rest said))

-- one more line of the script
pub takes_more : (old mid new : Stage) (lines : List (List ℕ)) (i : ℕ) (text said : List ℕ) → i < length lines
    → TakesLines old mid (take i lines) text → TakesLine mid new (line_at lines i) said → TakesLines old new (take (i + 1) lines) (text ++ said)
takes_more old mid new lines i text said lt takes this =
    subst (λ (ls : List (List ℕ)). TakesLines old new ls (text ++ said)) (sym (take_more lines i [] lt))
    (takes_behind old mid new (take i lines) (line_at lines i) text said takes this)

-- empty lines before the first do nothing
takes_blank : (lines : List (List ℕ)) (n : ℕ) → n ≤ length lines → AreBlank lines 0 n → TakesLines silent silent (take n lines) []
takes_blank lines zero le blank = (refl, refl)
takes_blank lines (suc n) le blank =
    let next : n + 1 ≡ suc n = omega arith in
    let front = takes_blank lines n (omega (arith, le)) (λ k low lt. blank k low (omega (arith, lt))) in
    subst (λ (m : ℕ). TakesLines silent silent (take m lines) []) next
    (takes_more silent silent silent lines n [] [] (omega (arith, le)) front (blank n (omega arith) (omega arith), refl))

-- nor do so many behind it
takes_gap : (lines : List (List ℕ)) (setup : Setup) (start count : ℕ) → start + count ≤ length lines → AreBlank lines start (start + count)
    → TakesLines silent (opened setup) (take start lines) [] → TakesLines silent (opened setup) (take (start + count) lines) []
takes_gap lines setup start zero le blank front =
    let same : start ≡ start + 0 = omega arith in
    subst (λ (m : ℕ). TakesLines silent (opened setup) (take m lines) []) same front
takes_gap lines setup start (suc count) le blank front =
    let next : start + count + 1 ≡ start + suc count = omega arith in
    let before = takes_gap lines setup start count (omega (arith, le)) (λ k low lt. blank k low (omega (arith, lt))) front in
    subst (λ (m : ℕ). TakesLines silent (opened setup) (take m lines) []) next
    (takes_more silent (opened setup) (opened setup) lines (start + count) [] [] (omega (arith, le)) before
    (refl, blank (start + count) (omega arith) (omega arith), refl))

-- the line that sets the rules opens the desk
takes_rules : (lines : List (List ℕ)) (setup : Setup) (start : ℕ) (rules : Rules) (n : ℕ) (desk : DeskState)
    → SetsRules lines (piece_count setup.torrent.layout) start rules n → IsDesk setup rules desk
    → TakesLines silent (opened setup) (take start lines) [] → TakesFront lines n desk
takes_rules lines setup start rules n desk sets is front =
    let far : start + (sets.line - start) ≡ sets.line = omega (arith, sets.behind) in
    let blank = subst (AreBlank lines start) (sym far) sets.blank in
    let within = sets.within in
    let gap = subst (λ (m : ℕ). TakesLines silent (opened setup) (take m lines) []) far
    (takes_gap lines setup start (sets.line - start) (omega (arith, far, within)) blank front) in
    subst (λ (m : ℕ). TakesLines silent (playing desk) (take m lines) []) (sym sets.number)
    (takes_more silent (opened setup) (playing desk) lines sets.line [] [] within gap (record { rules = rules; said = sets.said; is = is }, refl))

-- the lines that open a script open its desk
pub takes_front : (lines : List (List ℕ)) (first : ℕ) (setup : Setup) (rules : Rules) (n : ℕ) (desk : DeskState) → first < length lines
    → AreBlank lines 0 first → setup_in (line_at lines first) ≡ Some setup
    → MaySetRules lines (piece_count setup.torrent.layout) (first + 1) rules n → IsDesk setup rules desk → TakesFront lines n desk
takes_front lines first setup rules n desk lt blank said (inl sets) is =
    takes_rules lines setup (first + 1) rules n desk sets is
    (takes_more silent silent (opened setup) lines first [] [] lt (takes_blank lines first (omega (arith, lt)) blank) (said, refl))
takes_front lines first setup rules n desk lt blank said (inr none) is =
    let usual = subst (λ (r : Rules). IsDesk setup r desk) none.0 is in
    subst (λ (m : ℕ). TakesLines silent (playing desk) (take m lines) []) (sym none.1)
    (takes_more silent silent (playing desk) lines first [] [] lt (takes_blank lines first (omega (arith, lt)) blank)
    (record { setup = setup; said = said; is = usual }, refl))

printed_of : (input : List ℕ) (lines : List (List ℕ)) (k : ℕ) (stage : Stage) (text : List ℕ) → lines ≡ lines_of input
    → TakesLines silent stage (take k lines) text → IsPrintedOf (take k (lines_of input)) text
printed_of input lines k stage text e takes =
    record { stage = stage; takes = subst (λ (ls : List (List ℕ)). TakesLines silent stage (take k ls) text) e takes }

nothing_printed : (input : List ℕ) (lines : List (List ℕ)) (fault : Fault) (n : ℕ) → lines ≡ lines_of input → EndsAfter input (Err fault) n
    → n ≤ length lines → AreBlank lines 0 n → IsPrintedBy input (Err fault) []
nothing_printed input lines fault n e ends le blank =
    record { count = n; ends = ends; is = printed_of input lines n silent [] e (takes_blank lines n le blank) }

unopened : (input : List ℕ) (lines : List (List ℕ)) (fault : Fault) → lines ≡ lines_of input → StopsOpening lines fault
    → IsPrintedBy input (Err fault) []
unopened input lines (faults.Line n) e (inl lacks) =
    nothing_printed input lines (faults.Line n) 0 e (lacks.number ∙ omega arith) (omega arith) (λ k low lt. absurd (omega (arith, lt)))
unopened input lines (faults.Line n) e (inr fails) =
    let within = fails.within in
    nothing_printed input lines (faults.Line n) fails.first e fails.number (omega (arith, within)) fails.blank
unopened input lines (faults.Metainfo fault) e stops = absurd stops
unopened input lines (faults.Want fault) e stops = absurd stops
unopened input lines faults.Random e stops = absurd stops
unopened input lines faults.File e stops = nothing_printed input lines faults.File 0 e tt (omega arith) (λ k low lt. absurd (omega (arith, lt)))
unopened input lines faults.Memory e stops = nothing_printed input lines faults.Memory 0 e tt (omega arith) (λ k low lt. absurd (omega (arith, lt)))
unopened input lines faults.NoThread e stops = absurd stops
unopened input lines (faults.Gather fault) e stops = absurd stops

-- a script that wasn't opened
pub printed_unopened : (input : List ℕ) (lines : List (List ℕ)) (r : Result (Unit {0}) Fault) (fault : Fault) (text : List ℕ)
    → lines ≡ lines_of input → IsErrAnd r (λ x. x ≡ fault) → StopsOpening lines fault → text ≡ [] → IsPrintedBy input r text
printed_unopened input lines (Ok done) fault text e is stops none = absurd is
printed_unopened input lines (Err other) fault text e is stops none =
    subst (IsPrintedBy input (Err other)) (sym none) (unopened input lines other e (subst (StopsOpening lines) (sym is) stops))
