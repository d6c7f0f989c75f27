-- Several pieces that were seen to, one after the other.
use Rattle.std.proofs.Common.{◌≡◌, ◌≤◌, ◌<◌, ℕ, zero, suc, ◌+◌, Bool, true, false, List, [], ◌∷◌, ◌++◌, get_or, length, take, Option}
use Rattle.std.proofs.Common.{refl, sym, ap, subst, ◌∙◌, inl, inr, arith}
use Rattle.std.specs.Prelude.{◌||◌, if◌then◌else◌, nat_lt}
use Rattle.std.proofs.lemmas.Bool.{lt-ltb}
use Rattle.std.proofs.lemmas.List.{take_all}
use Rattle.bt_history.specs.declared.mark.CallMark.TheVariants.{Settle}
use Rattle.bt_history.specs.declared.mark.Mark.{Mark}
use Rattle.bt_history.specs.Setting.{Setting}
use Rattle.bt_shared.specs.Passes.{PassState, mark}
use Rattle.bt_session.proofs.PieceChecks.{checks_on}
use Rattle.bt_session.proofs.Rising.{goes_on}
use Rattle.bt_session.specs.PieceChecks.{EndsRound, GoesThrough, IsIdle, IsQuiet, MakesChecks, MayCheck, SeesOrGivesUp, SeesTo}
use Rattle.bt_session.specs.PieceChecks.{TakesPiece, TakesPieces, TakesRound}
use Rattle.bt_session.specs.Runs.{ChecksLast, ChecksRise}
use Rattle.bt_session.specs.Workers.{AreChecksOf, BeginWith, WorkerState}
use Rattle.bt_shared.specs.SharedJobs.{JobState}
use Rattle.atomic_table.specs.Seated.{TableId}

-- ---- steps that note nothing

pub idle_same : (worker : WorkerState) → IsIdle worker worker
idle_same worker = record { quiet = record { worker = refl; log = refl }; seat = refl }

pub idle_then : (a b c : WorkerState) → IsIdle a b → IsIdle b c → IsIdle a c
idle_then a b c one two = record {
  quiet = record { worker = two.quiet.worker ∙ one.quiet.worker; log = two.quiet.log ∙ one.quiet.log };
  seat = two.seat ∙ one.seat;
}

-- behind such steps a worker sees to a piece as it does without them
sees_after : (s : Setting) (a b c : WorkerState) (piece : ℕ) → IsIdle a b → SeesTo s b piece c → SeesTo s a piece c
sees_after s a b c piece idle sees =
    elim sees [
      | inl made ↦ inl (record {
        reply = made.reply;
        notes = record {
          place = made.notes.place;
          worker = made.notes.worker ∙ idle.quiet.worker;
          log = made.notes.log ∙ ap (λ (log : List Mark). log ++ mark made.notes.place (Settle piece) made.reply ∷ []) idle.quiet.log;
        };
        marks = made.marks;
        unmarked = λ other. made.unmarked other ∙ idle.seat;
      })
      | inr none ↦ inr (record { idle = idle_then a b c idle none.idle; undue = none.undue })
    ]

one_after : (s : Setting) (a b c : WorkerState) (piece : ℕ) (given_up : Bool) → IsIdle a b → SeesOrGivesUp s b piece given_up c →
    SeesOrGivesUp s a piece given_up c
one_after s a b c piece given_up idle ends =
    elim ends [
      | inl sees ↦ inl (sees_after s a b c piece idle sees)
      | inr none ↦ inr (idle_then a b c idle none.0, none.1)
    ]

pub goes_after : (s : Setting) (a b c : WorkerState) (pieces : List ℕ) (given_up : Bool) → IsIdle a b → GoesThrough s b pieces given_up c →
    GoesThrough s a pieces given_up c
goes_after s a b c [] given_up idle goes = idle_then a b c idle goes
goes_after s a b c (piece ∷ pieces) given_up idle goes =
    record { between = goes.between; sees = one_after s a b goes.between piece given_up idle goes.sees; rest = goes.rest }

-- ---- one piece more

or_left : (a b : Bool) → a ≡ true → (a || b) ≡ true
or_left true b is = refl
or_left false b is = absurd cc

or_right : (a b : Bool) → b ≡ true → (a || b) ≡ true
or_right true b is = refl
or_right false b is = is

one_tells : (s : Setting) (old new : WorkerState) (piece : ℕ) (a b : Bool) → (a ≡ true → b ≡ true) → SeesOrGivesUp s old piece a new →
    SeesOrGivesUp s old piece b new
one_tells s old new piece a b tells ends = elim ends [ inl sees ↦ inl sees | inr none ↦ inr (none.0, tells none.1) ]

all_tell : (s : Setting) (old new : WorkerState) (pieces : List ℕ) (a b : Bool) → (a ≡ true → b ≡ true) → GoesThrough s old pieces a new →
    GoesThrough s old pieces b new
all_tell s old new [] a b tells goes = goes
all_tell s old new (piece ∷ pieces) a b tells goes =
    record {
      between = goes.between;
      sees = one_tells s old goes.between piece a b tells goes.sees;
      rest = all_tell s goes.between new pieces a b tells goes.rest;
    }

goes_then : (s : Setting) (first old new : WorkerState) (pieces : List ℕ) (piece : ℕ) (told : Bool) → GoesThrough s first pieces told old →
    SeesOrGivesUp s old piece told new → GoesThrough s first (pieces ++ piece ∷ []) told new
goes_then s first old new [] piece told goes ends =
    record { between = new; sees = one_after s first old new piece told goes ends; rest = idle_same new }
goes_then s first old new (next ∷ pieces) piece told goes ends =
    record { between = goes.between; sees = goes.sees; rest = goes_then s goes.between old new pieces piece told goes.rest ends }

pub goes_more : (s : Setting) (first old new : WorkerState) (pieces : List ℕ) (piece : ℕ) (a b : Bool) → GoesThrough s first pieces a old →
    SeesOrGivesUp s old piece b new → GoesThrough s first (pieces ++ piece ∷ []) (a || b) new
goes_more s first old new pieces piece a b goes ends =
    goes_then s first old new pieces piece (a || b) (all_tell s first old pieces a (a || b) (or_left a b) goes)
    (one_tells s old new piece b (a || b) (or_right a b) ends)

goes_both : (s : Setting) (first old new : WorkerState) (pieces others : List ℕ) (told : Bool) → GoesThrough s first pieces told old →
    GoesThrough s old others told new → GoesThrough s first (pieces ++ others) told new
goes_both s first old new [] others told one two = goes_after s first old new others told one two
goes_both s first old new (piece ∷ pieces) others told one two =
    record { between = one.between; sees = one.sees; rest = goes_both s one.between old new pieces others told one.rest two }

-- some pieces, and then others
pub goes_further : (s : Setting) (first old new : WorkerState) (pieces others : List ℕ) (a b : Bool) → GoesThrough s first pieces a old →
    GoesThrough s old others b new → GoesThrough s first (pieces ++ others) (a || b) new
goes_further s first old new pieces others a b one two =
    goes_both s first old new pieces others (a || b) (all_tell s first old pieces a (a || b) (or_left a b) one)
    (all_tell s old new others b (a || b) (or_right a b) two)

-- the first of four pieces, two or more
first_some : (p q r t n : ℕ) → 2 ≤ n →
    ((p ∷ q ∷ []) ++ (if nat_lt 2 n then r ∷ [] else [])) ++ (if nat_lt 3 n then t ∷ [] else []) ≡ take n (p ∷ q ∷ r ∷ t ∷ [])
first_some p q r t zero some = absurd (omega (arith, some))
first_some p q r t (suc zero) some = absurd (omega (arith, some))
first_some p q r t (suc (suc zero)) some = refl
first_some p q r t (suc (suc (suc zero))) some = refl
first_some p q r t (suc (suc (suc (suc n)))) some =
    let all : ℕ = suc (suc (suc (suc n))) in
    let third : nat_lt 2 all ≡ true = lt-ltb 2 all (omega arith) in
    let fourth : nat_lt 3 all ≡ true = lt-ltb 3 all (omega arith) in
    rw (third, fourth, take_all all (p ∷ q ∷ r ∷ t ∷ []) (omega arith)) refl

-- two checks in a row, and two more where they are asked for
pub first_in_a_row : (s : Setting) (w a b d e : WorkerState) (p q r t n : ℕ) (x y z u : Bool) → 2 ≤ n → SeesOrGivesUp s w p x a →
    SeesOrGivesUp s a q y b → GoesThrough s b (if nat_lt 2 n then r ∷ [] else []) z d →
    GoesThrough s d (if nat_lt 3 n then t ∷ [] else []) u e → GoesThrough s w (take n (p ∷ q ∷ r ∷ t ∷ [])) (((x || y) || z) || u) e
first_in_a_row s w a b d e p q r t n x y z u some first second third fourth =
    let one = goes_more s w w a [] p false x (idle_same w) first in
    let two = goes_more s w a b (p ∷ []) q x y one second in
    let three = goes_further s w b d (p ∷ q ∷ []) (if nat_lt 2 n then r ∷ [] else []) (x || y) z two third in
    subst (λ (pieces : List ℕ). GoesThrough s w pieces (((x || y) || z) || u) e) (first_some p q r t n some)
    (goes_further s w d e ((p ∷ q ∷ []) ++ (if nat_lt 2 n then r ∷ [] else [])) (if nat_lt 3 n then t ∷ [] else []) ((x || y) || z) u three fourth)

-- ---- pieces of the lanes

-- three pieces stand in the first three lanes
pub three_first : (pieces : List ℕ) → 3 ≤ length pieces → length pieces < 4 →
    take (length pieces) (get_or pieces 0 0 ∷ get_or pieces 1 0 ∷ get_or pieces 2 0 ∷ get_or pieces 0 0 ∷ []) ≡ pieces
three_first [] some few = absurd (omega (arith, some))
three_first (a ∷ []) some few = absurd (omega (arith, some))
three_first (a ∷ b ∷ []) some few = absurd (omega (arith, some))
three_first (a ∷ b ∷ c ∷ []) some few = refl
three_first (a ∷ b ∷ c ∷ d ∷ others) some few = absurd (omega (arith, few))

-- the jobs of the lanes begin with those of the pieces that the lanes begin with
pub begin_with : (desk : Option TableId) (setting : Setting) (pieces lanes : List ℕ) (jobs : List JobState) → 2 ≤ length pieces →
    take (length pieces) lanes ≡ pieces → AreChecksOf desk setting lanes jobs → BeginWith desk setting pieces jobs
begin_with desk setting pieces lanes jobs some first checks = record {
  of_run = checks.0;
  some = some;
  first = subst (λ (ps : List ℕ). take (length pieces) ps ≡ pieces) checks.1 first;
}

-- ---- the log

may_one : (s : Setting) (old new : WorkerState) (piece : ℕ) (told : Bool) → SeesOrGivesUp s old piece told new → MayCheck old.pass piece new.pass
may_one s old new piece told ends =
    elim ends [
      | inl sees ↦ elim sees [ inl made ↦ inr (made.reply, made.notes) | inr none ↦ inl none.idle.quiet ]
      | inr none ↦ inl none.0.quiet
    ]

checks_through : (s : Setting) (first : PassState) (old new : WorkerState) (pieces : List ℕ) (told : Bool) → MakesChecks first old.pass →
    GoesThrough s old pieces told new → MakesChecks first new.pass
checks_through s first old new [] told makes goes = checks_on first old.pass new.pass 0 makes (inl goes.quiet)
checks_through s first old new (piece ∷ pieces) told makes goes =
    checks_through s first goes.between new pieces told
    (checks_on first old.pass goes.between.pass piece makes (may_one s old goes.between piece told goes.sees)) goes.rest

last_same : (first old new : PassState) (pieces n : ℕ) → IsQuiet old new → pieces ≡ n → ChecksLast first old pieces → ChecksLast first new n
last_same first old new pieces n quiet is was = record {
  worker = quiet.worker ∙ was.worker;
  rise = λ none. subst (λ (log : List Mark). ChecksRise 0 log n) (sym quiet.log) (subst (λ (m : ℕ). ChecksRise 0 old.log m) is (was.rise none));
}

last_one : (s : Setting) (first : PassState) (old new : WorkerState) (piece n : ℕ) (told : Bool) → ChecksLast first old.pass n → n ≡ piece →
    SeesOrGivesUp s old piece told new → ChecksLast first new.pass (piece + 1)
last_one s first old new piece n told was is ends =
    goes_on first old.pass new.pass piece (subst (λ (m : ℕ). ChecksLast first old.pass m) is was) (may_one s old new piece told ends)

-- the checks of four more pieces were asked for
pub last_four : (s : Setting) (first : PassState) (old new : WorkerState) (piece n : ℕ) (told : Bool) → ChecksLast first old.pass piece →
    GoesThrough s old (piece ∷ (piece + 1) ∷ (piece + 2) ∷ (piece + 3) ∷ []) told new → piece + 4 ≡ n → ChecksLast first new.pass n
last_four s first old new piece n told was goes is =
    let second = goes.rest in
    let third = second.rest in
    let fourth = third.rest in
    let a = last_one s first old goes.between piece piece told was refl goes.sees in
    let b = last_one s first goes.between second.between (piece + 1) (piece + 1) told a refl second.sees in
    let c = last_one s first second.between third.between (piece + 2) (piece + 1 + 1) told b (omega arith) third.sees in
    let d = last_one s first third.between fourth.between (piece + 3) (piece + 2 + 1) told c (omega arith) fourth.sees in
    last_same first fourth.between.pass new.pass (piece + 3 + 1) n fourth.rest.quiet (omega (arith, is)) d

-- ---- tickets

-- one ticket more
pub takes_more : (old mid new : WorkerState) (pieces : List ℕ) (piece : ℕ) → TakesPieces old pieces mid → TakesPiece mid piece new →
    TakesPieces old (pieces ++ piece ∷ []) new
takes_more old mid new [] piece takes one = subst (λ (w : WorkerState). TakesPiece w piece new) takes one
takes_more old mid new (next ∷ pieces) piece takes one = takes_more _ mid new pieces piece takes one

taken_pass : (old new : WorkerState) (pieces : List ℕ) → TakesPieces old pieces new → new.pass ≡ old.pass
taken_pass old new [] takes = ap (λ (w : WorkerState). w.pass) takes
taken_pass old new (piece ∷ pieces) takes = taken_pass _ new pieces takes

ended_pass : (old new : WorkerState) (is_last : Bool) → EndsRound old is_last new → new.pass ≡ old.pass
ended_pass old new true ends =
    elim ends [ inl stop ↦ ap (λ (w : WorkerState). w.pass) stop | inr none ↦ ap (λ (w : WorkerState). w.pass) none ]
ended_pass old new false ends = ap (λ (w : WorkerState). w.pass) ends

-- tickets taken leave the log as it is
checks_round : (first : PassState) (old new : WorkerState) (pieces : List ℕ) (is_last : Bool) → MakesChecks first old.pass →
    TakesRound old pieces is_last new → MakesChecks first new.pass
checks_round first old new pieces is_last makes round =
    subst (λ (p : PassState). MakesChecks first p)
    (sym (ended_pass round.between new is_last round.ends ∙ taken_pass old round.between pieces round.takes)) makes

-- a round of tickets, and the checks of its pieces
pub checks_after : (s : Setting) (first : PassState) (old mid new : WorkerState) (taken pieces : List ℕ) (is_last told : Bool) →
    MakesChecks first old.pass → TakesRound old taken is_last mid → GoesThrough s mid pieces told new → MakesChecks first new.pass
checks_after s first old mid new taken pieces is_last told makes round goes =
    checks_through s first mid new pieces told (checks_round first old mid taken is_last makes round) goes
