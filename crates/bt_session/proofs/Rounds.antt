-- Rounds of a checker, one after the other.
use Rattle.std.proofs.Common.{◌≡◌, ℕ, Bool, true, List, [], ◌∷◌, ◌++◌, refl, subst, sym, ap}
use Rattle.std.specs.Prelude.{◌||◌}
use Rattle.bt_history.specs.Setting.{Setting}
use Rattle.bt_session.proofs.PieceChecks.{checks_none}
use Rattle.bt_session.proofs.Through.{checks_after}
use Rattle.bt_session.specs.Checking.{ChecksTickets}
use Rattle.bt_session.specs.PieceChecks.{GoesThrough, MakesRound, MakesRounds, SeesToTickets, TakesRound}
use Rattle.bt_session.specs.Workers.{WorkerState}

-- what is told of them is told of more
rounds_told : (s : Setting) (old new : WorkerState) (rounds : List (List ℕ)) (in_all more : Bool) → (in_all ≡ true → more ≡ true) →
    MakesRounds s old rounds in_all new → MakesRounds s old rounds more new
rounds_told s old new [] in_all more up same = same
rounds_told s old new (pieces ∷ rounds) in_all more up (mid, (round, rest)) = (
  mid,
  (
    record {
      taken = round.taken;
      is_last = round.is_last;
      given_up = round.given_up;
      told = λ is. up (round.told is);
      takes = round.takes;
      sees = round.sees;
    },
    rounds_told s mid new rounds in_all more up rest,
  ),
)

rounds_last : (s : Setting) (old mid new : WorkerState) (rounds : List (List ℕ)) (pieces : List ℕ) (in_all : Bool) →
    MakesRounds s old rounds in_all mid → MakesRound s mid pieces in_all new → MakesRounds s old (rounds ++ pieces ∷ []) in_all new
rounds_last s old mid new [] pieces in_all same round =
    (new, (subst (λ (w : WorkerState). MakesRound s w pieces in_all new) same round, refl))
rounds_last s old mid new (first ∷ rounds) pieces in_all (next, (made, rest)) round =
    (next, (made, rounds_last s next mid new rounds pieces in_all rest round))

or_first : (a b : Bool) → a ≡ true → (a || b) ≡ true
or_first true b is = refl
or_first _ b is = absurd (cc is)

or_second : (a b : Bool) → b ≡ true → (a || b) ≡ true
or_second true b is = refl
or_second _ b is = is

rounds_on : (s : Setting) (first old taken new : WorkerState) (pieces : List ℕ) (is_last in_all told : Bool) → SeesToTickets s first in_all old →
    TakesRound old pieces is_last taken → GoesThrough s taken pieces told new → SeesToTickets s first (in_all || told) new
rounds_on s first old taken new pieces is_last in_all told (rounds, made) takes goes = (
  rounds ++ pieces ∷ [],
  rounds_last s first old new rounds pieces (in_all || told) (rounds_told s first old rounds in_all (in_all || told) (or_first in_all told) made)
      (record { taken = taken; is_last = is_last; given_up = told; told = or_second in_all told; takes = takes; sees = goes }),
)

-- before the first round
pub tickets_none : (s : Setting) (worker : WorkerState) (in_all : Bool) → ChecksTickets s worker in_all worker
tickets_none s worker in_all = record { makes = checks_none worker.pass; sees = ([], refl) }

-- one round more
pub tickets_on : (s : Setting) (first old taken new : WorkerState) (pieces : List ℕ) (is_last in_all told : Bool) → ChecksTickets s first in_all old →
    TakesRound old pieces is_last taken → GoesThrough s taken pieces told new → ChecksTickets s first (in_all || told) new
tickets_on s first old taken new pieces is_last in_all told was takes goes = record {
  makes = checks_after s first.pass old taken new pieces pieces is_last told was.makes takes goes;
  sees = rounds_on s first old taken new pieces is_last in_all told was.sees takes goes;
}
