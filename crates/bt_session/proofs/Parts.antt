-- The workers of a run before and after its work: those of its sessions, its checkers, and the last.
use Rattle.std.proofs.Common.{◌≡◌, ◌<◌, ◌+◌, ℕ, Bool, true, List, [], ◌∷◌, ◌++◌, length, get_or, map, sym, subst, arith, Result}
use Rattle.std.specs.List.{list_any}
use Rattle.std.proofs.lemmas.List.Folds.{list_any_at}
use Rattle.std.proofs.lemmas.List.{get_or-map}
use Rattle.bt_history.specs.Setting.{Setting}
use Rattle.bt_peer.specs.declared.fault.End.{End}
use Rattle.bt_peer.specs.declared.fault.SessionFault.{SessionFault}
use Rattle.bt_peer.specs.Serial.{StreamRecord}
use Rattle.bt_peer.specs.SessionTerms.{TermsState}
use Rattle.bt_session.proofs.Rows.{at_first, at_last, at_second}
use Rattle.bt_session.specs.Checking.{CheckersWork, EachMakesChecks}
use Rattle.bt_session.specs.PieceChecks.{MakesChecks}
use Rattle.bt_session.specs.Swarms.{EachRunsSession}
use Rattle.bt_session.specs.Runs.{ChecksLast, RunsSession}
use Rattle.bt_session.specs.Workers.{WorkerState}

-- how the workers were parted, and put together again
pub record Parted (n m : ℕ) (all all' sessions checkers ended stopped : List WorkerState) (last last' : WorkerState) : Type 0 where
  pub before : all ≡ (sessions ++ checkers) ++ last ∷ []
  pub after : all' ≡ (ended ++ stopped) ++ last' ∷ []
  pub many : length sessions ≡ n
  pub many_checkers : length checkers ≡ m
  pub many_ended : length ended ≡ n
  pub many_stopped : length stopped ≡ m

-- what a session gave up is given up in all
pub given_up_in_all : (outcome : Result End SessionFault) (terms : TermsState) (setting : Setting) (seed : ℕ) (worker worker' : WorkerState)
    (old new : StreamRecord) (given_up more : Bool) → (given_up ≡ true → more ≡ true) →
    RunsSession outcome terms setting seed worker old worker' new given_up →
    RunsSession outcome terms setting seed worker old worker' new more
given_up_in_all outcome terms setting seed worker worker' old new given_up more up ran = record {
  lacked = ran.lacked;
  noted = λ lacked. up (ran.noted lacked);
  number = ran.number;
  runs = ran.runs;
}

-- A session whose results were split into lists, part by part. Something is given up where any of them gave something up
pub runs_among : {A X : Type 0} (end_of : A → Result End SessionFault) (worker_of : A → WorkerState) (stream_of : A → X) (given_up_of : A → Bool)
    (record_of : X → StreamRecord) (terms : TermsState) (setting : Setting) (seed : ℕ) (all : List A) (i : ℕ) (d : A) (worker : WorkerState)
    (old : StreamRecord) → i < length all →
    RunsSession (end_of (get_or all i d)) terms setting seed worker old (worker_of (get_or all i d)) (record_of (stream_of (get_or all i d)))
    (given_up_of (get_or all i d)) →
    RunsSession (get_or (map end_of all) i (end_of d)) terms setting seed worker old (get_or (map worker_of all) i (worker_of d))
    (record_of (get_or (map stream_of all) i (stream_of d))) (list_any given_up_of all)
runs_among end_of worker_of stream_of given_up_of record_of terms setting seed all i d worker old below ran =
    given_up_in_all _ terms setting seed worker _ old _ (given_up_of (get_or all i d)) (list_any given_up_of all)
    (list_any_at given_up_of all i d below) (rw (
      get_or-map end_of all i d (end_of d) below,
      get_or-map worker_of all i d (worker_of d) below,
      get_or-map stream_of all i d (stream_of d) below,
    ) ran)

module _ {n m : ℕ} {all all' sessions checkers ended stopped : List WorkerState} {last last' : WorkerState}
    (parts : Parted n m all all' sessions checkers ended stopped last last') where
  pub all_run : {X : Type 0} (record_of : X → StreamRecord) (terms : TermsState) (setting : Setting) (seed : ℕ) (streams streams' : List X)
      (ends : List (Result End SessionFault)) (given_up : Bool) → length streams ≡ n →
      EachRunsSession record_of terms setting seed sessions streams ends ended streams' given_up →
      EachRunsSession record_of terms setting seed all streams ends all' streams' given_up
  all_run record_of terms setting seed streams streams' ends given_up many each i worker stream end below =
      let less : i < n = omega (arith, below, many) in
      let outcome = get_or ends i end in
      let old = record_of (get_or streams i stream) in
      let new = record_of (get_or streams' i stream) in
      subst (λ (w : WorkerState). RunsSession outcome terms setting seed w old (get_or all' i worker) new given_up)
      (sym (at_first all sessions checkers last n m parts.before parts.many parts.many_checkers i worker less))
      (subst (λ (w : WorkerState). RunsSession outcome terms setting seed (get_or sessions i worker) old w new given_up)
      (sym (at_first all' ended stopped last' n m parts.after parts.many_ended parts.many_stopped i worker less))
      (each i worker stream end below))

  pub all_check : EachMakesChecks checkers stopped → CheckersWork n m all all'
  all_check each i any below =
      subst (λ (w : WorkerState). MakesChecks w.pass (get_or all' (n + i) any).pass)
      (sym (at_second all sessions checkers last n m parts.before parts.many parts.many_checkers i any below))
      (subst (λ (w : WorkerState). MakesChecks (get_or checkers i any).pass w.pass)
      (sym (at_second all' ended stopped last' n m parts.after parts.many_ended parts.many_stopped i any below))
      (each i any (omega (arith, below, parts.many_checkers))))

  pub last_check : (pieces : ℕ) → ChecksLast last.pass last'.pass pieces → (any : WorkerState) →
      ChecksLast (get_or all (n + m) any).pass (get_or all' (n + m) any).pass pieces
  last_check pieces did any =
      subst (λ (w : WorkerState). ChecksLast w.pass (get_or all' (n + m) any).pass pieces)
      (sym (at_last all sessions checkers last n m parts.before parts.many parts.many_checkers any))
      (subst (λ (w : WorkerState). ChecksLast last.pass w.pass pieces)
      (sym (at_last all' ended stopped last' n m parts.after parts.many_ended parts.many_stopped any)) did)
