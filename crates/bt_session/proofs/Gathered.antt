-- The logs of a run's sessions, of its checkers and of its last worker, once they were gathered.
use Rattle.std.proofs.Common.{◌≡◌, ◌⊎◌, inl, inr, ℕ, zero, suc, ◌+◌, ◌-◌, ◌==◌, ◌<◌, ◌≤◌, false, true, Bool, List, [], ◌∷◌, length, map, get_or, refl}
use Rattle.std.proofs.Common.{sym, ap, subst, ◌∙◌, arith, eq-eqb, ne_eqb, if◌then◌else◌, Some, slice_get, Result, Err}
use Rattle.std.proofs.lemmas.Option.{slice_get-get_or}
use mathlib.Core.Logic.{dite}
use native.Mathlib.Decide.{dec_le, ℕ_discrete}
use Rattle.std.specs.Global.{Vec}
use Rattle.std.specs.List.{All}
use Rattle.bt_history.specs.declared.mark.Mark.{Mark}
use Rattle.bt_history.specs.History.{History}
use Rattle.bt_history.specs.Pieces.{had}
use Rattle.bt_history.specs.Setting.{Setting}
use Rattle.bt_peer.specs.declared.fault.End.{End}
use Rattle.bt_peer.specs.declared.fault.SessionFault.{SessionFault}
use Rattle.bt_peer.specs.declared.fault.SessionFault.TheVariants.{NoMemory}
use Rattle.bt_peer.specs.Conduct.{generator_of, Calls}
use Rattle.bt_peer.specs.Outcomes.{RunsTo}
use Rattle.bt_peer.specs.Places.{PlaceRecord}
use Rattle.bt_peer.specs.Serial.{StreamRecord}
use Rattle.bt_meta.specs.Layout.{Metainfo, piece_count}
use Rattle.bt_peer.specs.SessionTerms.{TermsState, terms_of}
use Rattle.bt_session.specs.Checking.{CheckersCheck, CheckersWork}
use Rattle.bt_session.proofs.Parts.{given_up_in_all}
use Rattle.bt_session.specs.PieceChecks.{AreChecks}
use Rattle.bt_session.specs.Passes.{no_piece, pass_record, worker_record}
use Rattle.bt_session.specs.Swarms.{EachRunsSession, EachSwarmed, MakesLastChecks, Swarmed, calls_of_marks}
use Rattle.bt_session.specs.Runs.{ChecksLast, ChecksRise, RunsSession}
use Rattle.bt_session.specs.Beginnings.{AreFresh, IsFresh}
use Rattle.bt_session.specs.Workers.{StandInOrder, WorkerState, knows, tells}
use Rattle.bt_history.specs.Logs.{Agrees}
use Rattle.bt_peer.specs.Desks.{calls_in}
use Rattle.bt_session.proofs.Noted.{marks_calls, same_calls}
use Rattle.bt_shared.specs.Closing.{EachKnows}
use Rattle.bt_shared.specs.Gathering.{EachAgrees, EachFrom, log_of}
use Rattle.bt_shared.specs.Passes.{PassState}
use Rattle.bt_shared.specs.Seen.{Knows}

abbrev pub pass_of : WorkerState → PassState
pass_of worker = worker.pass

-- the log of a worker among workers in order, the first of which has this number
log_at : (ws : List WorkerState) (low : ℕ) → ((k : ℕ) (any : WorkerState) → k < length ws → (get_or ws k any).pass.worker ≡ low + k) →
    (i : ℕ) (any : WorkerState) → i < length ws → log_of (low + i) (map pass_of ws) ≡ (get_or ws i any).pass.log
log_at [] low order i any below = absurd (omega (arith, below))
log_at (w ∷ ws) low order zero any below =
    let here : w.pass.worker ≡ low + 0 = order 0 any (omega arith) in
    ap (λ (b : Bool). if b then w.pass.log else log_of (low + 0) (map pass_of ws)) (eq-eqb w.pass.worker (low + 0) here)
log_at (w ∷ ws) low order (suc i) any below =
    let first : w.pass.worker ≡ low + 0 = order 0 any (omega arith) in
    let other : (w.pass.worker == low + suc i) ≡ false = ne_eqb w.pass.worker (low + suc i) (λ same. omega (arith, first, same)) in
    let next : low + suc i ≡ suc low + i = omega arith in
    ap (λ (b : Bool). if b then w.pass.log else log_of (low + suc i) (map pass_of ws)) other
    ∙ (ap (λ (v : ℕ). log_of v (map pass_of ws)) next
    ∙ log_at ws (suc low) (λ k d less. order (suc k) d (omega (arith, less)) ∙ omega arith) i any (omega (arith, below)))

-- what the journal knows of a worker's pass
knows_at : (journal : History) (ws : List WorkerState) → EachKnows journal (map pass_of ws) → (i : ℕ) (any : WorkerState) → i < length ws →
    let pass = (get_or ws i any).pass in Knows journal (pass.worker ∷ []) pass.seen
knows_at journal [] each i any below = absurd (omega (arith, below))
knows_at journal (w ∷ ws) each zero any below = each.0
knows_at journal (w ∷ ws) each (suc i) any below = knows_at journal ws each.1 i any (omega (arith, below))

-- and so of its calls
journal_calls : (journal : History) (pass : PassState) (number : ℕ) → Knows journal (pass.worker ∷ []) pass.seen → pass.worker ≡ number →
    calls_in pass.seen pass.worker ≡ calls_in journal number
journal_calls journal pass number known is =
    sym (same_calls pass.worker journal pass.seen (known.complete pass.worker (inl refl))) ∙ ap (calls_in journal) is

some_of : {X : Type 0} (xs : List X) → 1 ≤ length xs → X
some_of [] some = absurd (omega (arith, some))
some_of (x ∷ xs) some = x

-- a session from a fresh worker to what its worker has then
swarmed_one : (journal : History) (outcome : Result End SessionFault) (terms : TermsState) (setting : Setting) (seed number : ℕ)
    (worker worker' : WorkerState) (old new : StreamRecord) (log : List Mark) (short : Bool) → IsFresh setting number worker →
    RunsSession outcome terms setting seed worker old worker' new short → Knows journal (worker'.pass.worker ∷ []) worker'.pass.seen →
    Agrees journal number log → ((piece : ℕ) → knows setting worker'.seat piece ≡ true → had journal piece ≡ true) →
    Swarmed journal outcome terms setting seed number old log new short
swarmed_one journal outcome terms setting seed number worker worker' old new log short fresh ran seen agrees known =
    let number' : worker'.pass.worker ≡ number = ran.number ∙ fresh.number_is in
    let uncalled : calls_in worker.pass.seen worker.pass.worker ≡ [] = ap (λ (h : History). calls_in h worker.pass.worker) fresh.unseen in
    let called : calls_in worker'.pass.seen worker'.pass.worker ≡ calls_in journal number = journal_calls journal worker'.pass number seen number' in
    let begun : worker_record setting worker false ≡ pass_record setting number [] no_piece no_piece false =
    (λ i. pass_record setting (fresh.number_is i) (uncalled i) (λ piece. fresh.seen piece i) (λ piece. fresh.told piece i) false) in
    let ended : worker_record setting worker' ran.lacked ≡ pass_record setting number (calls_in journal number) (knows setting worker'.seat)
    (tells worker'.seat) ran.lacked =
    (λ i. pass_record setting (number' i) (called i) (knows setting worker'.seat) (tells worker'.seat) ran.lacked) in
    let Runs : ℕ → PlaceRecord → PlaceRecord → Type 0 = λ w first after. RunsTo outcome terms w (generator_of seed w) first old after new in
    record {
      known = knows setting worker'.seat;
      told = tells worker'.seat;
      lacked = ran.lacked;
      noted = ran.noted;
      finished = known;
      logged = ap calls_of_marks agrees.exact ∙ marks_calls journal number;
      runs = subst (Runs number (pass_record setting number [] no_piece no_piece false)) ended
          (subst (λ (p : PlaceRecord). Runs number p (worker_record setting worker' ran.lacked)) begun
          (subst (λ (w : ℕ). Runs w (worker_record setting worker false) (worker_record setting worker' ran.lacked)) fresh.number_is ran.runs));
    }

-- The workers before and after the work of a run: they were fresh, those of the streams ran sessions, the checkers checked, and the last made the
-- last checks
pub record Ran {X : Type 0} (record_of : X → StreamRecord) (terms : TermsState) (setting : Setting) (seed n m pieces : ℕ)
    (workers workers' : List WorkerState) (streams streams' : List X) (ends : List (Result End SessionFault)) (given_up : Bool) : Type 0 where
  pub some : 1 ≤ n
  pub fresh : AreFresh setting workers
  pub many : length workers ≡ n + m + 1
  pub many' : length workers' ≡ n + m + 1
  pub many_streams : length streams ≡ n
  pub each : EachRunsSession record_of terms setting seed workers streams ends workers' streams' given_up
  pub checks : CheckersWork n m workers workers'
  pub last : (any : WorkerState) → ChecksLast (get_or workers (n + m) any).pass (get_or workers' (n + m) any).pass pieces

-- from what the calls of the run promise, of a torrent by another name
pub ran_by : {X : Type 0} {record_of : X → StreamRecord} {made torrent : Metainfo} {depth : ℕ} {setting : Setting} {seed n m : ℕ}
    {workers workers' : List WorkerState} {streams streams' : List X} {ends : List (Result End SessionFault)} {given_up : Bool} → made ≡ torrent →
    1 ≤ n → AreFresh setting workers → length workers ≡ n + m + 1 → length workers' ≡ length workers → length streams ≡ n →
    EachRunsSession record_of (terms_of made depth) setting seed workers streams ends workers' streams' given_up → CheckersWork n m workers workers' →
    ((any : WorkerState) → ChecksLast (get_or workers (n + m) any).pass (get_or workers' (n + m) any).pass (piece_count made.layout)) →
    Ran record_of (terms_of torrent depth) setting seed n m (piece_count torrent.layout) workers workers' streams streams' ends given_up
ran_by is some fresh many same many_streams ran checks last = record {
  some = some;
  fresh = fresh;
  many = many;
  many' = same ∙ many;
  many_streams = many_streams;
  each = rw (← is) ran;
  checks = checks;
  last = rw (← is) last;
}

module _ {X : Type 0} {record_of : X → StreamRecord} {terms : TermsState} {setting : Setting} {seed n m pieces : ℕ}
    {workers workers' : List WorkerState} {streams streams' : List X} {ends : List (Result End SessionFault)} {given_up : Bool}
    (ran : Ran record_of terms setting seed n m pieces workers workers' streams streams' ends given_up) where
  fresh_at : (i : ℕ) (any : WorkerState) → i < n + m + 1 → IsFresh setting i (get_or workers i any)
  fresh_at i any below = let zeroth : 0 + i ≡ i = omega arith in
      subst (λ (k : ℕ). IsFresh setting k (get_or workers i any)) zeroth (ran.fresh i any (omega (arith, below, ran.many)))

  number : (i : ℕ) (any : WorkerState) → i < n + m + 1 → (get_or workers i any).pass.worker ≡ i
  number i any below = (fresh_at i any below).number_is

  -- which of the workers it is
  order_by : (i : ℕ) (any : WorkerState) → i < n + m + 1 → (i < n) ⊎ ((n ≤ i) × (i < n + m)) ⊎ (i ≡ n + m) → (get_or workers' i any).pass.worker ≡ i
  order_by i any below (inl session) =
      let stream = some_of streams (omega (arith, ran.some, ran.many_streams)) in
      (ran.each i any stream (Err NoMemory) (omega (arith, session, ran.many_streams))).number ∙ number i any below
  order_by i any below (inr (inl checker)) =
      let k = i - n in
      let at : n + k ≡ i = omega (arith, checker.0) in
      subst (λ (j : ℕ). (get_or workers' j any).pass.worker ≡ j) at
      ((ran.checks k any (omega (arith, checker.1, at))).worker ∙ number (n + k) any (omega (arith, below, at)))
  order_by i any below (inr (inr at)) =
      subst (λ (j : ℕ). (get_or workers' j any).pass.worker ≡ j) (sym at) ((ran.last any).worker ∙ number (n + m) any (omega arith))

  which : (i : ℕ) → i < n + m + 1 → (i < n) ⊎ ((n ≤ i) × (i < n + m)) ⊎ (i ≡ n + m)
  which i below =
      dite (dec_le (suc i) n) (λ low. inl (omega (arith, low)))
      (λ high. dite (ℕ_discrete i (n + m)) (λ at. inr (inr at)) (λ apart. inr (inl (omega (arith, high), omega (arith, below, apart)))))

  pub in_order : StandInOrder workers'
  in_order i any below = order_by i any (omega (arith, below, ran.many')) (which i (omega (arith, below, ran.many'))) ∙ omega arith

  module _ (logs : List (Vec Mark)) (journal : History)
      (from : EachFrom (map pass_of workers') logs)
      (agrees : EachAgrees journal logs)
      (seen : EachKnows journal (map pass_of workers'))
      (room : length logs ≡ n + m + 1)
      (known : All (λ w. (piece : ℕ) → knows setting w.seat piece ≡ true → had journal piece ≡ true) workers') where
    log_is : (w : ℕ) (log : Vec Mark) (any : WorkerState) → w < n + m + 1 → slice_get logs w ≡ Some log →
        log.items ≡ (get_or workers' w any).pass.log
    log_is w log any below at =
        let zeroth : w ≡ 0 + w = omega arith in
        from w log at
        ∙ (ap (λ (v : ℕ). log_of v (map pass_of workers')) zeroth ∙ log_at workers' 0 in_order w any (omega (arith, below, ran.many')))

    -- whatever gives something up with the sessions
    pub swarmed : (whole : Bool) → (given_up ≡ true → whole ≡ true) →
        EachSwarmed record_of terms setting seed streams journal logs streams' ends whole
    swarmed whole up i stream log end below =
        let less : i < n = omega (arith, below, ran.many_streams) in
        let any = some_of workers (omega (arith, ran.many)) in
        let at = slice_get-get_or logs i log (omega (arith, less, room)) in
        swarmed_one journal (get_or ends i end) terms setting seed i (get_or workers i any) (get_or workers' i any)
        (record_of (get_or streams i stream)) (record_of (get_or streams' i stream)) (get_or logs i log).items whole
        (fresh_at i any (omega (arith, less))) (given_up_in_all _ _ _ _ _ _ _ _ given_up whole up (ran.each i any stream end below))
        (knows_at journal workers' seen i any (omega (arith, less, ran.many'))) (agrees i (get_or logs i log) at)
        (known i any (omega (arith, less, ran.many')))

    pub checkers_check : CheckersCheck n m logs
    checkers_check i log below at =
        let any = some_of workers (omega (arith, ran.many)) in
        let did = ran.checks i any below in
        let none : AreChecks (get_or workers (n + i) any).pass.log =
        subst AreChecks (sym (fresh_at (n + i) any (omega (arith, below))).log) tt in
        subst AreChecks (sym (log_is (n + i) log any (omega (arith, below)) at)) (did.checks none)

    pub finished : MakesLastChecks (n + m) logs pieces
    finished log at =
        let any = some_of workers (omega (arith, ran.many)) in
        let none : (get_or workers (n + m) any).pass.log ≡ [] = (fresh_at (n + m) any (omega arith)).log in
        subst (λ (l : List Mark). ChecksRise 0 l pieces) (sym (log_is (n + m) log any (omega arith) at)) ((ran.last any).rise none)
