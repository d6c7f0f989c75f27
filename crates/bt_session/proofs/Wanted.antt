-- At the end of a run in threads each piece is chosen: no worker told otherwise.
use Rattle.std.proofs.Common.{◌≡◌, ◌≢◌, ◌⊎◌, inl, inr, ℕ, ◌+◌, ◌-◌, ◌==◌, ◌<◌, ◌≤◌, false, true, Bool, List, [], ◌∷◌, length, map, get_or, refl, sym}
use Rattle.std.proofs.Common.{ap, subst, ◌∙◌, arith, ne_eqb, slice_get, Some, None, Result, Err}
use Rattle.std.proofs.lemmas.Option.{slice_get-get_or}
use Rattle.std.specs.Prelude.{◌||◌}
use Rattle.std.specs.List.{list_any, All}
use mathlib.Core.Logic.{dite}
use native.Mathlib.Decide.{dec_le, ℕ_discrete}
use Rattle.std.specs.Global.{Vec}
use Rattle.bt_history.proofs.Allowed.{worker_below}
use Rattle.bt_history.specs.declared.call.Reply.{Reply}
use Rattle.bt_history.specs.declared.event.Action.{Action}
use Rattle.bt_history.specs.declared.event.Action.TheVariants as actions
use Rattle.bt_history.specs.declared.mark.CallMark.{CallMark}
use Rattle.bt_history.specs.declared.mark.CallMark.TheVariants.{Settle}
use Rattle.bt_history.specs.declared.mark.Mark.{Mark}
use Rattle.bt_history.specs.History.{History}
use Rattle.bt_history.specs.Legal.{IsLegal}
use Rattle.bt_history.specs.Logs.{Agrees, call_mark}
use Rattle.bt_history.specs.Setting.{Setting}
use Rattle.bt_picker.specs.Positions.{DeskState}
use Rattle.bt_peer.specs.declared.fault.End.{End}
use Rattle.bt_peer.specs.declared.fault.SessionFault.{SessionFault}
use Rattle.bt_peer.specs.declared.fault.SessionFault.TheVariants.{NoMemory}
use Rattle.bt_peer.specs.Conduct.{Calls}
use Rattle.bt_peer.specs.Desks.{calls_in}
use Rattle.bt_peer.specs.Serial.{AreChosen, StreamRecord}
use Rattle.bt_peer.specs.SessionTerms.{TermsState}
use Rattle.bt_peer.proofs.Chosen.{chosen_by}
use Rattle.bt_peer.proofs.Desks.{calls_in-other}
use Rattle.bt_peer.proofs.Wishes.{WishNothing, ended_wish, is_wish}
use Rattle.bt_session.proofs.Noted.{marks_calls}
use Rattle.bt_history.specs.Pieces.{had}
use Rattle.bt_session.proofs.Gathered.{Ran, checkers_check, finished, pass_of, swarmed}
use Rattle.bt_session.specs.PieceChecks.{AreChecks}
use Rattle.bt_session.specs.Runs.{ChecksRise}
use Rattle.bt_session.specs.Swarms.{calls_of_marks, marked}
use Rattle.bt_session.specs.Workers.{WorkerState, knows}
use Rattle.bt_shared.specs.Closing.{EachKnows}
use Rattle.bt_shared.specs.Gathering.{EachAgrees, EachFrom}

-- a number that is no worker's has no calls
uncalled : (s : Setting) (h : History) (worker : ℕ) → IsLegal s h → s.workers ≤ worker → calls_in h worker ≡ []
uncalled s [] worker legal above = refl
uncalled s (e ∷ h) worker legal above =
    let below = worker_below s h e legal.1 in
    let other : (e.worker == worker) ≡ false = ne_eqb e.worker worker (λ same. omega (arith, below, above, same)) in
    calls_in-other h e worker other ∙ uncalled s h worker legal.0 above

check_wish : (action : Action) (piece : ℕ) → call_mark action ≡ Settle piece → is_wish action ≡ false
check_wish (actions.Want flags) piece is = absurd (cc is)
check_wish (actions.Level p n) piece is = absurd (cc is)
check_wish (actions.Levels levels) piece is = absurd (cc is)
check_wish _ piece is = refl

-- a log of checks alone tells no wish
checks_wish : (log : List Mark) (calls : Calls) → calls_of_marks log ≡ marked calls → AreChecks log → WishNothing calls
checks_wish log [] same checks = refl
checks_wish [] (made ∷ calls) same checks = absurd (cc same)
checks_wish (mark ∷ log) (made ∷ calls) same (one, rest) =
    let first : (mark.call, mark.reply) ≡ (call_mark made.0, made.1) = cc same in
    let others : calls_of_marks log ≡ marked calls = cc same in
    let is : call_mark made.0 ≡ Settle one.0 = sym (ap (λ (p : CallMark × Reply). p.0) first) ∙ one.1 in
    ap (λ (b : Bool). b || list_any (λ (m : Action × Reply). is_wish m.0) calls) (check_wish made.0 one.0 is)
    ∙ checks_wish log calls others rest

rise_checks : (low : ℕ) (log : List Mark) (high : ℕ) → ChecksRise low log high → AreChecks log
rise_checks low [] high rise = tt
rise_checks low (mark ∷ log) high (piece, rest) = ((piece, rest.0), rise_checks (piece + 1) log high rest.2)

agreed_wish : (h : History) (worker : ℕ) (log : List Mark) → Agrees h worker log → AreChecks log → WishNothing (calls_in h worker)
agreed_wish h worker log agrees checks =
    checks_wish log (calls_in h worker) (ap calls_of_marks agrees.exact ∙ marks_calls h worker) checks

some_of : {X : Type 0} (xs : List X) → 1 ≤ length xs → X
some_of [] some = absurd (omega (arith, some))
some_of (x ∷ xs) some = x

which : (n m w : ℕ) → (w < n) ⊎ ((n ≤ w) × (w < n + m)) ⊎ (w ≡ n + m) ⊎ (n + m < w)
which n m w =
    dite (dec_le (w + 1) n) (λ low. inl (omega (arith, low)))
    (λ high. dite (dec_le (w + 1) (n + m)) (λ low. inr (inl (omega (arith, high), omega (arith, low))))
    (λ above. dite (ℕ_discrete w (n + m)) (λ at. inr (inr (inl at))) (λ apart. inr (inr (inr (omega (arith, above, apart)))))))

module _ {X : Type 0} {record_of : X → StreamRecord} {terms : TermsState} {setting : Setting} {seed n m pieces : ℕ}
    {workers workers' : List WorkerState} {streams streams' : List X} {ends : List (Result End SessionFault)} {given_up : Bool}
    (ran : Ran record_of terms setting seed n m pieces workers workers' streams streams' ends given_up) (logs : List (Vec Mark)) (desk : DeskState)
    (from : EachFrom (map pass_of workers') logs) (agrees : EachAgrees desk.history logs) (seen : EachKnows desk.history (map pass_of workers'))
    (room : length logs ≡ n + m + 1)
    (known : All (λ w. (piece : ℕ) → knows setting w.seat piece ≡ true → had desk.history piece ≡ true) workers')
    (many : setting.workers ≡ n + m + 1) (legal : IsLegal setting desk.history) where
  wish_at : (w : ℕ) → (w < n) ⊎ ((n ≤ w) × (w < n + m)) ⊎ (w ≡ n + m) ⊎ (n + m < w) → WishNothing (calls_in desk.history w)
  wish_at w (inl session) =
      let stream = some_of streams (omega (arith, ran.some, ran.many_streams)) in
      let log = some_of logs (omega (arith, room)) in
      let swarmed_at = swarmed ran logs desk.history from agrees seen room known given_up (λ is. is) w stream log (Err NoMemory)
      (omega (arith, session, ran.many_streams)) in
      ended_wish _ terms w _ _ _ swarmed_at.runs.ends refl
  wish_at w (inr (inl checker)) =
      let k = w - n in
      let at : n + k ≡ w = omega (arith, checker.0) in
      let log = get_or logs w (some_of logs (omega (arith, room))) in
      let there : slice_get logs w ≡ Some log = slice_get-get_or logs w (some_of logs (omega (arith, room))) (omega (arith, room, checker.1)) in
      agreed_wish desk.history w log.items (agrees w log there)
      (checkers_check ran logs desk.history from agrees seen room known k log (omega (arith, checker.1, at))
      (subst (λ (j : ℕ). slice_get logs j ≡ Some log) (sym at) there))
  wish_at w (inr (inr (inl is))) =
      let log = get_or logs w (some_of logs (omega (arith, room))) in
      let there : slice_get logs w ≡ Some log = slice_get-get_or logs w (some_of logs (omega (arith, room))) (omega (arith, room, is)) in
      agreed_wish desk.history w log.items (agrees w log there)
      (rise_checks 0 log.items pieces (finished ran logs desk.history from agrees seen room known log
      (subst (λ (j : ℕ). slice_get logs j ≡ Some log) is there)))
  wish_at w (inr (inr (inr above))) =
      subst WishNothing (sym (uncalled setting desk.history w legal (omega (arith, above, many)))) refl

  -- each piece is chosen
  pub chosen_all : AreChosen None desk
  chosen_all =
      chosen_by None desk (n + m + 1) (λ w apart. wish_at w (which n m w)) (uncalled setting desk.history (n + m + 1) legal (omega (arith, many)))
