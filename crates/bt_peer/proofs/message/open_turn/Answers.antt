use Rattle.std.proofs.Common.{◌≡◌, ℕ, List, Option, Some, None, [], ◌++◌, subst, sym, ap, ◌∙◌, refl, arith}
use Rattle.std.proofs.lemmas.Result.{err_from_is_err_and}
use Rattle.std.proofs.lemmas.Grind.{common_steps}
use Rattle.bt_peer.specs.Conduct.{given_number}
use Rattle.bt_history.specs.Entries.{action_of}
use Rattle.bt_history.specs.declared.event.Action.{Action}
use Rattle.bt_peer.specs.SessionTerms.{pieces_of}
use Rattle.bt_peer.specs.Turns.{arrived_piece, call_of, if_completed, Opens}
use Rattle.bt_peer.proofs.Conduct.{DrawsNumbers-silent, other_cut, own_number, silent_draws}
use Rattle.bt_peer.proofs.Opening.{no_check, opening_checked, opening_stops, opening_unchecked}
use Rattle.bt_peer.proofs.Stretches.{Performs-none}
use Rattle.bt_peer.proofs.TurnParts.{nothing_came, opened_stops}
use Rattle.bt_peer.proofs.message.open_turn.Goals as goal

pub returns-in_err-call-clause-err : goal.returns-in_err-call-clause-err
returns-in_err-call-clause-err g c =
    let p = err_from_is_err_and c.from_residual.result c.from_residual.ensures.1 in
    rw (p.1, p.2) (nothing_came _ c.args.message _ _ c.in_err-call.ensures.err)

pub returns-in_default-clause-ok : goal.returns-in_default-clause-ok
returns-in_default-clause-ok g c =
    let none : call_of (pieces_of c.args.terms.now) c.args.message ≡ None = grind (arith, common_steps) in
    record { acts = []; opens = subst (λ (call : Option Action). Opens call []) (sym none) refl; accepted = refl; performs = Performs-none _ }

pub returns-in_err-reply-clause-err : goal.returns-in_err-reply-clause-err
returns-in_err-reply-clause-err g c =
    let p = err_from_is_err_and c.from_residual-in_err-reply.result c.from_residual-in_err-reply.ensures.1 in
    let made = rw c.in-Some.is at c.in_ok-call.ensures.ok in
    rw (p.1, p.2) (opened_stops _ _ c.args.message _ _ _ made.1 made.0
    (opening_stops (action_of c.in-Some.call) _ _ _ (no_check _ c.args.message _ made.1) c.in_err-reply.ensures.err))

pub returns-in_err-reply-clause-conduct : goal.returns-in_err-reply-clause-conduct
returns-in_err-reply-clause-conduct g c =
    let p = err_from_is_err_and c.from_residual-in_err-reply.result c.from_residual-in_err-reply.ensures.1 in
    let made = rw c.in-Some.is at c.in_ok-call.ensures.ok in
    rw p.1 (λ generator. other_cut generator (action_of c.in-Some.call) _ _ _ (own_number _ c.args.message _ made.1) c.in_err-reply.ensures.err)

pub returns-in_err-completed-clause-err : goal.returns-in_err-completed-clause-err
returns-in_err-completed-clause-err g c =
    let p = err_from_is_err_and c.from_residual-in_err-completed.result c.from_residual-in_err-completed.ensures.1 in
    let made = rw c.in-Some.is at c.in_ok-call.ensures.ok in
    rw (p.1, p.2) (opened_stops _ _ c.args.message _ _ _ made.1 made.0 (opening_unchecked (action_of c.in-Some.call) c.in_ok-reply.reply _ _ _
    c.in_ok-reply.ensures.ok_accepted c.in_ok-reply.ensures.ok c.in_err-completed.ensures.err))

pub returns-in_err-completed-clause-conduct : goal.returns-in_err-completed-clause-conduct
returns-in_err-completed-clause-conduct g c =
    let p = err_from_is_err_and c.from_residual-in_err-completed.result c.from_residual-in_err-completed.ensures.1 in
    let called = rw c.in-Some.is at c.in_ok-call.ensures.ok in
    let made = c.in_ok-reply.ensures.ok.gains.up_to.calls in
    let silent = own_number _ c.args.message _ called.1 in
    rw p.1 (λ generator. DrawsNumbers-silent generator _ _ _ []
    (silent_draws generator _ _ _ made (ap (λ (numbers : List ℕ). numbers ++ []) silent)) c.in_err-completed.ensures.err.gains.calls refl)

pub returns-in_ok-completed-clause-ok : goal.returns-in_ok-completed-clause-ok
returns-in_ok-completed-clause-ok g c =
    let made = rw c.in-Some.is at c.in_ok-call.ensures.ok in
    let call = action_of c.in-Some.call in
    let reply = c.in_ok-reply.reply in
    let is : if_completed (arrived_piece call) reply ≡ Some c.in-Some-completed.piece =
    ap (λ piece. if_completed piece reply) (sym c.arrived_piece-arrived.ensures) ∙ sym c.completed.ensures ∙ c.in-Some-completed.is in
    rw made.1
    (opening_checked call reply c.in-Some-completed.piece _ _ _ is c.in_ok-reply.ensures.ok_accepted c.in_ok-reply.ensures.ok
    c.in_ok-completed.ensures.ok)

pub returns-in_ok-completed-clause-conduct : goal.returns-in_ok-completed-clause-conduct
returns-in_ok-completed-clause-conduct g c =
    let made = rw c.in-Some.is at c.in_ok-call.ensures.ok in
    let silent : given_number (action_of c.in-Some.call) ≡ [] = own_number _ c.args.message _ made.1 in
    grind (arith, common_steps, silent)
