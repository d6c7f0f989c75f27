use Rattle.std.proofs.Common.{◌≡◌, false, rules, arith}
use Rattle.std.proofs.lemmas.Grind.{common_steps}
use Rattle.std.proofs.lemmas.Result.{err_from_is_err_and}
use Rattle.bt_history.specs.Entries.{action_of}
use Rattle.bt_peer.specs.Acts.{is_refusal}
use Rattle.bt_peer.proofs.Stretches.{call_cut, call_lacks}
use Rattle.bt_peer.proofs.calls.make_call.Goals as goal

pub returns-in_err-tell : goal.returns-in_err-tell
returns-in_err-tell g c =
    let p = err_from_is_err_and c.from_residual-in_err-tell.result c.from_residual-in_err-tell.ensures.1 in
    let accepted : is_refusal c.in_ok-reply.reply ≡ false = search rules in
    rw (p.1, p.2) (record {
      ok = tt;
      ok_accepted = tt;
      completes = tt;
      err =
          call_cut _ _ _ _ _ c.in_ok-reply.ensures.ok accepted c.in_err-tell.ensures.cause c.in_err-tell.ensures.err;
    })

pub returns-in_err-reply-clause-err : goal.returns-in_err-reply-clause-err
returns-in_err-reply-clause-err g c =
    let p = err_from_is_err_and c.from_residual.result c.from_residual.ensures.1 in
    rw (p.1, p.2) (call_lacks _ _ _ (action_of c.args.call) c.in_err-reply.ensures.err)

pub returns-in-Refused-clause-err : goal.returns-in-Refused-clause-err
returns-in-Refused-clause-err g c = grind (arith, common_steps)

pub returns : goal.returns
returns g c = grind (arith, common_steps)
