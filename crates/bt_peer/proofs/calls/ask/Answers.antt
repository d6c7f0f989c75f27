use Rattle.std.proofs.Common.{◌≡◌, true, false, arith, sym, ◌∙◌}
use Rattle.std.proofs.lemmas.Result.{err_from_is_err_and}
use Rattle.bt_peer.specs.Turns.{has_more}
use Rattle.bt_peer.proofs.Conduct.{Conducts-join, DrawsNumbers-join, asked_one, asked_cut}
use Rattle.bt_peer.proofs.Asking.{Asking-more, Asking-last, Asking-full, Asking-stops}
use Rattle.bt_peer.proofs.calls.ask.Goals as goal

pub returns-in_err-reply-clause-err : goal.returns-in_err-reply-clause-err
returns-in_err-reply-clause-err g c =
    let p = err_from_is_err_and c.from_residual.result c.from_residual.ensures.1 in
    rw (p.1, p.2) (Asking-stops c.next_u64.result _ _ _ _ c.next.counter _ c.next.invariant.asking c.next-test.true c.in_err-reply.ensures.err)

pub returns-in_err-reply-clause-conduct : goal.returns-in_err-reply-clause-conduct
returns-in_err-reply-clause-conduct g c =
    let p = err_from_is_err_and c.from_residual.result c.from_residual.ensures.1 in
    rw p.1 (DrawsNumbers-join c.next.invariant.conduct
    (asked_cut _ _ c.next_u64.result _ _ _ c.next_u64.ensures c.in_err-reply.ensures.err))

pub returns-then-not-has_more-clause-conduct : goal.returns-then-not-has_more-clause-conduct
returns-then-not-has_more-clause-conduct g c =
    Conducts-join c.next.invariant.conduct
    (asked_one g.P.Place.settles _ _ c.next_u64.result _ _ _ c.next_u64.ensures c.in_ok-reply.ensures.ok.gains)

pub returns-then-not-has_more-clause-ok : goal.returns-then-not-has_more-clause-ok
returns-then-not-has_more-clause-ok g c =
    let last : has_more c.in_ok-reply.reply ≡ false = sym c.has_more.ensures ∙ c.if-not-has_more.true in
    Asking-last c.next_u64.result c.in_ok-reply.reply _ _ _ c.next.counter _ c.next.invariant.asking c.next-test.true c.in_ok-reply.ensures.ok
    c.in_ok-reply.ensures.ok_accepted last

pub next-preserved : goal.next-preserved
next-preserved g c =
    let more : has_more c.in_ok-reply.reply ≡ true = sym c.has_more.ensures ∙ c.if-not-has_more.false in
    record {
      asking = Asking-more c.next_u64.result c.in_ok-reply.reply _ _ _ c.next.counter c.next.invariant.asking c.in_ok-reply.ensures.ok more;
      conduct = Conducts-join c.next.invariant.conduct
          (asked_one g.P.Place.settles _ _ c.next_u64.result _ _ _ c.next_u64.ensures c.in_ok-reply.ensures.ok.gains);
    }

pub returns-clause-ok : goal.returns-clause-ok
returns-clause-ok g c =
    let all : c.next.counter ≡ c.args.most = omega arith in
    Asking-full _ _ c.next.counter c.args.most c.next.invariant.asking all
