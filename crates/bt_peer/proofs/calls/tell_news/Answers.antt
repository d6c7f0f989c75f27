use Rattle.std.proofs.Common.{◌≡◌, ◌+◌, ◌≤◌, arith}
use Rattle.std.proofs.lemmas.Result.{err_from_is_err_and}
use Rattle.bt_peer.proofs.Telling.{Telling-more, Telling-cut, Telling-done, Telling-full}
use Rattle.bt_peer.proofs.calls.tell_news.Goals as goal

pub returns-in_err-send-clause-err : goal.returns-in_err-send-clause-err
returns-in_err-send-clause-err g c =
    let p = err_from_is_err_and c.from_residual.result c.from_residual.ensures.1 in
    let le : c.news.counter + 1 ≤ c.args.most = omega arith in
    rw (p.1, p.2) (Telling-cut _ c.in-Some.piece _ _ _ c.news.counter _ c.news.invariant le c.in-Some.ensures.some c.in_err-send.ensures.cause
    c.in_err-send.ensures.err)

pub news-preserved : goal.news-preserved
news-preserved g c =
    Telling-more c.in-Some.piece _ _ _ _ c.news.invariant c.in-Some.ensures.some c.in_ok-send.ensures.ok c.in_ok-send.ensures.interest

pub returns-in_default-clause-ok : goal.returns-in_default-clause-ok
returns-in_default-clause-ok g c =
    let few : c.news.counter ≤ c.args.most = omega arith in
    Telling-done _ _ _ c.news.counter _ c.news.invariant few c.in_default.ensures.none.0 c.in_default.ensures.none.1

pub returns-clause-ok : goal.returns-clause-ok
returns-clause-ok g c =
    let all : c.news.counter ≡ c.args.most = omega arith in
    Telling-full _ _ c.news.counter _ c.news.invariant all
