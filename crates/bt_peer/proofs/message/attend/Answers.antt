use Rattle.std.proofs.lemmas.Result.{err_from_is_err_and}
use Rattle.bt_peer.proofs.Conduct.{Conducts-join, Conducts-draws, DrawsNumbers-join, told_conducts}
use Rattle.bt_peer.proofs.TurnParts.{turn_done, turn_stops_open, turn_stops_news, turn_stops_ask}
use Rattle.bt_peer.proofs.message.attend.Goals as goal

pub returns-in_err-open_turn-clause-err : goal.returns-in_err-open_turn-clause-err
returns-in_err-open_turn-clause-err g c =
    let p = err_from_is_err_and c.from_residual.result c.from_residual.ensures.1 in
    rw (p.1, p.2) (turn_stops_open _ c.args.terms.now c.args.message _ _ c.requires c.in_err-open_turn.ensures.err)

pub returns-in_err-tell_news-clause-err : goal.returns-in_err-tell_news-clause-err
returns-in_err-tell_news-clause-err g c =
    let p = err_from_is_err_and c.from_residual-in_err-tell_news.result c.from_residual-in_err-tell_news.ensures.1 in
    let told = rw c.piece_count.ensures at c.in_err-tell_news.ensures.err in
    rw (p.1, p.2) (turn_stops_news _ c.args.terms.now c.args.message _ _ _ c.requires c.in_ok-open_turn.ensures.acceptable
    c.in_ok-open_turn.ensures.ok told)

pub returns-in_err-ask-clause-err : goal.returns-in_err-ask-clause-err
returns-in_err-ask-clause-err g c =
    let p = err_from_is_err_and c.from_residual-in_err-ask.result c.from_residual-in_err-ask.ensures.1 in
    let told = rw c.piece_count.ensures at c.in_ok-tell_news.ensures.ok in
    let asked = rw c.most_next.ensures at c.in_err-ask.ensures.err in
    rw (p.1, p.2) (turn_stops_ask _ c.args.terms.now c.args.message _ _ _ _ c.requires c.in_ok-open_turn.ensures.acceptable
    c.in_ok-open_turn.ensures.ok told asked)

pub returns-clause-ok : goal.returns-clause-ok
returns-clause-ok g c =
    let told = rw c.piece_count.ensures at c.in_ok-tell_news.ensures.ok in
    let asked = rw c.most_next.ensures at c.in_ok-ask.ensures.ok in
    turn_done c.args.terms.now c.args.message _ _ _ _ c.requires c.in_ok-open_turn.ensures.acceptable c.in_ok-open_turn.ensures.ok told asked

pub returns-in_err-tell_news-clause-conduct : goal.returns-in_err-tell_news-clause-conduct
returns-in_err-tell_news-clause-conduct g c =
    let p = err_from_is_err_and c.from_residual-in_err-tell_news.result c.from_residual-in_err-tell_news.ensures.1 in
    let told = c.in_err-tell_news.ensures.err in
    rw p.1 (Conducts-draws (Conducts-join (c.in_ok-open_turn.ensures.conduct (g.N.Rng.stream c.args.rng.now))
    (told_conducts g.P.Place.settles _ _ _ told.news told.performs.gains)))

pub returns-in_err-ask-clause-conduct : goal.returns-in_err-ask-clause-conduct
returns-in_err-ask-clause-conduct g c =
    let p = err_from_is_err_and c.from_residual-in_err-ask.result c.from_residual-in_err-ask.ensures.1 in
    let told = c.in_ok-tell_news.ensures.ok in
    rw p.1 (DrawsNumbers-join (Conducts-join (c.in_ok-open_turn.ensures.conduct (g.N.Rng.stream c.args.rng.now))
    (told_conducts g.P.Place.settles _ _ _ told.news told.performs.gains.up_to)) c.in_err-ask.ensures.conduct)

pub returns-clause-conduct : goal.returns-clause-conduct
returns-clause-conduct g c =
    let told = c.in_ok-tell_news.ensures.ok in
    Conducts-join (Conducts-join (c.in_ok-open_turn.ensures.conduct (g.N.Rng.stream c.args.rng.now))
    (told_conducts g.P.Place.settles _ _ _ told.news told.performs.gains.up_to)) c.in_ok-ask.ensures.conduct
