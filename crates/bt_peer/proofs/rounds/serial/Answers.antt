use Rattle.std.proofs.Common.{ap, arith}
use Rattle.bt_history.specs.Setting.{Setting}
use Rattle.bt_peer.specs.SessionTerms.{terms_of}
use Rattle.bt_peer.proofs.Opened.{AreNew-may}
use Rattle.bt_peer.proofs.rounds.serial.Goals as goal

pub run-short-requires-clause-may : goal.run-short-requires-clause-may
run-short-requires-clause-may g c =
    let setting = c.in_ok-desk.ensures.setting in
    let layout = ap (λ (s : Setting). s.torrent) setting in
    let workers = ap (λ (s : Setting). s.workers) setting in
    rw c.deref_mut.ensures.value (AreNew-may (terms_of c.args.torrent.value c.args.rules.depth) c.args.seed c.in_ok-desk.desk
    c.in_ok-seats.seats.items c.args.streams.now layout (omega (arith, workers)) (omega arith) (omega (arith, c.in_ok-seats.ensures.count))
    c.in_ok-seats.ensures.new)

pub returns-clause-ran : goal.returns-clause-ran
returns-clause-ran g c =
    let layout = ap (λ (s : Setting). s.torrent) c.in_ok-desk.ensures.setting in
    c.run-short.ensures.ran (terms_of c.args.torrent.value c.args.rules.depth) c.args.seed c.args.want layout
    (rw c.deref_mut.ensures.value c.in_ok-seats.ensures.new) c.in_ok-desk.ensures.opened
