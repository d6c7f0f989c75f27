use Rattle.bt_peer.proofs.Opened.{opened_by}
use Rattle.bt_peer.proofs.rounds.tell_wanted.Goals as goal

pub returns-clause-opened : goal.returns-clause-opened
returns-clause-opened c = opened_by c.args.desk.now c.call.new.self c.args.worker c.args.flags c.in_ok-_reply._reply c.requires.empty c.requires.flags
    c.in_ok-_reply.ensures.ok
