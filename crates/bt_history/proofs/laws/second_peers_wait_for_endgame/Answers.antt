use Rattle.bt_history.specs.Setting.{setting_of}
use Rattle.bt_history.specs.Entries.{event_of, history_of}
use Rattle.bt_history.proofs.HeldLaws.{endgame_asks_all, second_in_endgame}
use Rattle.bt_history.proofs.laws.second_peers_wait_for_endgame.Goals as goal

pub returns : goal.returns
returns c =
    let s = setting_of c.args.torrent.now.layout c.args.workers c.args.rules in
    let h = history_of c.args.older.now in
    let ending = second_in_endgame s h (event_of c.args.entry.now) c.args.other c.args.block c.requires.legal.0 c.requires.legal.1
    c.requires.request c.requires.expected in
    record {
      endgame = ending;
      none = λ lacking. endgame_asks_all s h lacking ending;
    }
