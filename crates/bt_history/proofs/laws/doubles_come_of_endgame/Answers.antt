use Rattle.std.proofs.lemmas.Bool.{and_parts}
use Rattle.bt_history.specs.Setting.{setting_of}
use Rattle.bt_history.specs.Entries.{history_of}
use Rattle.bt_history.specs.Peers.{asked}
use Rattle.bt_history.proofs.HeldLaws.{asked_below, doubles_after_endgame}
use Rattle.bt_history.proofs.laws.doubles_come_of_endgame.Goals as goal

pub returns : goal.returns
returns c =
    let s = setting_of c.args.torrent.now.layout c.args.workers c.args.rules in
    let h = history_of c.args.journal.now in
    doubles_after_endgame s h c.args.worker c.args.other c.args.block c.requires.legal
    (asked_below s h c.args.worker c.args.block c.requires.legal (and_parts (asked h c.args.worker c.args.block) _ c.requires.expected).0)
    (asked_below s h c.args.other c.args.block c.requires.legal (and_parts (asked h c.args.other c.args.block) _ c.requires.too).0)
    c.requires.apart c.requires.expected c.requires.too
