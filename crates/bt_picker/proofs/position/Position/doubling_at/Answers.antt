use Rattle.std.proofs.Common.{Option, None, Some, length}
use Rattle.std.specs.Prelude.{IfNone, IfSome}
use Rattle.bt_meta.specs.declared.block.Block.{Block}
use Rattle.bt_history.specs.Next.{doubles}
use Rattle.bt_picker.specs.Search.{DoublesFirst, DoublesNone, FindsAmong}
use Rattle.bt_picker.proofs.Endings.{among_some, doubles_least, doubles_none}
use Rattle.bt_picker.proofs.Stages.{group_within}
use Rattle.bt_picker.proofs.position.Position.doubling_at.Goals as goal

pub least_doubling-requires-clause-pieces : goal.least_doubling-requires-clause-pieces
least_doubling-requires-clause-pieces c =
    let d = c.args.self.now in
    group_within d.setting d.history _ c.group.result.now c.group.ensures

pub returns-clause-some : goal.returns-clause-some
returns-clause-some c =
    let d = c.args.self.now in
    among_some d.setting.torrent (doubles d.setting d.history c.args.worker) c.group.result.now (length c.group.result.now) c.least_doubling.result
    c.least_doubling.ensures

pub returns-clause-first : goal.returns-clause-first
returns-clause-first c = first c.least_doubling.result c.least_doubling.ensures where
  first : (o : Option Block) → FindsAmong c.args.self.now.setting.torrent
      (doubles c.args.self.now.setting c.args.self.now.history c.args.worker) c.group.result.now (length c.group.result.now) o
      → IfSome o (DoublesFirst c.args.self.now.setting c.args.self.now.history c.args.worker c.args.level)
  first None none = tt
  first (Some b) found =
      let d = c.args.self.now in
      doubles_least d.setting d.history c.args.worker c.args.level c.group.result.now b c.attest.ensures.legal c.requires.worker c.requires.level
      c.requires.endgame c.group.ensures found

pub returns-clause-none : goal.returns-clause-none
returns-clause-none c = missing c.least_doubling.result c.least_doubling.ensures where
  missing : (o : Option Block) → FindsAmong c.args.self.now.setting.torrent
      (doubles c.args.self.now.setting c.args.self.now.history c.args.worker) c.group.result.now (length c.group.result.now) o
      → IfNone o (DoublesNone c.args.self.now.setting c.args.self.now.history c.args.worker c.args.level)
  missing (Some b) found = tt
  missing None none =
      let d = c.args.self.now in
      doubles_none d.setting d.history c.args.worker c.args.level c.group.result.now c.attest.ensures.legal c.requires.worker c.requires.endgame
      c.group.ensures none
