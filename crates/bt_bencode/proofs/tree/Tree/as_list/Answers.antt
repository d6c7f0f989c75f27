use Rattle.std.proofs.Common.{refl}
use Rattle.bt_bencode.proofs.Lists.{list_from}
use Rattle.bt_bencode.proofs.tree.Tree.as_list.Goals as goal

pub returns-in-List : goal.returns-in-List
returns-in-List c = rw (← c.self.view_is, c.in-List.is, c.deref.ensures.value, list_from) refl
