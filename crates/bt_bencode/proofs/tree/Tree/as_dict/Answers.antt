use Rattle.std.proofs.Common.{refl}
use Rattle.bt_bencode.proofs.Lists.{pairs_from}
use Rattle.bt_bencode.proofs.tree.Tree.as_dict.Goals as goal

pub returns-in-Dict : goal.returns-in-Dict
returns-in-Dict c = rw (← c.self.view_is, c.in-Dict.is, c.deref.ensures.value, pairs_from) refl
