use Rattle.std.proofs.Common.{rules}
use Rattle.bt_bencode.specs.Reading.{tree_of}
use Rattle.bt_bencode.proofs.tree.reading.whole.Goals as goal

pub returns-in_err-tree : goal.returns-in_err-tree
unfolding tree_of
returns-in_err-tree c = search rules fits 100

pub returns-then-end-source : goal.returns-then-end-source
unfolding tree_of
returns-then-end-source c = search rules fits 100

pub returns : goal.returns
unfolding tree_of
returns c = search rules fits 100
