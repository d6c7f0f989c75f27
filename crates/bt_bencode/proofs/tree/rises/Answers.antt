use Rattle.std.proofs.Common.{◌-◌, ◌∙◌, sym, drop, length-drop, arith}
use Rattle.bt_bencode.proofs.Lists.{one_rises}
use Rattle.bt_bencode.proofs.tree.rises.Goals as goal

pub returns : goal.returns
returns c = sym (one_rises (drop (c.loop-i.i - 1) c.args.entries.now) (omega (arith, length-drop (c.loop-i.i - 1) c.args.entries.now)))
    ∙ c.loop-i.invariant
