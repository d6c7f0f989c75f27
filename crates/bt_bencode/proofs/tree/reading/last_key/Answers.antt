use Rattle.std.proofs.Common.{refl, arith}
use Rattle.std.proofs.lemmas.Grind.{common_steps}
use Rattle.bt_bencode.proofs.Lists.{last_is}
use Rattle.bt_bencode.proofs.tree.reading.last_key.Goals as goal

pub returns : goal.returns
returns c = rw (
  c.as_slice.ensures.value,
  last_is c.args.entries.now c.index-entries-count.result (omega arith)
      c.index-entries-count.is,
) refl

pub returns-then-count-eq0 : goal.returns-then-count-eq0
returns-then-count-eq0 c = grind (arith, common_steps)
