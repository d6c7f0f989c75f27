use Rattle.bt_tables.proofs.Tabled.{table_more}
use Rattle.bt_picker.proofs.filed.Filed.share_blocks.Goals as goal

pub loop-index-preserved : goal.loop-index-preserved
loop-index-preserved c = rw (c.in_ok-push.ensures.items, table_more, c.loop-index.invariant, c.in_ok-share_block.ensures)
