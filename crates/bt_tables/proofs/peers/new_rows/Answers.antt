use Rattle.bt_tables.proofs.Tabled.{table_more}
use Rattle.bt_tables.proofs.peers.new_rows.Goals as goal

pub loop-worker-preserved : goal.loop-worker-preserved
loop-worker-preserved c = rw (c.in_ok-push.ensures.items, table_more, c.loop-worker.invariant, c.in_ok-new.ensures)
