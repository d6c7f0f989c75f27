use Rattle.std.proofs.Common.{◌<◌, ◌∙◌, length, sym, subst, arith, refl}
use Rattle.bt_tables.specs.Tables.{HasShortLines, peer_row, fresh_peer}
use Rattle.bt_tables.proofs.Tabled.{length_is_table, rows_edit, rows_init, rows_read}
use Rattle.bt_tables.proofs.peers.Peers.forget_everywhere.Goals as goal

pub loop-index-init : goal.loop-index-init
loop-index-init c = rows_init c.args.self.now _ (fresh_peer 0 0)

pub forget_at-requires-clause-worker : goal.forget_at-requires-clause-worker
forget_at-requires-clause-worker c =
    omega (arith, c.loop-index-test.true, c.len-index-end.ensures, length_is_table _ _ _ c.loop-index.invariant)

pub forget_at-requires-clause-room : goal.forget_at-requires-clause-room
forget_at-requires-clause-room c =
    let i = c.loop-index.index in
    let lt : i < length c.args.self.now = omega (arith, c.loop-index-test.true, c.len-index-end.ensures) in
    let row = rows_read c.loop-index.self _ i _ (peer_row c.args.self.now) (fresh_peer 0 0) c.loop-index.invariant lt in
    subst HasShortLines (sym row) (c.requires i lt)

pub loop-index-preserved : goal.loop-index-preserved
loop-index-preserved c =
    let i = c.loop-index.index in
    let lt : i < length c.args.self.now = omega (arith, c.loop-index-test.true, c.len-index-end.ensures) in
    c.forget_at.ensures
    ∙ rows_edit c.loop-index.self _ i _ (peer_row c.args.self.now) _ (fresh_peer 0 0) c.loop-index.invariant lt refl
