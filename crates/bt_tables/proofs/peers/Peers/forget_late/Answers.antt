use Rattle.std.proofs.Common.{◌≡◌, ◌<◌, ◌∙◌, ap, false, length, sym, subst, arith, refl}
use Rattle.std.proofs.lemmas.Bool.{eq-eqb, false≢true}
use Rattle.bt_tables.specs.Tables.{HasShortLines, PeerState, peer_row, fresh_peer, without_block}
use Rattle.bt_tables.proofs.Tabled.{length_is_table, rows_edit, rows_init, rows_read}
use Rattle.bt_tables.proofs.peers.Peers.forget_late.Goals as goal

pub loop-index-init : goal.loop-index-init
loop-index-init c = rows_init c.args.self.now _ (fresh_peer 0 0)

pub forget_late_at-requires-clause-worker : goal.forget_late_at-requires-clause-worker
forget_late_at-requires-clause-worker c =
    omega (arith, c.loop-index-test.true, c.len-index-end.ensures, length_is_table _ _ _ c.loop-index.invariant)

pub forget_late_at-requires-clause-room : goal.forget_late_at-requires-clause-room
forget_late_at-requires-clause-room c =
    let i = c.loop-index.index in
    let lt : i < length c.args.self.now = omega (arith, c.loop-index-test.true, c.len-index-end.ensures) in
    let row = rows_read c.loop-index.self _ i _ (peer_row c.args.self.now) (fresh_peer 0 0) c.loop-index.invariant lt in
    subst HasShortLines (sym row) (c.requires.room i lt)

pub loop-index-preserved : goal.loop-index-preserved
loop-index-preserved c =
    let i = c.loop-index.index in
    let lt : i < length c.args.self.now = omega (arith, c.loop-index-test.true, c.len-index-end.ensures) in
    c.forget_late_at.ensures
    ∙ rows_edit c.loop-index.self _ i _ (peer_row c.args.self.now) _ (fresh_peer 0 0) c.loop-index.invariant lt refl

pub forget_late_at-requires-clause-other : goal.forget_late_at-requires-clause-other
forget_late_at-requires-clause-other c other prompt =
    let i = c.loop-index.index in
    let lt : i < length c.args.self.now = omega (arith, c.loop-index-test.true, c.len-index-end.ensures) in
    let row = rows_read c.loop-index.self _ i _ (peer_row c.args.self.now) (fresh_peer 0 0) c.loop-index.invariant lt in
    let apart : i ≡ c.args.worker → ⊥ = λ same. false≢true (sym other ∙ eq-eqb c.args.worker i (sym same)) in
    ap (without_block c.args.piece c.args.begin false) row
    ∙ (c.requires.others i lt apart (ap (λ (r : PeerState). r.overdue) (sym row) ∙ prompt) ∙ sym row)
