use Rattle.std.proofs.Common.{ℕ, ◌==◌, ◌*◌, ap, length, refl}
use Rattle.bt_meta.specs.Layout.{block_size}
use Rattle.bt_history.specs.Counting.{table}
use Rattle.bt_tables.specs.Tables.{PeerState, fresh_peer, peer_row, piece_row, stored_row, without_block}
use Rattle.bt_tables.proofs.Tabled.{get_or_table, length_table}
use Rattle.bt_tables.proofs.FloorSteps.{edit_stale, same_shows, stored_stale}
use Rattle.bt_tables.proofs.tables.Tables.put_block.Goals as goal

pub invariant_of-self : goal.invariant_of-self
invariant_of-self c =
    let o = c.self.inside in
    let p = c.args.piece in
    let row : ℕ → PeerState = λ q. without_block p (block_size * c.args.index) (c.args.worker == q) (peer_row o.peers q) in
    let n = length o.peers in
    let at_place = rw (← c.self.view_is) at c.requires.stored in
    let kept = same_shows o.floors o.peers (table n row) o.pieces c.self.invariant (length_table n row)
    (λ q lq. ap (λ (r : PeerState). r.shows) (get_or_table n row q (fresh_peer 0 0) lq)) in
    rw (c.forget.ensures, c.apply.ensures)
    (edit_stale o.floors (table n row) o.pieces p (stored_row c.args.worker c.args.index) kept at_place.has_piece
    (stored_stale (piece_row o.pieces p) c.args.worker c.args.index at_place.has_cell))

pub returns : goal.returns
returns c = rw (← c.self.view_is, c.forget.ensures, c.apply.ensures) refl
