use Rattle.std.proofs.Common.{arith, length, ◌≡◌, ◌<◌, ◌^◌, ◌∙◌, ap, subst, sym, Bool, true, false, not, ◌≤◌, List, refl}
use Rattle.std.specs.Prelude.{slice_index_or}
use Rattle.bt_tables.specs.Tables.{PieceState, edit, have_row, less_available, more_available, peer_row, piece_row}
use Rattle.bt_tables.proofs.Changes.{edited_counted}
use Rattle.bt_tables.proofs.FloorSteps.{edit_piece, farther, have_floor, less_floor, new_floor}
use Rattle.bt_tables.proofs.Tabled.{length_edit}
use Rattle.bt_tables.specs.Floors.{AreFloors, is_fresh, rank_of_row}
use Rattle.bt_tables.specs.Standings.{apart}
use Rattle.bt_tables.specs.Orders.{at}
use Rattle.bt_tables.proofs.tables.Tables.put_have.Goals as goal

pub rank-requires : goal.rank-requires
rank-requires c =
    let lp = rw (← c.self.view_is) at c.requires.piece in
    let long = ap length c.announce.ensures ∙ length_edit c.self.inside.pieces c.args.piece _ in
    omega (arith, lp, long)

pub row-requires : goal.row-requires
row-requires c =
    let lp = rw (← c.self.view_is) at c.requires.piece in
    let long = ap length c.announce.ensures ∙ length_edit c.self.inside.pieces c.args.piece _ in
    omega (arith, lp, long)

-- the rows once this peer shows the piece, whether it did before or not
abbrev rows : goal.After-put_have → List PieceState
rows c = edit c.self.inside.pieces c.args.piece (λ row. more_available (not c.shows-is_new.result) (less_available false row))

worker_within : (c : goal.After-put_have) → c.args.worker < length c.self.inside.peers
worker_within c = rw (← c.self.view_is) at c.requires.worker

-- the floors hold of them too
grown : (c : goal.After-put_have) → AreFloors c.self.inside.floors c.self.inside.peers (rows c)
grown c =
    let o = c.self.inside in
    edit_piece o.floors o.peers o.pieces c.args.piece _ c.self.invariant (rw (← c.self.view_is) at c.requires.piece)
    (λ fresh. (fresh, farther (piece_row o.pieces c.args.piece) (not c.shows-is_new.result)))

-- and the new floor isn't too high for the piece
low : (c : goal.After-put_have) → is_fresh (piece_row (rows c) c.args.piece) ≡ true →
    c.floor_with-floor.result ≤ rank_of_row (piece_row (rows c) c.args.piece)
low c fresh =
    let row : c.row.result ≡ apart (piece_row (rows c) c.args.piece) =
    c.row.ensures ∙ ap (λ (all : List PieceState). apart (piece_row all c.args.piece)) c.announce.ensures in
    let rank : c.rank.result ≡ rank_of_row (piece_row (rows c) c.args.piece) =
    c.rank.ensures ∙ ap (λ (all : List PieceState). rank_of_row (piece_row all c.args.piece)) c.announce.ensures in
    omega (arith, c.floor_with-floor.ensures.shown (ap is_fresh row ∙ fresh), rank)

pub invariant_of-self : goal.invariant_of-self
invariant_of-self c =
    let o = c.self.inside in
    let w = c.args.worker in
    let n = c.floor_with-floor.result in
    let most : n ≤ at o.floors w = omega (arith, c.floor_with-floor.ensures.most, c.of.ensures) in
    let floor = less_floor (rows c) (peer_row o.peers w) (at o.floors w) n most ((grown c).each w (worker_within c)) in
    rw (c.announce.ensures, c.put_have.ensures, c.put.ensures)
    (new_floor o.floors o.peers (rows c) w n (have_row c.args.piece) (grown c) (worker_within c)
    (have_floor (rows c) (peer_row o.peers w) c.args.piece n (low c) floor))

pub announce-requires-clause-few : goal.announce-requires-clause-few
announce-requires-clause-few c =
    let p = c.args.piece in
    let o = c.self.inside in
    let lp = rw (← c.self.view_is) at c.requires.piece in
    let few = rw (← c.self.view_is) at c.requires.few in
    let is_new = not (slice_index_or (peer_row o.peers c.args.worker).shows p false) in
    subst (λ (x : Bool). (more_available x (less_available false (piece_row o.pieces p))).availability < 2 ^ 16) (sym (ap not c.shows-is_new.ensures))
    (edited_counted o.pieces p (λ r. more_available is_new (less_available false r)) lp few)

pub returns : goal.returns
returns c = rw (← c.self.view_is, c.announce.ensures, c.put_have.ensures, c.shows-is_new.ensures) refl
