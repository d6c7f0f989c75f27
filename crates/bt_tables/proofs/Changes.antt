-- One row of the tables changed, as the code writes it.
use Rattle.std.proofs.Common.{◌≡◌, ℕ, ◌<◌, ◌^◌, List, length, ap, subst, arith}
use Rattle.bt_history.specs.Setting.{Setting}
use Rattle.bt_tables.specs.Tables.{PeerState, PieceState, TablesState, AreCounted, edit, fresh_piece, piece_row}
use Rattle.bt_tables.proofs.Tabled.{get_or_edit_same, length_edit}

abbrev pub with_pieces : Setting → ℕ → List PeerState → List PieceState → TablesState
with_pieces s order peers pieces = record { setting = s; order_from = order; peers = peers; pieces = pieces }

-- the rows of peers of tables that are these
pub peers_of : (t u : TablesState) (w : ℕ) → t ≡ u → w < length u.peers → w < length t.peers
peers_of t u w is lt = let same : length t.peers ≡ length u.peers = ap (λ (x : TablesState). length x.peers) is in omega arith

-- the availability of a changed row fits
pub edited_counted : (rows : List PieceState) (p : ℕ) (change : PieceState → PieceState) → p < length rows → AreCounted (edit rows p change)
    → (change (piece_row rows p)).availability < 2 ^ 16
edited_counted rows p change lt counted =
    subst (λ (row : PieceState). row.availability < 2 ^ 16) (get_or_edit_same rows p change (fresh_piece 0) lt)
    (counted p (omega (arith, lt, length_edit rows p change)))
