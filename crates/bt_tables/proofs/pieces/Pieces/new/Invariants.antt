use Rattle.std.proofs.Common.{◌≡◌, ◌-◌, ◌*◌, ◌^◌, ◌≤◌, length, take}
use Rattle.std.specs.List.{sum_by}
use Rattle.bt_meta.specs.Layout.{piece_count}
use Rattle.bt_tables.proofs.Shelves.{filling}
use Rattle.bt_tables.proofs.pieces.Pieces.new.Given as goal

abbrev pub invariant-loop-piece : goal.invariant-loop-piece
invariant-loop-piece l =
    (l.shelf ≡ filling (take l.piece l.rows) (piece_count l.torrent.layout - l.piece))
    × (sum_by (λ row. length row.blocks) (take l.piece l.rows) ≤ l.piece * (2 ^ 32 - 1))
