use Rattle.std.proofs.Common.{◌==◌, ◌*◌, ℕ, ◌/◌, ◌∙◌, ap, length, arith}
use Rattle.bt_meta.specs.Layout.{block_size}
use Rattle.bt_tables.specs.Tables.{TablesState, PeerState, peer_row, without_block}
use Rattle.bt_tables.proofs.Tabled.{length_table}
use Rattle.bt_tables.proofs.tables.Tables.put_arrival.Goals as goal
use Rattle.bt_tables.proofs.tables.Tables.put_arrival.Goals.{then-is_stored, else-is_stored}

pub hear-requires : goal.hear-requires
hear-requires c =
    let t = c.args.self.now in
    let rows : ℕ → PeerState = λ q. without_block c.args.piece (block_size * (c.args.begin / block_size)) (c.args.worker == q) (peer_row t.peers q) in
    elim c.if-is_stored.branch [
      | then-is_stored w ↦
          let same = ap (λ (t : TablesState). length t.peers) (w.self-is ∙ w.put_block.ensures) in
          omega (arith, same, length_table (length t.peers) rows, c.requires.worker)
      | else-is_stored w ↦ rw w.self-is c.requires.worker
    ]
