use Rattle.bt_tables.specs.Tables.{bits_row, joint, peer_row, recounted}
use Rattle.bt_tables.proofs.Added.{joint_floors}
use Rattle.bt_tables.proofs.FloorSteps.{new_floor, no_floor}
use Rattle.bt_tables.proofs.tables.Tables.put_haves.Goals as goal

pub invariant_of-self : goal.invariant_of-self
invariant_of-self c =
    let w = c.args.worker in
    let o = c.self.inside in
    let lw = rw (← c.self.view_is) at c.requires.worker in
    let same = rw (← c.self.view_is) at c.requires.pieces in
    let row = peer_row o.peers w in
    let flags = joint c.args.flags.now row.shows in
    let rows = recounted o.pieces row.shows flags in
    rw (c.announce_all.ensures.pieces, c.announce_all.ensures.peers, c.put.ensures)
    (new_floor o.floors o.peers rows w 0 (bits_row flags) (joint_floors o.floors o.peers o.pieces c.args.flags.now row.shows c.self.invariant same)
    lw (no_floor rows (bits_row flags row)))
