use Rattle.std.proofs.Common.{◌/◌, refl}
use Rattle.bt_meta.specs.Layout.{block_size}
use Rattle.bt_tables.specs.declared.piece.Change.TheVariants.{Raise}
use Rattle.bt_tables.specs.Tables.{changed_row, edit, piece_row, request_row}
use Rattle.bt_tables.proofs.FloorSteps.{edit_stale, kept_peer, raised_stale}
use Rattle.bt_tables.proofs.tables.Tables.ask.Goals as goal

pub ask-requires-clause-room : goal.ask-requires-clause-room
ask-requires-clause-room c = (rw (← c.self.view_is) at c.requires.room).room

pub invariant_of-self : goal.invariant_of-self
invariant_of-self c =
    let o = c.self.inside in
    let b = c.args.block in
    let w = c.args.worker in
    let lw = rw (← c.self.view_is) at c.requires.worker in
    let room = rw (← c.self.view_is) at c.requires.room in
    let asked = kept_peer o.floors o.peers o.pieces w (request_row b) c.self.invariant lw (λ row. refl) in
    rw (c.apply.ensures, c.ask.ensures)
    (edit_stale o.floors (edit o.peers w (request_row b)) o.pieces b.piece (changed_row (Raise (b.begin / block_size))) asked
    room.cell.has_piece
    (raised_stale (piece_row o.pieces b.piece) (b.begin / block_size) room.cell.has_cell))

pub apply-requires-clause-fits : goal.apply-requires-clause-fits
apply-requires-clause-fits c =
    let room = rw (← c.self.view_is) at c.requires.room in
    (room.cell.has_cell, room.free, room.few)

pub returns : goal.returns
returns c = rw (← c.self.view_is, c.advance.ensures, c.apply.ensures, c.ask.ensures) refl

pub ask-requires-clause-new : goal.ask-requires-clause-new
ask-requires-clause-new c = (rw (← c.self.view_is) at c.requires.room).new
