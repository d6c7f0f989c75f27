use Rattle.std.proofs.Common.{◌∙◌, length, sym, ap, arith}
use Rattle.bt_history.specs.declared.event.Action.TheVariants.{Bits, Discard, Have, Haves, Arrived, Lack, Leave, Level, Lose}
use Rattle.bt_history.proofs.Allowed.{worker_below}
use Rattle.bt_tables.specs.Tables.{PeerState, TablesState, have_row}
use Rattle.bt_tables.proofs.Tabled.{length_edit}
use Rattle.bt_picker.proofs.Entering.{peer_row_is}
use Rattle.bt_picker.proofs.PeerSteps.{shows_length}
use Rattle.bt_picker.proofs.Entered.{level_piece, cause_none, entered_counted, bits_facts, have_facts, haves_facts, lack_facts, lines_short, pieces_few}
use Rattle.bt_picker.proofs.Entered.{discard_facts, loss_piece, pieces_short, shown_counted, arrival_askers, arrival_block, has_room}
use Rattle.bt_picker.proofs.Learning.{told_floor, unnoted_floor}
use Rattle.bt_picker.specs.Told.{telling}
use Rattle.bt_picker.proofs.entries.put.Goals as goal

pub learn-requires-clause-told : goal.learn-requires-clause-told
learn-requires-clause-told c full prompt n told =
    told_floor _ _ c.args.worker c.in-Next.field-0 n c.args.reply c.requires.are (rw c.in-Next.is at c.requires.allowed)
    (worker_below _ _ _ c.requires.allowed) full prompt told

pub note_interest-requires-clause-worker : goal.note_interest-requires-clause-worker
note_interest-requires-clause-worker c =
    let long = ap (λ (t : TablesState). length t.peers) c.put_have.ensures ∙
    length_edit c.args.tables.now.peers c.args.worker (have_row c.in-Have.piece) in
    omega (arith, c.requires.worker, long)

pub note_interest-requires-clause-none : goal.note_interest-requires-clause-none
note_interest-requires-clause-none c is n =
    let cause = cause_none c.args.tables.now.setting c.args.past.now.entries c.args.worker (Have c.in-Have.piece) c.args.reply (rw c.in-Have.is at c.requires.allowed)
    c.requires.counts in
    let facts = have_facts c.args.tables.now.setting c.args.past.now.entries c.args.worker c.in-Have.piece cause in
    rw c.put_have.ensures
    (unnoted_floor _ _ c.args.worker c.in-Have.piece n c.requires.are (rw (c.in-Have.is, is) at c.requires.allowed)
    (worker_below _ _ _ c.requires.allowed) facts.1)

pub put_bits-requires-clause-flags : goal.put_bits-requires-clause-flags
put_bits-requires-clause-flags c =
    let cause = cause_none c.args.tables.now.setting c.args.past.now.entries c.args.worker (Bits c.in-Bits.flags.now) c.args.reply (rw c.in-Bits.is at c.requires.allowed)
    c.requires.counts in
    let row = peer_row_is _ _ c.args.worker c.requires.are (worker_below _ _ _ c.requires.allowed) in
    (bits_facts c.args.tables.now.setting c.args.past.now.entries c.args.worker c.in-Bits.flags.now cause).1
    ∙ sym (ap (λ (r : PeerState). length r.shows) row ∙ shows_length c.args.tables.now.setting c.args.past.now.entries c.args.worker)

pub put_bits-requires-clause-few : goal.put_bits-requires-clause-few
put_bits-requires-clause-few c =
    pieces_few _ _ (entered_counted _ _ c.args.worker c.requires.are (Bits c.in-Bits.flags.now) c.args.reply (rw c.in-Bits.is at c.requires.allowed)
    c.requires.counts)

pub put_have-requires-clause-piece : goal.put_have-requires-clause-piece
put_have-requires-clause-piece c =
    let cause = cause_none c.args.tables.now.setting c.args.past.now.entries c.args.worker (Have c.in-Have.piece) c.args.reply (rw c.in-Have.is at c.requires.allowed)
    c.requires.counts in
    let facts = have_facts c.args.tables.now.setting c.args.past.now.entries c.args.worker c.in-Have.piece cause in
    omega (arith, facts.1, c.requires.are.pieces_len)

pub put_have-requires-clause-shown : goal.put_have-requires-clause-shown
put_have-requires-clause-shown c =
    let cause = cause_none c.args.tables.now.setting c.args.past.now.entries c.args.worker (Have c.in-Have.piece) c.args.reply (rw c.in-Have.is at c.requires.allowed)
    c.requires.counts in
    let facts = have_facts c.args.tables.now.setting c.args.past.now.entries c.args.worker c.in-Have.piece cause in
    let row = peer_row_is _ _ c.args.worker c.requires.are (worker_below _ _ _ c.requires.allowed) in
    omega (
      arith,
      facts.1,
      ap (λ (r : PeerState). length r.shows) row,
      shows_length c.args.tables.now.setting c.args.past.now.entries c.args.worker,
    )

pub put_have-requires-clause-few : goal.put_have-requires-clause-few
put_have-requires-clause-few c =
    pieces_few _ _ (entered_counted _ _ c.args.worker c.requires.are (Have c.in-Have.piece) c.args.reply (rw c.in-Have.is at c.requires.allowed)
    c.requires.counts)

pub put_next-requires-clause-request : goal.put_next-requires-clause-request
put_next-requires-clause-request c b is =
    rw c.learn.ensures (has_room _ _ c.requires.are (telling c.args.worker c.args.told.now c.args.reply) b c.requires.allowed is)

pub put_next-requires-in-Requested-clause-request : goal.put_next-requires-in-Requested-clause-request
put_next-requires-in-Requested-clause-request c b is =
    has_room _ _ c.requires.are (telling c.args.worker c.args.told.now c.args.reply) b c.requires.allowed is

pub put_arrival-requires-clause-stored : goal.put_arrival-requires-clause-stored
put_arrival-requires-clause-stored c storing =
    let call = Arrived c.in-Arrived.piece c.in-Arrived.begin c.in-Arrived.bytes.now in
    let cause = cause_none c.args.tables.now.setting c.args.past.now.entries c.args.worker call c.args.reply (rw c.in-Arrived.is at c.requires.allowed)
    c.requires.counts in
    arrival_block _ _ c.requires.are c.args.worker c.in-Arrived.piece c.in-Arrived.begin c.in-Arrived.bytes.now cause

pub put_arrival-requires-clause-askers : goal.put_arrival-requires-clause-askers
put_arrival-requires-clause-askers c storing =
    let call = Arrived c.in-Arrived.piece c.in-Arrived.begin c.in-Arrived.bytes.now in
    let cause = cause_none c.args.tables.now.setting c.args.past.now.entries c.args.worker call c.args.reply (rw c.in-Arrived.is at c.requires.allowed)
    c.requires.counts in
    arrival_askers _ _ c.requires.are c.args.worker c.in-Arrived.piece c.in-Arrived.begin c.in-Arrived.bytes.now cause

pub put_arrival-requires-clause-room : goal.put_arrival-requires-clause-room
put_arrival-requires-clause-room c = lines_short _ _ c.requires.are

pub leave-requires-clause-few : goal.leave-requires-clause-few
leave-requires-clause-few c =
    pieces_few _ _ (entered_counted _ _ c.args.worker c.requires.are Leave c.args.reply (rw c.in-Leave.is at c.requires.allowed)
    c.requires.counts)

pub put_release-requires-clause-room : goal.put_release-requires-clause-room
put_release-requires-clause-room c =
    let lw = worker_below _ _ _ c.requires.allowed in
    lines_short _ _ c.requires.are c.args.worker (omega (arith, lw, c.requires.are.peers_len))

pub put_haves-requires-clause-flags : goal.put_haves-requires-clause-flags
put_haves-requires-clause-flags c =
    let cause = cause_none c.args.tables.now.setting c.args.past.now.entries c.args.worker (Haves c.in-Haves.flags.now) c.args.reply (rw c.in-Haves.is at c.requires.allowed)
    c.requires.counts in
    let row = peer_row_is _ _ c.args.worker c.requires.are (worker_below _ _ _ c.requires.allowed) in
    (haves_facts c.args.tables.now.setting c.args.past.now.entries c.args.worker c.in-Haves.flags.now cause).1
    ∙ sym (ap (λ (r : PeerState). length r.shows) row ∙ shows_length c.args.tables.now.setting c.args.past.now.entries c.args.worker)

pub put_haves-requires-clause-pieces : goal.put_haves-requires-clause-pieces
put_haves-requires-clause-pieces c =
    let row = peer_row_is _ _ c.args.worker c.requires.are (worker_below _ _ _ c.requires.allowed) in
    ap (λ (r : PeerState). length r.shows) row ∙ (shows_length c.args.tables.now.setting c.args.past.now.entries c.args.worker
    ∙ sym c.requires.are.pieces_len)

pub put_haves-requires-clause-few : goal.put_haves-requires-clause-few
put_haves-requires-clause-few c = pieces_short _ _ c.requires.are

pub put_haves-requires-clause-counted : goal.put_haves-requires-clause-counted
put_haves-requires-clause-counted c =
    let cause = cause_none c.args.tables.now.setting c.args.past.now.entries c.args.worker (Haves c.in-Haves.flags.now) c.args.reply (rw c.in-Haves.is at c.requires.allowed)
    c.requires.counts in
    shown_counted _ _ c.requires.are c.args.worker (worker_below _ _ _ c.requires.allowed)
    (haves_facts c.args.tables.now.setting c.args.past.now.entries c.args.worker c.in-Haves.flags.now cause).0

pub put_arrival-requires-clause-sender : goal.put_arrival-requires-clause-sender
put_arrival-requires-clause-sender c =
    let lw = worker_below _ _ _ c.requires.allowed in omega (arith, lw, c.requires.are.few)

pub put_level-requires : goal.put_level-requires
put_level-requires c =
    let cause = cause_none c.args.tables.now.setting c.args.past.now.entries c.args.worker (Level c.in-Level.piece c.in-Level.level) c.args.reply (rw c.in-Level.is at c.requires.allowed)
    c.requires.counts in
    let lp = level_piece c.args.tables.now.setting c.args.past.now.entries c.args.worker c.in-Level.piece c.in-Level.level cause in
    omega (arith, lp, c.requires.are.pieces_len)

pub put_lack-requires-clause-piece : goal.put_lack-requires-clause-piece
put_lack-requires-clause-piece c =
    let cause = cause_none c.args.tables.now.setting c.args.past.now.entries c.args.worker (Lack c.in-Lack.piece) c.args.reply (rw c.in-Lack.is at c.requires.allowed)
    c.requires.counts in
    let facts = lack_facts c.args.tables.now.setting c.args.past.now.entries c.args.worker c.in-Lack.piece cause in
    omega (arith, facts.1, c.requires.are.pieces_len)

pub put_lack-requires-clause-shown : goal.put_lack-requires-clause-shown
put_lack-requires-clause-shown c =
    let cause = cause_none c.args.tables.now.setting c.args.past.now.entries c.args.worker (Lack c.in-Lack.piece) c.args.reply (rw c.in-Lack.is at c.requires.allowed)
    c.requires.counts in
    let facts = lack_facts c.args.tables.now.setting c.args.past.now.entries c.args.worker c.in-Lack.piece cause in
    let row = peer_row_is _ _ c.args.worker c.requires.are (worker_below _ _ _ c.requires.allowed) in
    omega (
      arith,
      facts.1,
      ap (λ (r : PeerState). length r.shows) row,
      shows_length c.args.tables.now.setting c.args.past.now.entries c.args.worker,
    )

pub put_loss-requires : goal.put_loss-requires
put_loss-requires c =
    let cause = cause_none c.args.tables.now.setting c.args.past.now.entries c.args.worker (Lose c.in-Lose.piece) c.args.reply (rw c.in-Lose.is at c.requires.allowed)
    c.requires.counts in
    let lp = loss_piece c.args.tables.now.setting c.args.past.now.entries c.args.worker c.in-Lose.piece cause in
    omega (arith, lp, c.requires.are.pieces_len)

pub put_discard-requires : goal.put_discard-requires
put_discard-requires c =
    let cause = cause_none c.args.tables.now.setting c.args.past.now.entries c.args.worker (Discard c.in-Discard.piece c.in-Discard.begin) c.args.reply
    (rw c.in-Discard.is at c.requires.allowed) c.requires.counts in
    let facts = discard_facts c.args.tables.now.setting c.args.past.now.entries c.args.worker c.in-Discard.piece c.in-Discard.begin cause in
    omega (arith, facts.0, c.requires.are.pieces_len)
