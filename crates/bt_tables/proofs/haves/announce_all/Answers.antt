use Rattle.std.proofs.Common.{◌≡◌, ◌∙◌, ◌<◌, ◌≤◌, List, Bool, true, false, length, ap, sym, arith}
use Rattle.std.specs.Prelude.{slice_index_or}
use Rattle.bt_tables.specs.Tables.{bits_row, edit, joint, peer_row, recounted}
use Rattle.bt_tables.proofs.Added.{late_shows, late_then_bits, late_worker, rows_all, shown_all, told_kept, told_length, told_more, told_none}
use Rattle.bt_tables.proofs.Added.{told_peers, told_pieces, told_row, told_shown}
use Rattle.bt_tables.proofs.haves.announce_all.Goals as goal
use Rattle.bt_tables.proofs.haves.announce_all.Goals.{then-has, else-has}

pub loop-piece-init : goal.loop-piece-init
loop-piece-init c = (
  c.count-piece-end.ensures,
  told_none c.args.flags.now c.args.peers.now c.note.new.self c.args.pieces.now c.args.worker c.requires.worker c.note.ensures,
)

pub announce-requires-clause-worker : goal.announce-requires-clause-worker
announce-requires-clause-worker c =
    let lw = late_worker _ _ c.args.worker c.requires.worker c.note.ensures in
    let long = told_peers _ _ _ _ _ _ _ lw c.loop-piece.invariant.1 in
    omega (arith, lw, long)

pub announce-requires-clause-piece : goal.announce-requires-clause-piece
announce-requires-clause-piece c =
    let lw = late_worker _ _ c.args.worker c.requires.worker c.note.ensures in
    let long = told_pieces _ _ _ _ _ _ _ lw c.loop-piece.invariant.1 in
    omega (arith, long, c.loop-piece-test.true, c.loop-piece.invariant.0, c.requires.flags, c.requires.pieces)

pub announce-requires-clause-shown : goal.announce-requires-clause-shown
announce-requires-clause-shown c =
    let lw = late_worker _ _ c.args.worker c.requires.worker c.note.ensures in
    let long = told_length _ _ _ _ _ _ _ lw c.loop-piece.invariant.1 in
    let same = ap length (late_shows _ _ c.args.worker c.requires.worker c.note.ensures) in
    omega (arith, long, same, c.loop-piece-test.true, c.loop-piece.invariant.0, c.requires.flags)

pub announce-requires-clause-few : goal.announce-requires-clause-few
announce-requires-clause-few c =
    let lw = late_worker _ _ c.args.worker c.requires.worker c.note.ensures in
    let lt : c.loop-piece.piece < length c.args.pieces.now =
    omega (arith, c.loop-piece-test.true, c.loop-piece.invariant.0, c.requires.flags, c.requires.pieces) in
    rw (told_row _ _ _ _ _ _ _ lw c.loop-piece.invariant.1 lt) (c.requires.few c.loop-piece.piece lt)

pub announce-requires-clause-counted : goal.announce-requires-clause-counted
announce-requires-clause-counted c shown =
    let lw = late_worker _ _ c.args.worker c.requires.worker c.note.ensures in
    let p = c.loop-piece.piece in
    let lt : p < length c.args.pieces.now = omega (arith, c.loop-piece-test.true, c.loop-piece.invariant.0, c.requires.flags, c.requires.pieces) in
    let same = late_shows _ _ c.args.worker c.requires.worker c.note.ensures in
    let ls : p < length (peer_row c.note.new.self c.args.worker).shows = omega (arith, lt, ap length same, c.requires.pieces) in
    let was = ap (λ (l : List Bool). slice_index_or l p false) (sym same)
    ∙ (sym (told_shown _ _ _ _ _ _ _ lw c.loop-piece.invariant.1 ls) ∙ shown) in
    rw (told_row _ _ _ _ _ _ _ lw c.loop-piece.invariant.1 lt) (c.requires.counted p lt was)

-- the piece has a row
row_within : (c : goal.Joined-has) → c.loop-piece.piece < length c.args.pieces.now
row_within c = omega (arith, c.loop-piece-test.true, c.loop-piece.invariant.0, c.requires.flags, c.requires.pieces)

-- and a flag of what the peer shows
shown_within : (c : goal.Joined-has) → c.loop-piece.piece < length (peer_row c.note.new.self c.args.worker).shows
shown_within c =
    omega (arith, row_within c, ap length (late_shows _ _ c.args.worker c.requires.worker c.note.ensures), c.requires.pieces)

-- what the peer shows once the arrival was noted, it showed before
shown_before : (c : goal.Joined-has) → slice_index_or (peer_row c.note.new.self c.args.worker).shows c.loop-piece.piece false ≡ true
    → slice_index_or (peer_row c.args.peers.now c.args.worker).shows c.loop-piece.piece false ≡ true
shown_before c shown =
    ap (λ (l : List Bool). slice_index_or l c.loop-piece.piece false)
    (sym (late_shows _ _ c.args.worker c.requires.worker c.note.ensures)) ∙ shown

pub loop-piece-preserved : goal.loop-piece-preserved
loop-piece-preserved c =
    let lw = late_worker _ _ c.args.worker c.requires.worker c.note.ensures in (
      c.loop-piece.invariant.0,
      elim c.if-has.branch [
        | then-has w ↦ rw (w.pieces-is, w.peers-is, w.announce.ensures.pieces, w.announce.ensures.peers)
            (told_more _ _ _ _ _ _ _ lw c.loop-piece.invariant.1 (shown_within c) (row_within c) (sym c.has.ensures ∙ w.if-has.true))
        | else-has w ↦ rw (w.pieces-is, w.peers-is) (told_kept _ _ _ _ _ _ _ lw c.loop-piece.invariant.1 (shown_within c) (row_within c)
            (sym c.has.ensures ∙ w.if-has.false) (λ shown. c.requires.counted c.loop-piece.piece (row_within c) (shown_before c shown)))
      ],
    )

pub returns-clause-pieces : goal.returns-clause-pieces
returns-clause-pieces c =
    let shown = late_shows _ _ c.args.worker c.requires.worker c.note.ensures in
    let flags = c.args.flags.now in
    let rows = c.args.pieces.now in
    let done : length rows ≤ c.loop-piece.piece =
    omega (arith, c.loop-piece-test.false, c.loop-piece.invariant.0, c.requires.flags, c.requires.pieces) in
    c.loop-piece.invariant.1.pieces_are
    ∙ (rows_all flags _ rows c.loop-piece.piece done (ap length shown ∙ c.requires.pieces)
    ∙ ap (λ (l : List Bool). recounted rows l (joint flags l)) shown)

pub returns-clause-peers : goal.returns-clause-peers
returns-clause-peers c =
    let w = c.args.worker in
    let shown = late_shows _ _ w c.requires.worker c.note.ensures in
    let flags = c.args.flags.now in
    let done : length (peer_row c.note.new.self w).shows ≤ c.loop-piece.piece =
    omega (arith, c.loop-piece-test.false, c.loop-piece.invariant.0, c.requires.flags, ap length shown) in
    let all = shown_all flags _ c.loop-piece.piece done ∙ ap (joint flags) shown in
    c.loop-piece.invariant.1.peers_are
    ∙ (ap (λ (l : List Bool). edit c.note.new.self w (bits_row l)) all
    ∙ late_then_bits c.args.peers.now c.note.new.self w _ c.note.ensures)
