use Rattle.std.proofs.Common.{◌≡◌, ◌<◌, ◌≤◌, ◌^◌, ℕ, ap, subst, sym, ◌∙◌}
use Rattle.std.specs.Arc.{arc_value}
use Rattle.bt_meta.specs.Layout.{piece_count}
use Rattle.atomic_table.specs.Seated.{TableId}
use Rattle.bt_board.specs.declared.rule.About.{About}
use Rattle.bt_board.specs.Seats.{BoardState, SeatState}
use Rattle.bt_board.proofs.Stories.{looks, table_words}
use Rattle.bt_board.proofs.board.Board.look.Goals as goal

pub load-requires : goal.load-requires
load-requires g c =
    let table = c.self.inside.table.shared in
    let seat = c.seat.inside.seat in
    let torrent = (arc_value table.key.torrent).layout in
    let here = ap (λ (b : BoardState). b.torrent) c.self.view_is in
    let same : torrent ≡ c.args.self.now.torrent = ap (λ (a : About). (arc_value a.torrent).layout) c.self.invariant.told_is ∙ here in (
      ap (λ (s : SeatState). s.table) c.seat.view_is ∙ c.requires.seat ∙ sym (ap (λ (b : BoardState). b.table) c.self.view_is),
      subst (λ (n : ℕ). c.args.word < n) (sym (table_words c.self.invariant here)) c.requires.word,
      looks torrent table.key.seats table.table_id.slots seat.id c.args.word seat.me.0 seat.me.1 c.seat.invariant.stands g.K.Counted.pieces
          (c.requires.pieces ∙ ap piece_count (sym same)),
    )

pub returns-clause-wide : goal.returns-clause-wide
returns-clause-wide g c =
    let words = table_words c.self.invariant (ap (λ (b : BoardState). b.torrent) c.self.view_is) in
    let same : c.seat.inside.seat.table_id ≡ c.self.inside.table.shared.table_id
    = ap (λ (s : SeatState). s.table) c.seat.view_is ∙ c.requires.seat ∙ sym (ap (λ (b : BoardState). b.table) c.self.view_is) in
    (c.seat.invariant.wide ∙ ap (λ (z : TableId). z.words) same ∙ words, subst (λ (n : ℕ). n ≤ 2 ^ 26) words c.self.invariant.few)
