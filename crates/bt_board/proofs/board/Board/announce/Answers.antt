use Rattle.std.proofs.Common.{◌≡◌, ◌<◌, ◌/◌, ℕ, ap, subst, sym, ◌∙◌}
use Rattle.std.specs.Arc.{arc_value}
use Rattle.bt_meta.specs.Layout.{Layout, piece_count}
use Rattle.bt_board.specs.declared.rule.About.{About}
use Rattle.bt_board.specs.declared.view.Mark.{Mark}
use Rattle.bt_board.specs.Seats.{BoardState, SeatState}
use Rattle.bt_board.specs.Story.{IsProven}
use Rattle.bt_board.proofs.BitRows.{word_below}
use Rattle.bt_board.proofs.Stories.{announces_as, table_words}
use Rattle.bt_board.proofs.board.Board.announce.Given as given
use Rattle.bt_board.proofs.board.Board.announce.Goals as goal

-- the table's torrent is the one that the board was told
told : (g : given.Over) (c : goal.After-fetch_or-arg-1 g) → (arc_value c.self.inside.table.shared.key.torrent).layout
    ≡ (arc_value c.self.inside.about.torrent).layout
told g c = ap (λ (a : About). (arc_value a.torrent).layout) c.self.invariant.told_is

-- the mark is of the piece
named : (g : given.Over) (c : goal.After-fetch_or-arg-1 g) → g.M.Announced.added.piece ≡ c.piece-piece.result
named g c = ap (λ (x : Mark). x.piece) c.requires.added ∙ sym c.piece-piece.ensures

-- and is proven: the piece is one of the torrent, and the bytes have its hash
proven : (g : given.Over) (c : goal.After-fetch_or-arg-1 g) → IsProven (arc_value c.self.inside.table.shared.key.torrent).layout g.M.Announced.added
proven g c =
    subst (λ (t : Layout). IsProven t g.M.Announced.added) (sym (told g c ∙ ap (λ (b : BoardState). b.torrent) c.self.view_is))
    (subst (λ (x : Mark). IsProven c.args.self.now.torrent x) (sym c.requires.added) c.requires.proven)

pub fetch_or-requires : goal.fetch_or-requires
fetch_or-requires g c =
    let table = c.self.inside.table.shared in
    let seat = c.seat.inside.seat in
    let torrent = (arc_value table.key.torrent).layout in
    let p = c.piece-piece.result in
    let below = word_below p (piece_count torrent) (subst (λ (k : ℕ). k < piece_count torrent) (named g c) (proven g c).0) in (
      ap (λ (s : SeatState). s.table) c.seat.view_is ∙ c.requires.seat ∙ sym (ap (λ (b : BoardState). b.table) c.self.view_is),
      subst (λ (n : ℕ). p / 64 < n) (sym (table_words c.self.invariant (sym (told g c)))) below,
      announces_as torrent table.key.seats table.table_id.slots seat.id _ p seat.me.0 seat.me.1 c.seat.invariant.stands (proven g c) (named g c),
    )
