use Rattle.std.proofs.Common.{◌≡◌, ◌<◌, ◌/◌, ℕ, List, ap, subst, sym, ◌∙◌, arith}
use Rattle.std.specs.Arc.{arc_value}
use Rattle.bt_meta.specs.Layout.{Layout, piece_count}
use Rattle.bt_board.specs.Seats.{BoardState}
use Rattle.bt_board.specs.Steps.{Gives, GivesNone}
use Rattle.bt_board.specs.Story.{IsSet, words_of}
use Rattle.bt_board.proofs.BitRows.{word_below}
use Rattle.bt_board.proofs.News.{complete, gives, goes_on, next}
use Rattle.bt_board.proofs.board.Board.news.Goals as goal

pub returns-in-Some-clause-some : goal.returns-in-Some-clause-some
returns-in-Some-clause-some c =
    let so_far = c.loop-word.invariant in
    let one = c.in-Some.ensures.finds in
    let n = c.loop-word.word in
    let old = c.args.seat.now in
    let new = c.news_in.new.seat in
    gives old.view old.given new.given n new.view one.0 c.in-Some.piece
    (next old.view old.given n (piece_count c.args.self.now.torrent) c.loop-word.seat.view new.view one.0 so_far.2 one.1)
    (subst (λ (l : List ℕ). Gives n one.0 l new.given c.in-Some.piece) so_far.1 one.2)

pub loop-word-preserved : goal.loop-word-preserved
loop-word-preserved c =
    let so_far = c.loop-word.invariant in
    let none_new = c.in_default.ensures.finds in
    let n = c.loop-word.word in
    let old = c.args.seat.now in (
      c.news_in.ensures.seat ∙ so_far.0,
      none_new.2.same ∙ so_far.1,
      goes_on old.view old.given _ n _ none_new.0
          (next old.view old.given n (piece_count c.args.self.now.torrent) c.loop-word.seat.view _ none_new.0 so_far.2 none_new.1)
          (subst (λ (l : List ℕ). GivesNone n none_new.0 l c.news_in.new.seat.given) so_far.1 none_new.2),
    )

pub returns-clause-complete : goal.returns-clause-complete
returns-clause-complete c p lt seen =
    let so_far = c.loop-word.invariant in
    let here : (arc_value c.self.inside.about.torrent).layout ≡ c.args.self.now.torrent = ap (λ (b : BoardState). b.torrent) c.self.view_is in
    let words : c.words_for-word-end.result ≡ words_of (piece_count c.args.self.now.torrent)
    = c.words_for-word-end.ensures.words ∙ ap (λ (t : Layout). words_of (piece_count t)) here in
    let done = c.loop-word-test.false in
    let word = word_below p (piece_count c.args.self.now.torrent) lt in
    let below : p / 64 < c.loop-word.word = omega arith in
    subst (λ (l : List ℕ). IsSet l p) (sym so_far.1)
    (complete c.args.seat.now.view c.args.seat.now.given c.loop-word.word c.loop-word.seat.view so_far.2 p below seen)
