use Rattle.std.proofs.Common.{◌≡◌, ℕ, List, [], ◌∷◌, replicate, ap, subst, sym, ◌∙◌, rules}
use Rattle.std.specs.Arc.{arc_value}
use Rattle.std.specs.List.{range_with_len}
use Rattle.bt_meta.specs.Layout.{piece_count}
use Rattle.bt_board.specs.Story.{Story, view, words_of}
use Rattle.bt_board.proofs.Stories.{begins}
use Rattle.bt_board.proofs.board.Board.open.Goals as goal

pub of_words-requires : goal.of_words-requires
of_words-requires c =
    let torrent = (arc_value c.args.torrent).layout in
    let first = view [] [] (range_with_len 0 c.args.seats) in
    let row : c.in_ok-words.words.items ≡ replicate c.words_for.result 0 = search rules in
    let words : c.as_slice.result.now ≡ replicate (words_of (piece_count torrent)) 0 =
    c.as_slice.ensures.value ∙ row ∙ ap (λ (n : ℕ). replicate n 0) c.words_for.ensures.words in
    subst (λ (l : List ℕ). Story torrent c.args.seats l (first ∷ [])) (sym words) (begins torrent c.args.seats)
