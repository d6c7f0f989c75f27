use Rattle.std.proofs.Common.{◌≡◌, ◌<◌, ◌+◌, ◌*◌, ◌^◌, ◌%◌, ℕ, List, bit_or, length, set, ap, subst, sym, refl, ◌∙◌, arith}
use Rattle.std.specs.Prelude.{slice_index}
use Rattle.std.specs.Int.{bit_at}
use Rattle.bt_meta.specs.Layout.{piece_count}
use Rattle.bt_board.specs.declared.view.BoardView.{BoardView}
use Rattle.bt_board.specs.Seats.{SeatState}
use Rattle.bt_board.specs.Steps.{Finds, Gives}
use Rattle.bt_board.specs.Story.{words_of}
use Rattle.bt_board.proofs.Lists.{any_default}
use Rattle.bt_board.proofs.News.{gives_bit}
use Rattle.bt_board.proofs.board.Board.news_in.Goals as goal

pub index-requires : goal.index-requires
index-requires c =
    let items = c.seat.inside.given.ok.0 in
    let wide : length c.seat.inside.given.items ≡ words_of (piece_count c.args.self.now.torrent) =
    ap (λ (s : SeatState). length s.given) c.seat.view_is ∙ c.look-found.ensures.wide.0 in
    let word = c.requires.word in
    omega arith

pub index_mut-requires : goal.index_mut-requires
index_mut-requires c =
    let items = c.seat.inside.given.ok.0 in
    let wide : length c.seat.inside.given.items ≡ words_of (piece_count c.args.self.now.torrent) =
    ap (λ (s : SeatState). length s.given) c.seat.view_is ∙ c.look-found.ensures.wide.0 in
    let word = c.requires.word in
    omega arith

pub overflow_cast-result : goal.overflow_cast-result
overflow_cast-result c = let few = c.look-found.ensures.wide.1 in let word = c.requires.word in omega arith

pub overflow_mul-result : goal.overflow_mul-result
overflow_mul-result c = let few = c.look-found.ensures.wide.1 in let word = c.requires.word in omega arith

pub overflow_add-result : goal.overflow_add-result
overflow_add-result c = let few = c.look-found.ensures.wide.1 in let word = c.requires.word in let bit = c.in-Some.ensures.some.0 in omega arith

-- the word is one of the given ones
within : (c : goal.After-seat-1) → c.args.word < length c.seat.inside.given.items
within c =
    omega (arith, ap (λ (s : SeatState). length s.given) c.seat.view_is ∙ c.look-found.ensures.wide.0, c.requires.word)

-- the given words with one more bit
abbrev after : goal.After-seat-1 → List ℕ
after c = set c.seat.inside.given.items c.args.word (bit_or c.index_mut.result.now (1 * 2 ^ c.in-Some.bit % 2 ^ 64))

-- which is the least new bit of what was found
gives_least : (c : goal.After-seat-1) → Gives c.args.word c.look-found.result c.seat.inside.given.items (after c) (c.args.word * 64 + c.in-Some.bit)
gives_least c =
    let n = c.args.word in
    let words = c.seat.inside.given.items in
    let bit = c.in-Some.ensures.some in
    let item : c.index.result.now ≡ slice_index words n = c.index.ensures ∙ any_default words n c.index.result.now 0 (within c) in
    let was : c.index_mut.result.now ≡ slice_index words n = c.index_mut.ensures.value ∙ any_default words n c.index_mut.result.now 0 (within c) in
    gives_bit words _ n c.in-Some.bit c.look-found.result _ bit.0 bit.1 (subst (λ (k : ℕ). bit_at k c.in-Some.bit ≡ 0) item bit.2)
    (λ i lt is. subst (λ (k : ℕ). bit_at k i ≡ 1) item (c.in-Some.ensures.least i lt is)) (within c) was refl

pub returns-in-Some-clause-finds : goal.returns-in-Some-clause-finds
returns-in-Some-clause-finds c =
    let n = c.args.word in
    let value = c.look-found.result in
    let same = ap (λ (s : SeatState). s.given) c.seat.view_is ∙ c.look-found.ensures.seat.1 in (
      value,
      subst (λ (v : BoardView). Finds (piece_count c.args.self.now.torrent) c.args.seat.now.view n value v)
          (sym (ap (λ (s : SeatState). s.view) c.seat.view_is)) c.look-found.ensures.finds,
      subst (λ (l : List ℕ). Gives n value l (after c) (n * 64 + c.in-Some.bit)) same (gives_least c),
    )

pub returns-in-None-clause-finds : goal.returns-in-None-clause-finds
returns-in-None-clause-finds c =
    let words = c.seat.inside.given.items in
    let same : words ≡ c.args.seat.now.given = ap (λ (s : SeatState). s.given) c.seat.view_is ∙ c.look-found.ensures.seat.1 in
    let wide = ap (λ (s : SeatState). length s.given) c.seat.view_is ∙ c.look-found.ensures.wide.0 in
    let item : c.index.result.now ≡ slice_index c.args.seat.now.given c.args.word =
    c.index.ensures ∙ any_default words _ c.index.result.now 0 (omega (arith, wide, c.requires.word))
    ∙ ap (λ (l : List ℕ). slice_index l c.args.word) same in (
      c.look-found.result,
      c.look-found.ensures.finds,
      record { same = c.look-found.ensures.seat.1; all = λ i is. subst (λ (k : ℕ). bit_at k i ≡ 1) item (c.in-None.ensures.none i is) },
    )
