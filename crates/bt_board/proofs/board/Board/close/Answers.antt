use Rattle.std.proofs.Common.{◌≡◌, ◌↔◌, ◌<◌, ◌+◌, ◌/◌, ◌%◌, ◌^◌, ℕ, List, true, false, bit_and, get_or, ap, subst, sym, ◌∙◌, arith}
use Rattle.std.proofs.lemmas.Grind.{common_steps}
use Rattle.std.specs.Prelude.{slice_index}
use Rattle.std.specs.Int.{bit_at}
use Rattle.std.specs.Arc.{arc_value}
use Rattle.std.specs.Slots.{slots_items}
use Rattle.std.proofs.lemmas.Nat.Bits.{shr_and_one}
use Rattle.bt_meta.specs.Layout.{Metainfo, piece_count}
use Rattle.bt_board.specs.declared.rule.About.{About}
use Rattle.bt_board.specs.declared.view.BoardView.{BoardView}
use Rattle.bt_board.specs.Seats.{BoardState, SeatState}
use Rattle.bt_board.specs.Story.{Story, Marked, Seen, StandsFor}
use mathlib.Core.Option.{some}
use lib.ListN.{get_elem?}
use Rattle.bt_board.proofs.Lists.{value_at}
use Rattle.bt_board.proofs.Stories.{Copied, closes, copied_set, copied_unset}
use Rattle.bt_board.proofs.board.Board.close.Goals as goal
use Rattle.bt_board.proofs.board.Board.close.Goals.{then-word-piece-eq1, else-word-piece-eq1}

-- the bit of p, as the code tests it
tested : (words : List ℕ) (p word : ℕ) → get_elem? words (p / 64) ≡ some word →
    bit_and (word / 2 ^ (p % 64)) 1 ≡ bit_at (slice_index words (p / 64)) (p % 64)
tested words p word at = shr_and_one word (p % 64) ∙ ap (λ (k : ℕ). bit_at k (p % 64)) (sym (value_at words (p / 64) word 0 at))

pub loop-piece-preserved : goal.loop-piece-preserved
loop-piece-preserved c =
    let words = slots_items c.close_with-closed.result.words in
    let p = c.loop-piece.piece in
    let test = tested words p c.word.result c.word.ensures in
    elim c.if-word-piece-eq1.branch [
      | then-word-piece-eq1 w ↦ subst (Copied words _ (p + 1)) (sym (w.bits-is ∙ w.set.ensures))
          (copied_set words _ p _ c.loop-piece.invariant c.loop-piece-test.true (sym test ∙ w.if-word-piece-eq1.true))
      | else-word-piece-eq1 w ↦ subst (Copied words _ (p + 1)) (sym w.bits-is)
          (copied_unset words _ p _ c.loop-piece.invariant (λ is. w.if-word-piece-eq1.false (test ∙ is)))
    ]

-- the story that the board's words tell when it is closed
story : (c : goal.After-free) → Story (arc_value c.self.inside.about.torrent).layout c.self.inside.about.seats
    (slots_items c.close_with-closed.result.words) c.close_with-closed.ensures.values.2.0.views
story c =
    let about = c.self.inside.about in
    let last = c.close_with-closed.ensures.values.2 in
    subst (λ (l : List ℕ). Story (arc_value about.torrent).layout about.seats l last.0.views) last.2
    (subst (λ (a : About). Story (arc_value a.torrent).layout a.seats last.0.words last.0.views) c.self.invariant.told_is last.1.0)

-- all pieces were copied
copied : (c : goal.After-free) → Copied (slots_items c.close_with-closed.result.words) (piece_count (arc_value c.self.inside.about.torrent).layout)
    (piece_count (arc_value c.self.inside.about.torrent).layout) c.loop-piece.bits
copied c =
    let words = slots_items c.close_with-closed.result.words in
    let pieces = piece_count (arc_value c.self.inside.about.torrent).layout in
    let count : c.piece_count-count.result ≡ pieces =
    c.piece_count-count.ensures.count ∙ ap (λ (m : Metainfo). piece_count m.layout) c.deref.ensures in
    let all : c.loop-piece.piece ≡ pieces = omega (arith, count, c.loop-piece-test.false, c.loop-piece.auto.piece-end) in
    subst (λ (n : ℕ). Copied words pieces n c.loop-piece.bits) all
    (subst (λ (n : ℕ). Copied words n c.loop-piece.piece c.loop-piece.bits) count c.loop-piece.invariant)

-- the seat stands for every seat of the board
stands : (c : goal.After-free) (q : ℕ) → q < c.self.inside.about.seats → StandsFor c.into_parts-seat.result.0.me.0 q
stands c q lt =
    subst (λ (v : BoardView). StandsFor v q) (ap (λ (s : SeatState). s.view) c.into_parts-seat.ensures.parts)
    (c.requires.all q (subst (λ (n : ℕ). q < n) (ap (λ (b : BoardState). b.seats) c.self.view_is) lt))

-- so the copied bits are the pieces that were marked, and each piece that the seat has seen is among them
closed : (c : goal.After-free) → ((p : ℕ) → (get_or c.loop-piece.bits p false ≡ true) ↔ Marked c.into_parts-seat.result.0.me.0 p)
    × ((p : ℕ) → Seen c.into_parts-seat.result.0.me.0 p → get_or c.loop-piece.bits p false ≡ true)
closed c =
    let about = c.self.inside.about in
    let last = c.close_with-closed.ensures.values.2 in
    let seat = c.into_parts-seat.result.0 in
    closes (arc_value about.torrent).layout about.seats (slots_items c.close_with-closed.result.words) last.0.views seat.id seat.me.0
    c.loop-piece.bits (story c) last.1.1 (stands c) (copied c)

pub returns-clause-marked : goal.returns-clause-marked
returns-clause-marked c =
    subst (λ (v : BoardView). (p : ℕ) → (get_or c.loop-piece.bits p false ≡ true) ↔ Marked v p)
    (sym (ap (λ (s : SeatState). s.view) c.into_parts-seat.ensures.parts)) (closed c).0

pub returns-clause-seen : goal.returns-clause-seen
returns-clause-seen c =
    subst (λ (v : BoardView). (p : ℕ) → Seen v p → get_or c.loop-piece.bits p false ≡ true)
    (sym (ap (λ (s : SeatState). s.view) c.into_parts-seat.ensures.parts)) (closed c).1

pub loop-piece-init : goal.loop-piece-init
loop-piece-init c = record {
  long = grind (arith, common_steps);
  done = λ p below. absurd (omega (arith, below));
  rest = λ p _. grind (arith, common_steps);
}
