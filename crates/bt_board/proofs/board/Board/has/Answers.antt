use Rattle.std.proofs.Common.{◌≡◌, ◌/◌, ◌%◌, ◌^◌, bit_and, arith, ◌∙◌, sym, subst, refl, inr}
use Rattle.std.specs.Int.{bit_at}
use Rattle.std.proofs.lemmas.Nat.Bits.{shr_and_one}
use Rattle.std.proofs.lemmas.Bool.Decides.{nat_tests}
use Rattle.bt_board.specs.declared.view.Load.{Load}
use Rattle.bt_board.specs.declared.view.BoardView.{BoardView}
use Rattle.bt_board.specs.Story.{Seen, load}
use Rattle.bt_board.proofs.Lists.{has_last}
use Rattle.bt_board.proofs.board.Board.has.Goals as goal

pub returns-clause-seen : goal.returns-clause-seen
returns-clause-seen c is =
    let found = c.look-found.result in
    let p = c.args.piece in
    let one : bit_and (found / 2 ^ (p % 64)) 1 ≡ 1 = grind (arith, nat_tests) in
    let bit : bit_at found (p % 64) ≡ 1 = sym (shr_and_one found (p % 64)) ∙ one in
    subst (λ (v : BoardView). Seen v p) (sym c.look-found.ensures.finds.lists)
    (inr (has_last (λ (l : Load). (l.word ≡ p / 64) × (bit_at l.found (p % 64) ≡ 1)) c.args.seat.now.view.loads (load (p / 64) found) (refl, bit)))

pub returns-clause-load : goal.returns-clause-load
returns-clause-load c =
    let found = c.look-found.result in
    let p = c.args.piece in
    let at = shr_and_one found (p % 64) in (
      found,
      (λ i. record { table = c.look-found.ensures.seat.0 i; view = c.look-found.ensures.finds.lists i; given = c.look-found.ensures.seat.1 i }),
      (
        (λ is. let one : bit_and (found / 2 ^ (p % 64)) 1 ≡ 1 = grind (arith, nat_tests) in sym at ∙ one),
        (λ bit. let one : bit_and (found / 2 ^ (p % 64)) 1 ≡ 1 = at ∙ bit in grind (arith, nat_tests)),
      ),
    )
