use Rattle.std.proofs.Common.{◌≡◌, ◌==◌, ◌+◌, ◌∙◌, Bool, List, ap, arith, false, get_or, not, suc, sym, take, true}
use Rattle.std.specs.List.{filter, list_any}
use Rattle.std.proofs.lemmas.Bool.{eq-eqb, ne_eqb}
use Rattle.bt_meta.specs.declared.block.Block.{Block}
use Rattle.bt_history.specs.History.{same_begin}
use Rattle.bt_tables.specs.Delays.{LineState}
use Rattle.bt_tables.proofs.Flagged.{line_removed, take_passed, take_removed, without_one}
use Rattle.bt_tables.proofs.line.Line.pass_by.Goals as goal

-- the block that goes is one of the piece
of_piece : (c : goal.After-remove) → (c.args.piece == c.remove.result.piece) ≡ true
of_piece c =
    let o = c.self.inside in
    let d = c.remove.result in
    let lt = rw (← c.self.view_is) at c.requires in
    let value = rw (← c.self.view_is) at c.remove.ensures.value in
    let same : c.at.result ≡ d = c.at.ensures d ∙ sym value in
    eq-eqb c.args.piece d.piece (sym (sym (ap (λ (b : Block). b.piece) same) ∙ c.if-at-piece.true))

pub returns-then-at-piece-clause-asked : goal.returns-then-at-piece-clause-asked
returns-then-at-piece-clause-asked c =
    ap (λ (l : LineState). filter (λ b. not (c.args.piece == b.piece)) l.asked) c.remove.ensures.line
    ∙ without_one c.args.piece c.remove.result c.args.self.now.asked (of_piece c)

pub returns-then-at-piece-clause-overdue : goal.returns-then-at-piece-clause-overdue
returns-then-at-piece-clause-overdue c =
    ap (λ (l : LineState). filter (λ b. not (c.args.piece == b.piece)) l.overdue) c.remove.ensures.line
    ∙ without_one c.args.piece c.remove.result c.args.self.now.overdue (of_piece c)

pub returns-then-at-piece-clause-passed : goal.returns-then-at-piece-clause-passed
returns-then-at-piece-clause-passed c none =
    let o = c.self.inside in
    let d = c.remove.result in
    let lt = rw (← c.self.view_is) at c.requires in
    let value = rw (← c.self.view_is) at c.remove.ensures.value in
    let before = rw (← c.self.view_is) at none in
    let test : Block → Bool = λ b. c.args.piece == b.piece in
    let gone = ap (λ (x : Block). filter (λ b. not (same_begin x b)) o.blocks.items) value
    ∙ line_removed o.blocks.items c.args.index d c.self.invariant.apart lt in
    ap (λ (l : LineState). list_any test (take c.args.index l.asked)) (rw (← c.self.view_is) at c.remove.ensures.line)
    ∙ (ap (λ (bs : List Block). list_any test (take c.args.index bs)) gone
    ∙ take_removed test o.blocks.items c.args.index before)

pub returns-else-at-piece-clause-passed : goal.returns-else-at-piece-clause-passed
returns-else-at-piece-clause-passed c none =
    let items = c.self.inside.blocks.items in
    let d = c.at.result in
    let lt = rw (← c.self.view_is) at c.requires in
    let before = rw (← c.self.view_is) at none in
    let here : (c.args.piece == (get_or items c.args.index d).piece) ≡ false =
    ap (λ (b : Block). c.args.piece == b.piece) (sym (c.at.ensures d)) ∙ ne_eqb c.args.piece d.piece (λ same. c.if-at-piece.false (sym same)) in
    let next : c.args.index + 1 ≡ suc c.args.index = omega arith in
    rw (← c.self.view_is) (ap (λ n. list_any (λ (b : Block). c.args.piece == b.piece) (take n items)) next
    ∙ take_passed (λ b. c.args.piece == b.piece) items c.args.index d lt before here)
