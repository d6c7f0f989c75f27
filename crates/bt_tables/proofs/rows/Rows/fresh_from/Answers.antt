use Rattle.std.proofs.Common.{ap, arith, sym, ◌∙◌}
use Rattle.bt_tables.specs.Floors.{is_fresh}
use Rattle.bt_tables.proofs.Fronts.{front_more}
use Rattle.bt_tables.proofs.rows.Rows.fresh_from.Goals as goal

pub loop-piece-init : goal.loop-piece-init
loop-piece-init c = λ none. none

pub returns-then-is_fresh : goal.returns-then-is_fresh
returns-then-is_fresh c = c.loop-piece.invariant

pub loop-piece-preserved : goal.loop-piece-preserved
loop-piece-preserved c none =
    front_more c.args.self.now c.loop-piece.piece (c.loop-piece.invariant none)
    (ap is_fresh (sym c.row.ensures) ∙ (sym c.is_fresh.ensures ∙ c.if-is_fresh.false))

pub returns : goal.returns
returns c none p before within = c.loop-piece.invariant none p (omega (arith, before, c.loop-piece-test.false)) within
