use Rattle.std.proofs.Common.{◌&&◌, ◌∙◌, ap, not, sym}
use Rattle.std.proofs.lemmas.Bool.{eq-eqb}
use Rattle.bt_meta.specs.declared.block.Block.{Block}
use Rattle.bt_tables.proofs.Flagged.{flag_of}
use Rattle.bt_tables.proofs.line.Line.is_prompt_of.Goals as goal

pub returns-then-at-piece : goal.returns-then-at-piece
returns-then-at-piece c d =
    let o = c.self.inside in
    let are = c.self.invariant in
    let lt = rw (← c.self.view_is) at c.requires in
    let read = ap (λ (b : Block). b.piece) (c.at.ensures d) in
    let of = eq-eqb c.args.piece _ (sym c.if-at-piece.true ∙ read) in
    let flag = c.index.ensures ∙ sym (flag_of o.blocks.items o.flags.items c.args.index d c.index.result.now are.apart are.each lt) in
    rw (← c.self.view_is) (λ i. sym of i && not (flag i))
