use Rattle.std.proofs.Common.{◌≡◌, ap, sym, ◌∙◌, arith, ⊎_elim}
use Rattle.std.proofs.lemmas.Bool.{cases_eq}
use Rattle.bt_tables.specs.Orders.{at}
use Rattle.bt_picker.specs.Search.{serves_at}
use Rattle.bt_picker.proofs.position.Position.least_served.Goals as goal

pub loop-piece-preserved : goal.loop-piece-preserved
loop-piece-preserved c i li =
    let d = c.args.self.now in
    let l = c.loop-piece in
    let test = serves_at d.setting d.history c.args.worker c.args.level in
    ⊎_elim
    (λ (here : i ≡ l.piece-index). ap test (ap (at c.args.pieces.now) here) ∙ (sym c.serves_at.ensures ∙ c.if-serves_at.false))
    (λ (before : i ≡ l.piece-index → ⊥). l.invariant i (omega (arith, li, before)))
    (cases_eq i l.piece-index)
