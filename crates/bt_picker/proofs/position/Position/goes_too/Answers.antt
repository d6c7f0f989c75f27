use Rattle.std.proofs.Common.{Bool, ◌==◌, ◌||◌, ap, sym, ◌∙◌}
use Rattle.std.proofs.lemmas.Bool.{eq-eqb, ne_eqb}
use Rattle.bt_history.specs.Pieces.{availability}
use Rattle.bt_picker.proofs.Allowing.{continue_by}
use Rattle.bt_picker.proofs.position.Position.goes_too.Goals as goal

pub returns-then-most_open-eq0 : goal.returns-then-most_open-eq0
returns-then-most_open-eq0 c =
    let d = c.args.self.now in
    eq-eqb c.most_open.result 0 c.if-most_open-eq0.true
    ∙ sym (ap (λ (x : Bool). x || (availability d.setting d.history c.args.piece == availability d.setting d.history c.args.found.piece))
    (eq-eqb d.setting.most_open 0 (sym c.most_open.ensures ∙ c.if-most_open-eq0.true)))
    ∙ continue_by d.setting d.history c.args.worker c.args.piece c.args.index c.args.found c.requires.piece c.requires.index c.requires.inside
    c.requires.found c.requires.tops c.requires.begun

pub returns-else-most_open-eq0 : goal.returns-else-most_open-eq0
returns-else-most_open-eq0 c =
    let d = c.args.self.now in
    (λ i. c.availability.ensures i == c.availability-else-most_open-eq0.ensures i)
    ∙ sym (ap (λ (x : Bool). x || (availability d.setting d.history c.args.piece == availability d.setting d.history c.args.found.piece))
    (ne_eqb d.setting.most_open 0 (λ none. c.if-most_open-eq0.false (c.most_open.ensures ∙ none))))
    ∙ continue_by d.setting d.history c.args.worker c.args.piece c.args.index c.args.found c.requires.piece c.requires.index c.requires.inside
    c.requires.found c.requires.tops c.requires.begun
