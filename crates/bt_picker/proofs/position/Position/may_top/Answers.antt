use Rattle.std.proofs.Common.{◌∙◌, ◌==◌, ◌&&◌, Bool, ap, sym}
use Rattle.bt_history.specs.Pieces.{level}
use Rattle.bt_picker.proofs.Allowing.{top_by}
use Rattle.bt_picker.proofs.position.Position.may_top.Goals as goal

pub returns-then-is_usable : goal.returns-then-is_usable
returns-then-is_usable c =
    let d = c.args.self.now in
    (λ i. c.level.ensures i == c.level-then-is_usable.ensures i)
    ∙ (sym (ap (λ (x : Bool). x && (level d.history c.args.piece == level d.history c.args.found.piece))
    (sym c.is_usable.ensures ∙ c.if-is_usable.true))
    ∙ top_by d.setting d.history c.args.worker c.args.piece c.args.index c.args.found c.requires.piece c.requires.index c.requires.inside
    c.requires.found)
