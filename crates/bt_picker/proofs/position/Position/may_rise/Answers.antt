use Rattle.std.proofs.Common.{◌∙◌, ◌==◌, ◌&&◌, Bool, ap, sym}
use Rattle.bt_picker.proofs.Allowing.{rise_by}
use Rattle.bt_picker.proofs.position.Position.may_rise.Goals as goal

pub returns-then-is_usable : goal.returns-then-is_usable
returns-then-is_usable c =
    let d = c.args.self.now in
    sym (ap (λ (x : Bool). x && (c.args.piece == c.args.found.piece)) (sym c.is_usable.ensures ∙ c.if-is_usable.true))
    ∙ rise_by d.setting d.history c.args.worker c.args.piece c.args.index c.args.found c.requires.piece c.requires.index c.requires.inside
    c.requires.found
