use Rattle.std.proofs.Common.{◌∙◌, ℕ, ap, sym}
use Rattle.std.specs.Prelude.{nat_lt}
use Rattle.bt_picker.proofs.Telling.{wanted_chosen}
use Rattle.bt_picker.proofs.position.Position.is_wanted.Goals as goal

pub returns : goal.returns
returns c =
    let d = c.args.self.now in
    ap (λ (n : ℕ). nat_lt 0 n) c.level.ensures ∙ sym (wanted_chosen d.setting d.history c.args.piece c.requires)
