use Rattle.std.proofs.Common.{ℕ, ◌+◌, ap}
use Rattle.bt_tables.specs.declared.piece.TheConstants.{SPAN}
use Rattle.bt_picker.proofs.Levelled.{no_group}
use Rattle.bt_picker.proofs.position.Position.has_none_unasked.Goals as goal

pub returns : goal.returns
returns c is q =
    let d = c.args.self.now in
    no_group d.setting d.history q c.args.level c.group_number.result (c.first_group.result + SPAN) c.attest.ensures.legal c.group_number.ensures.is
    (ap (λ (g : ℕ). g + SPAN) c.first_group.ensures) (c.has_none.ensures.none is)
