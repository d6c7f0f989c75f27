use Rattle.std.proofs.Common.{ℕ, length, List, ap, sym, ◌∙◌}
use Rattle.std.specs.Prelude.{nat_lt}
use Rattle.bt_meta.specs.declared.block.Block.{Block}
use Rattle.bt_history.proofs.LineLaws.{asked_count_is}
use Rattle.bt_picker.proofs.position.Position.rushes.Goals as goal

pub returns : goal.returns
returns c =
    let d = c.args.self.now in
    ap (nat_lt (length c.outstanding.result.now)) c.rush.ensures
    ∙ (ap (λ (line : List Block). nat_lt (length line) d.setting.rush) c.outstanding.ensures
    ∙ ap (λ (n : ℕ). nat_lt n d.setting.rush) (sym (asked_count_is d.setting d.history c.args.worker c.attest.ensures.legal)))
