use Rattle.std.proofs.Common.{◌∙◌, ap, not, sym}
use Rattle.std.proofs.lemmas.Bool.{false≢true, not-false}
use Rattle.bt_picker.specs.Checks.{blocks_of}
use Rattle.bt_picker.proofs.KeeperWaiting.{same_blocks}
use Rattle.bt_picker.proofs.keeper.Keeper.is_stale.Goals as goal

pub returns-then-is_waiting-clause-yes : goal.returns-then-is_waiting-clause-yes
returns-then-is_waiting-clause-yes c = λ differs.
    let d = c.args.self.now in
    let equal = same_blocks c.waiting.result.now c.blocks-then-is_waiting.result.now in
    let held = c.waiting.ensures ∙ ap (blocks_of d.setting d.history) c.piece-then-is_waiting.ensures in (
      rw (← c.piece.ensures, ← c.self.view_is) (sym c.is_waiting.ensures ∙ c.if-is_waiting.true),
      λ same. false≢true (sym (ap not (equal.1 (held ∙ (sym same ∙ sym c.blocks-then-is_waiting.ensures)))) ∙ (sym c.ne.ensures ∙ differs)),
    )

pub returns-then-is_waiting-clause-no : goal.returns-then-is_waiting-clause-no
returns-then-is_waiting-clause-no c = λ agrees waiting.
    let d = c.args.self.now in
    let equal = same_blocks c.waiting.result.now c.blocks-then-is_waiting.result.now in
    let held = c.waiting.ensures ∙ ap (blocks_of d.setting d.history) c.piece-then-is_waiting.ensures in
    sym c.blocks-then-is_waiting.ensures ∙ (sym (equal.0 (not-false _ (sym c.ne.ensures ∙ agrees))) ∙ held)
