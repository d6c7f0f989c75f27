use Rattle.std.proofs.Common.{◌≤◌, ◌∙◌, ap, length, List, arith, subst}
use Rattle.std.proofs.Math.Nat.{le_trans, max-le, min-le_right}
use Rattle.bt_meta.specs.declared.block.Block.{Block}
use Rattle.bt_history.specs.Legal.{IsLegal}
use Rattle.bt_history.specs.Peers.{outstanding}
use Rattle.bt_history.specs.Setting.{deepest_line}
use Rattle.bt_history.specs.declared.rules.TheConstants.{MOST_DEPTH, MOST_TOLD_DEPTH}
use Rattle.bt_history.proofs.Depths.{so_far_bounded}
use Rattle.bt_history.proofs.LineLaws.{lines_room}
use Rattle.bt_picker.specs.Positions.{DeskState}
use Rattle.bt_c.specs.Behind.{state}
use Rattle.bt_c.proofs.held.Held.outstanding_count.Goals as goal

pub overflow_cast-result : goal.overflow_cast-result
overflow_cast-result c =
    let held = c.args.self.now in let d = state held in
    let legal = subst (λ (e : DeskState). IsLegal e.setting e.history) c.picker-picker.ensures c.attest.ensures.legal in
    let room = lines_room d.setting d.history c.args.worker legal in
    let bounded = so_far_bounded d.setting d.history c.args.worker legal in
    let told : MOST_DEPTH ≤ MOST_TOLD_DEPTH = omega arith in
    let most : deepest_line d.setting ≤ MOST_TOLD_DEPTH =
    max-le (le_trans held.are_rules.deep told) (min-le_right d.setting.deepest MOST_TOLD_DEPTH) in
    let same = ap (λ (bs : List Block). length bs) c.outstanding.ensures
    ∙ ap (λ (e : DeskState). length (outstanding e.history c.args.worker)) c.picker-picker.ensures in
    omega (arith, room, bounded, most, same)

pub returns : goal.returns
returns c =
    let d = state c.args.self.now in
    let same = ap (λ (bs : List Block). length bs) c.outstanding.ensures
    ∙ ap (λ (e : DeskState). length (outstanding e.history c.args.worker)) c.picker-picker.ensures in
    let legal = subst (λ (e : DeskState). IsLegal e.setting e.history) c.picker-picker.ensures c.attest.ensures.legal in
    let room = lines_room d.setting d.history c.args.worker legal in
    (grind arith, same, omega (arith, room, same))
