use Rattle.std.proofs.Common.{◌≤◌, ◌∙◌, arith}
use Rattle.std.proofs.lemmas.Bool.{leb-true, or_right}
use Rattle.bt_history.specs.Next.{is_candidate, is_rarest, is_strict}
use Rattle.bt_history.specs.Pieces.{availability}
use Rattle.bt_history.proofs.Opening.{rarer_none}
use Rattle.bt_picker.proofs.Leading.{resumes_parts}
use Rattle.bt_picker.proofs.Stages.{candidate_at}
use Rattle.bt_picker.proofs.position.Position.goes_at_once.Goals as goal

pub returns-else-is_strict-clause-yes : goal.returns-else-is_strict-clause-yes
returns-else-is_strict-clause-yes c is =
    let d = c.args.self.now in
    let own = resumes_parts d.setting d.history c.args.worker c.args.level c.args.piece c.requires.resumes in
    let few : availability d.setting d.history c.args.piece ≤ c.floor_at.result =
    (let low = leb-true c.availability.result c.floor_at.result is in omega (arith, low, c.availability.ensures)) in
    or_right (is_strict d.setting d.history) (is_rarest d.setting d.history c.args.worker c.args.piece)
    (rarer_none d.setting d.history (is_candidate d.setting d.history c.args.worker) c.args.piece (λ r lr may same.
    let least = c.floor_at.ensures r lr (candidate_at d.setting d.history c.args.worker c.args.level r may (same ∙ own.2)) in
    omega (arith, few, least)))
