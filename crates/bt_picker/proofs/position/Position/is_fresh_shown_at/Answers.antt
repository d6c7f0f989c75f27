use Rattle.std.proofs.Common.{arith}
use Rattle.std.proofs.lemmas.Bool.{not-false, not-true}
use Rattle.bt_picker.proofs.Waiting.{fresh_found, fresh_missing}
use Rattle.bt_picker.proofs.position.Position.is_fresh_shown_at.Goals as goal

pub returns-clause-yes : goal.returns-clause-yes
returns-clause-yes c is =
    let d = c.args.self.now in
    let low = c.group_number.ensures.is in
    let high = c.first_group.ensures in
    let found = c.has_none.ensures.some (not-true c.has_none.result is) in
    fresh_found d.setting d.history c.args.level c.attest.ensures.legal c.attest.ensures.layout c.requires
    (found.0, found.1, omega (arith, found.2, low), omega (arith, found.3, high))

pub returns-clause-no : goal.returns-clause-no
returns-clause-no c is =
    let d = c.args.self.now in
    let low = c.group_number.ensures.is in
    let high = c.first_group.ensures in
    fresh_missing d.setting d.history c.args.level c.requires (λ p lp at_least.
    (let far = c.has_none.ensures.none (not-false c.has_none.result is) p lp (omega (arith, at_least, low)) in omega (arith, far, high)))
