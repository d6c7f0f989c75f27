use Rattle.std.proofs.Common.{◌≡◌, List, length, option_copied, rules, subst}
use Rattle.std.specs.Global.{Vec}
use Rattle.bt_history.specs.declared.mark.Mark.{Mark}
use Rattle.bt_history.specs.Legal.{IsLegal}
use Rattle.bt_shared.specs.Closing.{EachKnows}
use Rattle.bt_shared.specs.Gathering.{IsDifference}
use Rattle.bt_shared.proofs.Refusing.{cause}
use Rattle.bt_shared.proofs.gather.gather.Goals as goal

pub returns-in-Some-difference-clause-err : goal.returns-in-Some-difference-clause-err
returns-in-Some-difference-clause-err c =
    let s = c.args.table.shared.key in
    let h = c.in-Some.desk.history in
    let logs = c.take_apart-held.new.logs.items in
    let bits = option_copied c.args.bits in
    let fault = c.in-Some-difference.fault in
    let held = c.take_apart-held.result.0 in
    let legal : IsLegal s h = search rules in
    let count : length logs ≡ s.workers = search rules in
    let told : IsDifference h held logs bits fault =
    subst (λ (all : List (Vec Mark)). IsDifference h held all bits fault) c.deref.ensures.value c.in-Some-difference.ensures.some in
    let knows : EachKnows h c.args.passes.items = search rules in
    cause c.args.passes.items logs c.take_apart-held.ensures.logs s h count held bits fault legal knows c.take_apart-held.ensures.held told
