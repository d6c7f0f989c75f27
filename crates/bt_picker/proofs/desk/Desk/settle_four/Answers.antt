use Rattle.bt_picker.proofs.FinishingFour.{OneOfFour, ThreeOfFour, TwoOfFour, due_own, due_settles, first_of_four, on_err, second_of_four}
use Rattle.bt_picker.proofs.FinishingFour.{settled_more, stops_at, stops_first, third_of_four}
use Rattle.std.proofs.Common.{◌+◌}
use Rattle.bt_picker.proofs.desk.Desk.settle_four.Goals as goal
use Rattle.bt_picker.proofs.desk.Desk.settle_four.Goals.{In_ok-settle, In_ok-settle-2, In_ok-settle-3}

-- what is settled and what is still due behind each of the first three calls, from what was so before it
one : (c : In_ok-settle) → OneOfFour c.args.self.now c.settle.new.self c.args.worker c.args.piece c.args.verdicts.1.value c.args.verdicts.2.value
    c.args.verdicts.3.value
one c = first_of_four _ _ _ _ c.in_ok-settle.field-0 c.args.verdicts.0.value _ _ _ c.requires.due c.in_ok-settle.ensures.ok

two : (c : In_ok-settle-2) → OneOfFour c.args.self.now c.settle.new.self c.args.worker c.args.piece c.args.verdicts.1.value
    c.args.verdicts.2.value c.args.verdicts.3.value →
    TwoOfFour c.args.self.now c.settle-2.new.self c.args.worker c.args.piece c.args.verdicts.2.value c.args.verdicts.3.value
two c before = second_of_four _ _ _ _ _ c.in_ok-settle-2.field-0 c.args.verdicts.1.value _ _ before c.in_ok-settle-2.ensures.ok

three : (c : In_ok-settle-3) → TwoOfFour c.args.self.now c.settle-2.new.self c.args.worker c.args.piece c.args.verdicts.2.value
    c.args.verdicts.3.value → ThreeOfFour c.args.self.now c.settle-3.new.self c.args.worker c.args.piece c.args.verdicts.3.value
three c before = third_of_four _ _ _ _ _ c.in_ok-settle-3.field-0 c.args.verdicts.2.value _ before c.in_ok-settle-3.ensures.ok

pub settle-requires-clause-due : goal.settle-requires-clause-due
settle-requires-clause-due c = due_own c.args.self.now c.args.piece c.args.verdicts.0.value c.requires.due.first

pub returns-in_err-settle-clause-err : goal.returns-in_err-settle-clause-err
returns-in_err-settle-clause-err c =
    on_err _ _ (stops_first c.args.self.now c.settle.new.self c.args.worker c.args.piece c.in_err-settle.ensures.err c.requires.due.first.0)

pub settle-requires-2-clause-due : goal.settle-requires-2-clause-due
settle-requires-2-clause-due c =
    let at = goal.at.settle-requires-2-clause-due c in
    due_own c.settle.new.self (c.args.piece + 1) _ (one at.In_ok-settle).1

pub returns-in_err-settle-2-clause-err : goal.returns-in_err-settle-2-clause-err
returns-in_err-settle-2-clause-err c =
    let at = goal.at.returns-in_err-settle-2-clause-err c in
    let done = one at.In_ok-settle in
    on_err _ _ (stops_at _ _ _ _ _ 1 done.0 c.in_err-settle-2.ensures.err done.1.0)

pub settle-requires-3-clause-due : goal.settle-requires-3-clause-due
settle-requires-3-clause-due c =
    let at = goal.at.settle-requires-3-clause-due c in
    due_own c.settle-2.new.self (c.args.piece + 2) _ (two at.In_ok-settle-2 (one at.In_ok-settle)).1

pub returns-in_err-settle-3-clause-err : goal.returns-in_err-settle-3-clause-err
returns-in_err-settle-3-clause-err c =
    let at = goal.at.returns-in_err-settle-3-clause-err c in
    let done = two at.In_ok-settle-2 (one at.In_ok-settle) in
    on_err _ _ (stops_at _ _ _ _ _ 2 done.0 c.in_err-settle-3.ensures.err done.1.0)

pub settle-requires-4-clause-due : goal.settle-requires-4-clause-due
settle-requires-4-clause-due c =
    let at = goal.at.settle-requires-4-clause-due c in
    due_own c.settle-3.new.self (c.args.piece + 3) _ (three at.In_ok-settle-3 (two at.In_ok-settle-2 (one at.In_ok-settle))).1

pub returns-in_err-settle-4-clause-err : goal.returns-in_err-settle-4-clause-err
returns-in_err-settle-4-clause-err c =
    let at = goal.at.returns-in_err-settle-4-clause-err c in
    let done = three at.In_ok-settle-3 (two at.In_ok-settle-2 (one at.In_ok-settle)) in
    on_err _ _ (stops_at _ _ _ _ _ 3 done.0 c.in_err-settle-4.ensures.err done.1.0)

pub returns-clause-ok : goal.returns-clause-ok
returns-clause-ok c =
    let at = goal.at.returns-clause-ok c in
    let done = three at.In_ok-settle-3 (two at.In_ok-settle-2 (one at.In_ok-settle)) in
    let last = due_settles c.settle-3.new.self c.settle-4.new.self _ (c.args.piece + 3) c.in_ok-settle-4.field-0 c.args.verdicts.3.value done.1
    c.in_ok-settle-4.ensures.ok in
    settled_more _ _ _ _ _ 3 _ done.0 last
