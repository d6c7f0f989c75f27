use Rattle.bt_picker.specs.Checks.{SettlesEach}
use Rattle.bt_picker.proofs.FinishingFour.{on_err, settled_more, settled_one, stops_at, waits_else}
use Rattle.bt_picker.proofs.desk.Desk.settle_each.Goals as goal
use Rattle.bt_picker.proofs.desk.Desk.settle_each.Goals.{In_ok-settle_now, In_ok-settle_now-2, In_ok-settle_now-3}

-- what is settled behind each of the first three calls, from what was so before it
one : (c : In_ok-settle_now) → SettlesEach c.args.self.now c.args.worker c.args.piece 1 c.settle_now.new.self
one c = settled_one _ _ _ _ c.in_ok-settle_now.field-0 c.in_ok-settle_now.ensures.ok

two : (c : In_ok-settle_now-2) → SettlesEach c.args.self.now c.args.worker c.args.piece 1 c.settle_now.new.self →
    SettlesEach c.args.self.now c.args.worker c.args.piece 2 c.settle_now-2.new.self
two c before = settled_more _ _ _ _ _ 1 c.in_ok-settle_now-2.field-0 before c.in_ok-settle_now-2.ensures.ok

three : (c : In_ok-settle_now-3) → SettlesEach c.args.self.now c.args.worker c.args.piece 2 c.settle_now-2.new.self →
    SettlesEach c.args.self.now c.args.worker c.args.piece 3 c.settle_now-3.new.self
three c before = settled_more _ _ _ _ _ 2 c.in_ok-settle_now-3.field-0 before c.in_ok-settle_now-3.ensures.ok

pub returns-in_err-settle_now-2-clause-err : goal.returns-in_err-settle_now-2-clause-err
returns-in_err-settle_now-2-clause-err c =
    let at = goal.at.returns-in_err-settle_now-2-clause-err c in
    on_err _ _ (stops_at c.args.self.now c.settle_now.new.self _ c.args.worker c.args.piece 1 (one at.In_ok-settle_now)
    c.in_err-settle_now-2.ensures.err (waits_else _ c.in_err-settle_now-2.ensures.unasked))

pub returns-in_err-settle_now-3-clause-err : goal.returns-in_err-settle_now-3-clause-err
returns-in_err-settle_now-3-clause-err c =
    let at = goal.at.returns-in_err-settle_now-3-clause-err c in
    on_err _ _ (stops_at c.args.self.now c.settle_now-2.new.self _ c.args.worker c.args.piece 2 (two at.In_ok-settle_now-2 (one at.In_ok-settle_now))
    c.in_err-settle_now-3.ensures.err (waits_else _ c.in_err-settle_now-3.ensures.unasked))

pub returns-in_err-settle_now-4-clause-err : goal.returns-in_err-settle_now-4-clause-err
returns-in_err-settle_now-4-clause-err c =
    let at = goal.at.returns-in_err-settle_now-4-clause-err c in
    let done = three at.In_ok-settle_now-3 (two at.In_ok-settle_now-2 (one at.In_ok-settle_now)) in
    on_err _ _ (stops_at c.args.self.now c.settle_now-3.new.self _ c.args.worker c.args.piece 3 done
    c.in_err-settle_now-4.ensures.err (waits_else _ c.in_err-settle_now-4.ensures.unasked))

pub returns-clause-ok : goal.returns-clause-ok
returns-clause-ok c =
    let at = goal.at.returns-clause-ok c in
    let done = three at.In_ok-settle_now-3 (two at.In_ok-settle_now-2 (one at.In_ok-settle_now)) in
    settled_more _ c.settle_now-3.new.self _ _ _ 3 c.in_ok-settle_now-4.field-0 done c.in_ok-settle_now-4.ensures.ok
