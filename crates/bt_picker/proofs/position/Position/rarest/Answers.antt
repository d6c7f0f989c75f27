use Rattle.std.proofs.Common.{Some, true}
use Rattle.bt_picker.proofs.Rarest.{crowd_found, past_them, rarest_found, rarest_more, under_crowd}
use Rattle.bt_picker.proofs.Rounds.{order_least}
use Rattle.bt_picker.proofs.Stages.{group_within}
use Rattle.bt_picker.specs.Search.{is_candidate_at}
use Rattle.bt_picker.proofs.position.Position.rarest.Goals as goal

pub returns-in-Some-clause-first : goal.returns-in-Some-clause-first
returns-in-Some-clause-first c =
    let d = c.args.self.now in
    let k = c.loop-shown_by.shown_by in
    let under = under_crowd d.setting.workers _ _ k c.workers.ensures c.min-most.ensures c.loop-shown_by-test.true in
    (rarest_found d.setting d.history c.args.worker c.args.level k c.args.first c.group-pieces.result.now c.attest.ensures.legal c.requires.level
    under c.group-pieces.ensures c.loop-shown_by.invariant c.in-Some.piece c.in-Some.ensures).0

pub returns-in-Some-clause-least : goal.returns-in-Some-clause-least
returns-in-Some-clause-least c =
    let d = c.args.self.now in
    let k = c.loop-shown_by.shown_by in
    let under = under_crowd d.setting.workers _ _ k c.workers.ensures c.min-most.ensures c.loop-shown_by-test.true in
    order_least d.setting d.history true c.args.first (is_candidate_at d.setting d.history c.args.worker c.args.level) (Some c.in-Some.piece)
    (rarest_found d.setting d.history c.args.worker c.args.level k c.args.first c.group-pieces.result.now c.attest.ensures.legal c.requires.level
    under c.group-pieces.ensures c.loop-shown_by.invariant c.in-Some.piece c.in-Some.ensures).0

pub returns-in-Some-clause-within : goal.returns-in-Some-clause-within
returns-in-Some-clause-within c =
    let d = c.args.self.now in
    let k = c.loop-shown_by.shown_by in
    let under = under_crowd d.setting.workers _ _ k c.workers.ensures c.min-most.ensures c.loop-shown_by-test.true in
    (rarest_found d.setting d.history c.args.worker c.args.level k c.args.first c.group-pieces.result.now c.attest.ensures.legal c.requires.level
    under c.group-pieces.ensures c.loop-shown_by.invariant c.in-Some.piece c.in-Some.ensures).1

pub loop-shown_by-preserved : goal.loop-shown_by-preserved
loop-shown_by-preserved c =
    let d = c.args.self.now in
    let k = c.loop-shown_by.shown_by in
    let under = under_crowd d.setting.workers _ _ k c.workers.ensures c.min-most.ensures c.loop-shown_by-test.true in
    rarest_more d.setting d.history c.args.worker c.args.level k c.args.first c.group-pieces.result.now c.attest.ensures.legal c.requires.level
    under c.group-pieces.ensures c.loop-shown_by.invariant c.in_default.ensures

pub first_offered-requires-clause-pieces : goal.first_offered-requires-clause-pieces
first_offered-requires-clause-pieces c =
    let d = c.args.self.now in
    group_within d.setting d.history _ c.group.result.now c.group.ensures

pub returns-clause-first : goal.returns-clause-first
returns-clause-first c =
    let d = c.args.self.now in
    let k = c.loop-shown_by.shown_by in
    let past = past_them d.setting.workers _ _ k c.workers.ensures c.min-most.ensures c.loop-shown_by-test.false in
    (crowd_found d.setting d.history c.args.worker c.args.level k c.args.first c.group.result.now c.attest.ensures.legal c.requires.level past
    c.group.ensures c.loop-shown_by.invariant c.first_offered.result c.first_offered.ensures).0

pub returns-clause-least : goal.returns-clause-least
returns-clause-least c =
    let d = c.args.self.now in
    let k = c.loop-shown_by.shown_by in
    let past = past_them d.setting.workers _ _ k c.workers.ensures c.min-most.ensures c.loop-shown_by-test.false in
    order_least d.setting d.history true c.args.first (is_candidate_at d.setting d.history c.args.worker c.args.level) c.first_offered.result
    (crowd_found d.setting d.history c.args.worker c.args.level k c.args.first c.group.result.now c.attest.ensures.legal c.requires.level past
    c.group.ensures c.loop-shown_by.invariant c.first_offered.result c.first_offered.ensures).0

pub returns-clause-within : goal.returns-clause-within
returns-clause-within c =
    let d = c.args.self.now in
    let k = c.loop-shown_by.shown_by in
    let past = past_them d.setting.workers _ _ k c.workers.ensures c.min-most.ensures c.loop-shown_by-test.false in
    (crowd_found d.setting d.history c.args.worker c.args.level k c.args.first c.group.result.now c.attest.ensures.legal c.requires.level past
    c.group.ensures c.loop-shown_by.invariant c.first_offered.result c.first_offered.ensures).1
