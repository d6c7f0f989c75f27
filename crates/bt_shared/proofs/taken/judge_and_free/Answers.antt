use Rattle.std.proofs.Common.{sym, subst}
use Rattle.bt_picker.specs.Positions.{DeskState}
use Rattle.bt_shared.specs.Passes.{IsTurnOf}
use Rattle.bt_shared.proofs.Turns.{turn_gives, turn_grows}
use Rattle.bt_shared.proofs.taken.judge_and_free.Goals as goal

pub unlock_after-requires-clause-taken : goal.unlock_after-requires-clause-taken
unlock_after-requires-clause-taken c =
    let m = c.args.seat.now.me in
    let w = c.args.worker in
    let d : DeskState = c.deref_mut.result.now in
    let turn : IsTurnOf w m d = subst (IsTurnOf w m) (sym c.deref_mut.ensures.value) c.requires.turn in
    let after = turn_grows w m d _ turn c.judge-reply.ensures.setting c.judge-reply.ensures.grows in
    (c.requires.turn.away, c.requires.turn.live, turn_gives w m _ after)
