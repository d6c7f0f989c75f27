use Rattle.std.proofs.Common.{ap, arith}
use Rattle.bt_history.specs.declared.event.Action.TheVariants.{Lose}
use Rattle.bt_history.specs.History.{is_failed}
use Rattle.bt_picker.proofs.KeeperCalls.{lost_within, not_failed, told_stash}
use Rattle.bt_picker.proofs.keeper.Keeper.lose.Goals as goal

pub take-requires : goal.take-requires
take-requires c =
    let d = c.self.inside.picker in
    let within = lost_within d c.tell-reply.new.self c.args.worker c.args.piece c.tell-reply.result c.in-Failed.is c.tell-reply.ensures.tells in
    omega (arith, within, c.self.invariant.len)

pub invariant_of-self : goal.invariant_of-self
invariant_of-self c =
    let kept = told_stash c.self.inside.picker c.tell-reply.new.self c.self.inside.stash c.args.worker (Lose c.args.piece) c.tell-reply.result
    c.self.invariant c.tell-reply.ensures.tells in
    rw c.take.ensures.left (rw (ap is_failed c.in-Failed.is) at kept)

pub invariant_of-self-in_default : goal.invariant_of-self-in_default
invariant_of-self-in_default c =
    let kept = told_stash c.self.inside.picker c.tell-reply.new.self c.self.inside.stash c.args.worker (Lose c.args.piece) c.tell-reply.result
    c.self.invariant c.tell-reply.ensures.tells in
    rw (not_failed c.tell-reply.result c.in_default.not-Failed) at kept
