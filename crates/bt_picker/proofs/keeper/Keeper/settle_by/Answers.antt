use Rattle.std.proofs.Common.{◌∙◌, ap}
use Rattle.sha1.specs.Sha1.{sha1}
use Rattle.bt_picker.proofs.KeeperCalls.{had_hash, settled_stash, settled_waits, tells_hash, tells_none}
use Rattle.bt_picker.proofs.KeeperWaiting.{joined_blocks, waiting_row}
use Rattle.bt_picker.proofs.keeper.Keeper.settle_by.Goals as goal

pub invariant_of-self : goal.invariant_of-self
invariant_of-self c =
    let kept = settled_stash c.self.inside.picker c.settle-reply.new.self c.self.inside.stash c.args.worker c.args.piece c.settle-reply.result
    c.self.invariant c.settle-reply.ensures in
    rw c.take.ensures.left (rw (ap tells_hash c.in-Had.is) at kept)

pub invariant_of-self-in-Failed : goal.invariant_of-self-in-Failed
invariant_of-self-in-Failed c =
    let kept = settled_stash c.self.inside.picker c.settle-reply.new.self c.self.inside.stash c.args.worker c.args.piece c.settle-reply.result
    c.self.invariant c.settle-reply.ensures in
    rw c.take-in-Failed.ensures.left (rw (ap tells_hash c.in-Failed.is) at kept)

pub invariant_of-self-in_default : goal.invariant_of-self-in_default
invariant_of-self-in_default c =
    let kept = settled_stash c.self.inside.picker c.settle-reply.new.self c.self.inside.stash c.args.worker c.args.piece c.settle-reply.result
    c.self.invariant c.settle-reply.ensures in
    rw (tells_none c.settle-reply.result c.in_default.not-Had c.in_default.not-Failed) at kept

pub returns-in-Had-clause-blocks : goal.returns-in-Had-clause-blocks
returns-in-Had-clause-blocks c =
    let waiting = settled_waits c.self.inside.picker c.settle-reply.new.self c.args.worker c.args.piece c.settle-reply.result c.settle-reply.ensures
    (ap tells_hash c.in-Had.is) in
    rw (c.in-Had.is, ← c.self.view_is)
    (c.take.ensures.row
    ∙ waiting_row _ _ c.self.inside.stash c.args.piece c.self.invariant c.attest.ensures.legal waiting)

pub returns-in-Had-clause-hashed : goal.returns-in-Had-clause-hashed
returns-in-Had-clause-hashed c = λ had.
    let d = c.self.inside.picker in
    let settles = c.settle-reply.ensures in
    let waiting = settled_waits d c.settle-reply.new.self c.args.worker c.args.piece c.settle-reply.result settles (ap tells_hash c.in-Had.is) in
    let row = c.take.ensures.row ∙ waiting_row _ _ c.self.inside.stash c.args.piece c.self.invariant c.attest.ensures.legal waiting in
    rw (← c.self.view_is)
    (ap sha1 (joined_blocks d.setting d.history c.args.piece _ row)
    ∙ had_hash d c.settle-reply.new.self c.args.worker c.args.piece (rw c.in-Had.is at settles))
