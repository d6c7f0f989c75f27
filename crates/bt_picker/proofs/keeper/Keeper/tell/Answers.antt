use Rattle.std.proofs.Common.{◌∙◌, sym}
use Rattle.bt_picker.proofs.KeeperCalls.{plain_stash}
use Rattle.bt_picker.proofs.keeper.Keeper.tell.Goals as goal

pub invariant_of-self : goal.invariant_of-self
invariant_of-self c =
    plain_stash c.self.inside.picker c.tell.new.self c.self.inside.stash c.args.worker c.args.told c.tell.result
    (λ piece begin bytes is. sym (c.keeps.ensures _ _ c.tell.ensures.tells) ∙ c.if-not-keeps.true)
    (λ piece is. absurd (cc (is, c.in-Arrived.is))) (λ piece begin is. absurd (cc (is, c.in-Arrived.is))) c.self.invariant c.tell.ensures.tells

pub invariant_of-self-in_default : goal.invariant_of-self-in_default
invariant_of-self-in_default c =
    plain_stash c.self-in_default.inside.picker c.tell-in_default.new.self c.self-in_default.inside.stash c.args.worker c.args.told
    c.tell-in_default.result (λ piece begin bytes is. absurd (c.in_default.not-Arrived piece begin bytes is)) c.in_default.not-Lose
    c.in_default.not-Discard c.self-in_default.invariant
    c.tell-in_default.ensures.tells
