use Rattle.std.proofs.Common.{◌≡◌, arith}
use Rattle.std.proofs.lemmas.Grind.{common_steps}
use Rattle.std.proofs.lemmas.Result.{err_from_is_err_and}
use Rattle.bt_peer.specs.Reader.{IsStuck}
use Rattle.bt_peer.proofs.Heard.{ended, stopped, waits_at}
use Rattle.bt_peer.proofs.reader.Heard.next.Goals as goal

pub returns-in_err-read_on : goal.returns-in_err-read_on
returns-in_err-read_on g c =
    let same : (c.next.new.self ≡ c.reads.self.inbound) × IsStuck c.reads.self.inbound = grind (arith, common_steps) in
    let is = err_from_is_err_and c.from_residual-in_err-read_on.result c.from_residual-in_err-read_on.ensures.1 in
    rw (is.1, is.2)
    (stopped _ _ _ _ (waits_at _ _ c.reads.self.inbound c.reads.invariant.reading same c.reads.invariant.counted) c.in_err-read_on.ensures)

pub returns-then-branch-eq0 : goal.returns-then-branch-eq0
returns-then-branch-eq0 g c =
    let same : (c.next.new.self ≡ c.reads.self.inbound) × IsStuck c.reads.self.inbound = grind (arith, common_steps) in
    ended _ _ _ (waits_at _ _ c.reads.self.inbound c.reads.invariant.reading same c.reads.invariant.counted) c.reads.invariant.sound
    (rw c.if-branch-eq0.true at c.in_ok-read_on.ensures)

pub returns-in-Some : goal.returns-in-Some
returns-in-Some g c = grind (arith, common_steps)
