use Rattle.std.proofs.Common.{arith}
use Rattle.bt_picker.proofs.Levelled.{covers_more, none_usable}
use Rattle.bt_picker.proofs.position.Position.new_request.Goals as goal

pub returns-clause-none : goal.returns-clause-none
returns-clause-none c =
    let d = c.args.self.now in
    none_usable d.setting d.history c.args.worker c.loop-slot.slot c.attest.ensures.legal
    (covers_more d.setting d.history c.last_slot-slot-end.result c.loop-slot.slot
    (omega (arith, c.loop-slot-test.false)) c.last_slot-slot-end.ensures.covers) c.loop-slot.invariant
