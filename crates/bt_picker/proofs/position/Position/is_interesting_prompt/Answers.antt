use Rattle.std.proofs.Common.{arith, sym}
use Rattle.bt_picker.proofs.Interest.{no_level_interests}
use Rattle.bt_picker.proofs.Levelled.{covers_more}
use Rattle.bt_picker.proofs.position.Position.is_interesting_prompt.Goals as goal

pub returns : goal.returns
returns c =
    let d = c.args.self.now in
    sym (no_level_interests d.setting d.history c.args.worker c.loop-slot.slot
    (covers_more d.setting d.history c.last_slot-slot-end.result c.loop-slot.slot
    (omega (arith, c.loop-slot-test.false)) c.last_slot-slot-end.ensures.covers) c.loop-slot.invariant)
