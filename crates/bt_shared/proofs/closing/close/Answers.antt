use Rattle.std.specs.Slots.{slots_items}
use Rattle.bt_shared.proofs.Closings.{found_setting}
use Rattle.bt_shared.proofs.closing.close.Goals as goal

pub returns-in-None-clause-setting : goal.returns-in-None-clause-setting
returns-in-None-clause-setting g c =
    let shared = c.args.table.shared in
    found_setting shared.key (slots_items c.close.result.words) (slots_items c.close.result.slots) c.held_in.result c.held_in.ensures.slot
    c.close.ensures.values.2
