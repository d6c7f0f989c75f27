use Rattle.std.proofs.Common.{◌∙◌, ap, sym}
use Rattle.bt_history.specs.Entries.{action_of}
use Rattle.bt_picker.proofs.places.Places.note.Goals as goal

pub put-requires : goal.put-requires
put-requires c = c.requires c.in-Arrived.piece c.in-Arrived.begin c.in-Arrived.bytes (ap action_of c.in-Arrived.is)
    (sym c.is_stored.ensures ∙ c.if-is_stored.true)
