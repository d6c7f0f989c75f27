use Rattle.bt_picker.specs.Restores.{part}
use Rattle.bt_picker.proofs.unseen.Unseen.part.Given as goal

abbrev pub ghost-within : goal.ghost-within
ghost-within a = part a._whole.now.bytes a._begin
