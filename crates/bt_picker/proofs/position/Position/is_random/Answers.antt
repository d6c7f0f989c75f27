use Rattle.std.proofs.Common.{rules}
use Rattle.bt_picker.proofs.position.Position.is_random.Goals as goal

pub returns : goal.returns
returns c = search rules fits 100
