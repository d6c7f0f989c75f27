use Rattle.std.proofs.Common.{rules}
use Rattle.bt_picker.proofs.filed.Filed.write_content.Goals as goal

pub returns-in-Err-clause-ok : goal.returns-in-Err-clause-ok
returns-in-Err-clause-ok g c = search rules fits 100

pub returns-in-Err-clause-sound : goal.returns-in-Err-clause-sound
returns-in-Err-clause-sound g c = search rules fits 100
