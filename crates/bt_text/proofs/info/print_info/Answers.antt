use Rattle.std.proofs.Common.{◌≡◌, ℕ, List, Option, Result, Ok, Err}
use Rattle.std.specs.Prelude.{IsOkAnd}
use Rattle.std.specs.Io.KnownBytes.{Appends}
use Rattle.bt_meta.specs.Layout.{Metainfo}
use Rattle.bt_meta.specs.declared.fault.MetaFault.{MetaFault}
use Rattle.bt_text.specs.declared.info.Info.{Info}
use Rattle.bt_text.specs.Info.{Describes, PrintsInfo, info_lines}
use Rattle.bt_text.proofs.info.print_info.Goals as goal

-- the description that was made was written
printed : (read : Result Metainfo MetaFault) (text : List ℕ) (old new : Option (List ℕ)) →
    IsOkAnd read (λ t. (info : Info) × (Describes t info × (text ≡ info_lines info))) →
    Appends old new text → PrintsInfo read old new
printed (Ok t) text old new made wrote = (made.0, (made.1.0, rw made.1.1 at wrote))
printed (Err fault) text old new made wrote = absurd made

pub returns-in-Ok-clause-ok : goal.returns-in-Ok-clause-ok
returns-in-Ok-clause-ok g c = printed _ _ _ _ (rw (← c.deref.ensures) at c.in_ok-text.ensures.ok) c.in-Ok.ensures.ok
