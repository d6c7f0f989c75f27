use Rattle.std.proofs.Common.{◌≡◌, ℕ, List, Option, Result, Ok, Err}
use Rattle.std.specs.Prelude.{IsOkAnd}
use Rattle.std.specs.Io.KnownBytes.{Appends, Keeps}
use Rattle.bt_meta.specs.Layout.{Metainfo}
use Rattle.bt_meta.specs.declared.fault.MetaFault.{MetaFault}
use Rattle.bt_text.specs.declared.info.Info.{Info}
use Rattle.bt_text.specs.Info.{Describes, PrintsInfo, info_lines}
use Rattle.bt_text.proofs.Written.{Appends-flushed}
use Rattle.bt_text.proofs.info.describe.Goals as goal

-- the description that was made was written, and then flushed
printed : (read : Result Metainfo MetaFault) (text : List ℕ) (first then last : Option (List ℕ)) →
    IsOkAnd read (λ t. (info : Info) × (Describes t info × (text ≡ info_lines info))) →
    Appends first then text → Keeps then last → PrintsInfo read first last
printed (Ok t) text first then last made wrote kept =
    (made.0, (made.1.0, Appends-flushed first then last (info_lines made.0) text made.1.1 wrote kept))
printed (Err fault) text first then last made wrote kept = absurd made

pub returns-clause-ok : goal.returns-clause-ok
returns-clause-ok g c =
    printed _ _ _ _ _ (rw (← c.as_bytes.ensures.value) at c.in_ok-text.ensures.ok) c.in_ok-write_all.ensures.bytes c.in_ok-flush.ensures.bytes
