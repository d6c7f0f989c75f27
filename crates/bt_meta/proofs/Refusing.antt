-- Where a reading has no fault, nothing but want of memory refuses.
use Rattle.std.proofs.Common.{◌≡◌, Ok, Err, Result, refl, subst}
use Rattle.std.specs.Prelude.{MatchResult}
use Rattle.bt_bencode.proofs.Results.{ok_is}
use Rattle.bt_meta.specs.declared.fault.MetaFault.{MetaFault}
use Rattle.bt_meta.specs.declared.fault.MetaFault.TheVariants.{NoMemory}
use Rattle.bt_meta.specs.Reading.{Gives, Fails}

abbrev given : {Y : Type 0} → Y → Result Y MetaFault
given y = Ok y

only_memory : {Y : Type 0} (fault : MetaFault) (y : Y) → Fails fault (given y) → fault ≡ NoMemory
only_memory NoMemory y h = refl
only_memory fault y h = absurd cc

-- what holds of what is read holds of what is returned
pub read_or_memory : {X Y : Type 0} (view : X → Y) (P : Y → Type 0) (r : Result X MetaFault) (y : Y) → Gives view r (given y) → P y
    → MatchResult r (λ x. P (view x)) (λ fault. fault ≡ NoMemory)
read_or_memory view P (Ok x) y h holds = subst P (ok_is y (view x) h) holds
read_or_memory view P (Err fault) y h holds = only_memory fault y h
