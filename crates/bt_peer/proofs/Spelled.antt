-- The flags that a bitfield message spells.
use Rattle.std.proofs.Common.{◌≡◌, ℕ, Bool, List, length, ap, sym, arith}
use Rattle.bt_history.specs.declared.event.Action.TheVariants as actions
use Rattle.bt_meta.specs.WireBits.{IsSpelled, flags_of}
use Rattle.bt_meta.proofs.Payloads.{same_flags}

-- the set that the bytes spell has the flags of their first bits
spelled_flags : (pieces : ℕ) (bytes : List ℕ) (flags : List Bool) → length flags ≡ pieces → IsSpelled flags bytes →
    flags_of pieces bytes ≡ flags
spelled_flags pieces bytes flags count spelled =
    same_flags pieces bytes flags count (λ piece. λ below. spelled.bits piece (omega (arith, count, spelled.len)))

-- to tell the set is to tell these
pub told_flags : (pieces : ℕ) (bytes : List ℕ) (flags : List Bool) → length flags ≡ pieces → IsSpelled flags bytes →
    actions.Bits flags ≡ actions.Bits (flags_of pieces bytes)
told_flags pieces bytes flags count spelled = sym (ap actions.Bits (spelled_flags pieces bytes flags count spelled))
