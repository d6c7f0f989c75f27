-- A message taken off the front.
use Rattle.std.proofs.Common.{◌≡◌, ℕ, List, ◌++◌, ◌≢◌, ◌≤◌, length, take, drop, true, false, subst, arith, sym, refl, ap, ◌∙◌}
use Rattle.std.proofs.lemmas.List.{take-append-drop, take-take}
use Rattle.bt_wire.specs.declared.message.Message.{Message}
use Rattle.bt_wire.specs.declared.message.WireFault.{WireFault}
use Rattle.bt_wire.specs.declared.message.WireFault.TheVariants.{BadHandshake}
use Rattle.bt_wire.specs.Messages.{protocol}
use Rattle.bt_wire.specs.Stream.{InboundState, Spells, Gives, HasFault}

pub gives : (a : InboundState) (m : Message) (len : ℕ) (rest : List ℕ) → Spells a.greeted a.limit m (take len a.bytes) → rest ≡ drop len a.bytes →
    Gives a m (record a { greeted = true; bytes = rest })
gives a m len rest spells is =
    record {
      text = take len a.bytes;
      spells = spells;
      bytes = sym (take-append-drop len a.bytes) ∙ ap (λ (xs : List ℕ). take len a.bytes ++ xs) (sym is);
      after = refl;
    }

-- 68 bytes that don't begin as a handshake
pub bad_handshake : (limit : ℕ) (bytes first : List ℕ) (e : WireFault) → 68 ≤ length bytes → first ≡ take 68 bytes → e ≡ BadHandshake →
    take 20 first ≢ protocol → HasFault false limit bytes e
bad_handshake limit bytes first e long is fault other =
    subst (HasFault false limit bytes) (sym fault) (long, λ same. other (ap (take 20) is ∙ take-take 20 68 bytes (omega arith) ∙ same))
