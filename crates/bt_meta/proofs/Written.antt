-- Writing piece by piece.
use Rattle.std.proofs.Common.{◌≡◌, ℕ, ◌<◌, List, ◌++◌, take, drop, Bool, true, false, Option, refl, sym, ap, ◌∙◌, append_assoc, arith, zero, suc, Ok}
use Rattle.std.specs.Prelude.{◌||◌}
use Rattle.std.proofs.lemmas.List.{take-append-drop}
use Rattle.std.proofs.KnownBytes.{Appends-trans}
use Rattle.std.specs.Io.KnownBytes.{Appends}
use Rattle.bt_meta.specs.Devices.{is_refused}
use Rattle.bt_meta.specs.declared.devices.DeviceFault.{DeviceFault}

-- a part of the bytes is written, and the rest is left
pub record Partly (old new : Option (List ℕ)) (bytes rest : List ℕ) : Type 0 where
  pub done : List ℕ
  pub parts : bytes ≡ done ++ rest
  pub wrote : Appends old new done

pub partly_more : (a b c : Option (List ℕ)) (bytes rest : List ℕ) (n : ℕ) → Partly a b bytes rest → Appends b c (take n rest) →
    Partly a c bytes (drop n rest)
partly_more a b c bytes rest n p more = record {
  done = p.done ++ take n rest;
  parts = p.parts ∙ ap (λ (xs : List ℕ). p.done ++ xs) (sym (take-append-drop n rest)) ∙ sym (append_assoc p.done (take n rest) (drop n rest));
  wrote = Appends-trans a b c p.done (take n rest) p.wrote more;
}

or_false : (b : Bool) → (b || false) ≡ b
or_false true = refl
or_false false = refl

-- a write that took some bytes doesn't refuse
pub not_refused : (n : ℕ) (bytes : List ℕ) → 0 < n → is_refused {E = DeviceFault} (Ok n) bytes ≡ false
not_refused zero bytes some = absurd (omega arith)
not_refused (suc n) bytes some = refl

pub stays_sound : (a b c r : Bool) → a ≡ (b || r) → r ≡ false → b ≡ c → a ≡ c
stays_sound a b c true p q h = absurd cc
stays_sound a b c false p q h = p ∙ or_false b ∙ h
