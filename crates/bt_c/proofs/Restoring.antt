-- A restore changes no setting.
use Rattle.std.specs.Prelude.{◌≡◌, ℕ, zero, suc, List, Option, None, Some, length}
use Rattle.std.proofs.Common.{ap, ◌∙◌}
use Rattle.bt_meta.specs.Layout.{block_count}
use Rattle.bt_picker.specs.Positions.{DeskState}
use Rattle.bt_picker.specs.Restores.{Brings, Restores, RestoresUnless, restore_fault}
use Rattle.bt_picker.specs.declared.picker.restoring.Restored.{Restored}

brings_setting : (old new : DeskState) (w p : ℕ) (bytes : List ℕ) (n : ℕ) → Brings old new w p bytes n → new.setting ≡ old.setting
brings_setting old new w p bytes zero same = ap (λ (d : DeskState). d.setting) same
brings_setting old new w p bytes (suc n) (d, before, brought) = brought.1.setting ∙ brings_setting old d w p bytes n before

unless : (fault : Option Restored) (old new : DeskState) (w p : ℕ) (bytes : List ℕ) (result : Restored)
    → RestoresUnless fault old new w p bytes result → new.setting ≡ old.setting
unless (Some fault) old new w p bytes result none = ap (λ (d : DeskState). d.setting) none.0
unless None old new w p bytes result (reply, whole, is) =
    whole.settles.setting ∙ brings_setting old whole.full w p bytes (block_count old.setting.torrent p) whole.brings

pub restored_setting : (old new : DeskState) (w p : ℕ) (bytes : List ℕ) (result : Restored) → Restores old new w p bytes result →
    new.setting ≡ old.setting
restored_setting old new w p bytes result = unless (restore_fault old w p (length bytes)) old new w p bytes result
