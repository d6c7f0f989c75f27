-- The file of `--out`, where there is one.
use Rattle.std.specs.Prelude.{◌≡◌, ◌⊎◌, ℕ, Bool, true, false, List, Option, Some, None}
use Rattle.std.specs.Io.KnownBytes.{Appends}
use Rattle.bt_picker.specs.Contents.{complete, whole_content}
use Rattle.bt_picker.specs.Positions.{DeskState}
use Rattle.bt_cli.specs.declared.target.Target.{Target}

-- the content of a desk is in a file: nothing else was written since it was made
abbrev pub Holds : Option (List ℕ) → DeskState → Option (List ℕ) → Type 0
Holds blank desk held = Appends blank held (whole_content desk.setting desk.history)

-- a file was left alone where a piece is lacking, and else it holds the content, or has failed
pub record Saves {F : Type 0} (failed : F → Bool) (written : F → Option (List ℕ)) (blank : Option (List ℕ)) (desk : DeskState) (old new : F) : Type 0
  where
    pub untouched : complete desk.setting desk.history ≡ false → new ≡ old
    pub saved : complete desk.setting desk.history ≡ true → (failed new ≡ true) ⊎ Holds blank desk (written new)

-- the same of the file that is asked for, where one is
abbrev pub SavesTo : {F : Type 0} → (F → Bool) → (F → Option (List ℕ)) → Option (List ℕ) → DeskState → Option (Target F) → Option (Target F) → Type 0
SavesTo failed written blank desk None None = Unit {0}
SavesTo failed written blank desk None (Some new) = ⊥
SavesTo failed written blank desk (Some old) None = ⊥
SavesTo failed written blank desk (Some old) (Some new) = Saves failed written blank desk old.file new.file

-- where one is asked for, and all pieces are had, it holds the content
abbrev pub HoldsAll : {F : Type 0} → (F → Option (List ℕ)) → Option (List ℕ) → DeskState → Option (Target F) → Type 0
HoldsAll written blank desk None = Unit {0}
HoldsAll written blank desk (Some target) = complete desk.setting desk.history ≡ true → Holds blank desk (written target.file)

-- one is asked for, and has failed
abbrev pub HasFailed : {F : Type 0} → (F → Bool) → Option (Target F) → Type 0
HasFailed failed None = ⊥
HasFailed failed (Some target) = failed target.file ≡ true
