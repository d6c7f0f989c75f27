-- What an entry makes of the bytes that are held of a block.
use Rattle.std.proofs.Common.{◌≡◌, ℕ, Bool, true, false, ◌||◌, List, [], ◌∷◌, Option, None, Some, refl, ap, sym, ◌∙◌, not, ◌&&◌}
use Rattle.std.specs.Prelude.{is_some, if◌then◌else◌, unwrap_or}
use Rattle.std.proofs.lemmas.Bool.{false≢true}
use Rattle.bt_meta.specs.declared.block.Block.{Block}
use Rattle.bt_history.specs.declared.event.Event.{Event}
use Rattle.bt_history.specs.History.{History, freed, lost, passed, stored}
use Rattle.bt_history.specs.Pieces.{content_of_block, had, kept}

-- where it neither stored the block nor freed it
pub same_after : (h : History) (e : Event) (b : Block) → freed e b ≡ false → stored e b ≡ None
    → content_of_block (e ∷ h) b ≡ content_of_block h b
unfolding kept
same_after h e b lasts none =
    ap (λ (x : Bool). unwrap_or (if x then None else if is_some (stored e b) then stored e b else kept h b) []) lasts
    ∙ ap (λ (o : Option (List ℕ)). unwrap_or (if is_some o then o else kept h b) []) none

-- where it stored the block
pub stored_after : (h : History) (e : Event) (b : Block) (bytes : List ℕ) → freed e b ≡ false → stored e b ≡ Some bytes
    → content_of_block (e ∷ h) b ≡ bytes
unfolding kept
stored_after h e b bytes lasts some =
    ap (λ (x : Bool). unwrap_or (if x then None else if is_some (stored e b) then stored e b else kept h b) []) lasts
    ∙ ap (λ (o : Option (List ℕ)). unwrap_or (if is_some o then o else kept h b) []) some

-- where it freed the block
pub lost_after : (h : History) (e : Event) (b : Block) → freed e b ≡ true → content_of_block (e ∷ h) b ≡ []
unfolding kept
lost_after h e b fails =
    ap (λ (x : Bool). unwrap_or (if x then None else if is_some (stored e b) then stored e b else kept h b) []) fails

-- a piece that isn't had now, and wasn't lost, was not had before
pub not_had : (h : History) (e : Event) (p : ℕ) → lost e p ≡ false → had (e ∷ h) p ≡ false → had h p ≡ false
unfolding had
not_had h e p keeps is = second (passed e p) (lost e p) (had h p) keeps is where
  second : (a x b : Bool) → x ≡ false → (a || (not x && b)) ≡ false → b ≡ false
  second true x b keeps is = absurd (false≢true (sym is))
  second false true b keeps is = absurd (false≢true (sym keeps))
  second false false b keeps is = is

pub not_passed : (h : History) (e : Event) (p : ℕ) → had (e ∷ h) p ≡ false → passed e p ≡ false
unfolding had
not_passed h e p is = first (passed e p) (not (lost e p) && had h p) is where
  first : (a b : Bool) → (a || b) ≡ false → a ≡ false
  first true b is = absurd (false≢true (sym is))
  first false b is = refl
