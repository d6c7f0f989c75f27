-- What is seen of one history that only grows. The newest entry comes first, so what was seen earlier is the end of the list.
use Rattle.std.specs.Prelude.{◌≡◌, ℕ, ◌==◌, ◌⊎◌, List, [], ◌∷◌, ◌++◌, filter}
use Rattle.bt_history.specs.declared.event.Event.{Event}
use Rattle.bt_history.specs.History.{History}

-- the entries of a worker
abbrev pub own : ℕ → History → History
own worker h = filter (λ (e : Event). e.worker == worker) h

-- w is one of the list
abbrev pub IsAmong : ℕ → List ℕ → Type 0
IsAmong w [] = ⊥
IsAmong w (x ∷ xs) = (x ≡ w) ⊎ IsAmong w xs

-- no number stands twice
abbrev pub AreApart : List ℕ → Type 0
AreApart [] = Unit {0}
AreApart (x ∷ xs) = (IsAmong x xs → ⊥) × AreApart xs

-- what holds of each element
abbrev pub Each : {A : Type 0} → (A → Type 0) → List A → Type 0
Each P [] = Unit {0}
Each P (x ∷ xs) = P x × Each P xs

-- the history began as what was seen
pub record StartsWith (h seen : History) : Type 0 where
  pub newer : History
  pub is : h ≡ newer ++ seen

-- the history began as what was seen, in which all entries of these workers stand
pub record Knows (h : History) (workers : List ℕ) (seen : History) : Type 0 where
  pub begins : StartsWith h seen
  pub complete : (w : ℕ) → IsAmong w workers → own w h ≡ own w seen

-- the history is the old one, or that with one more entry, of one of these workers
abbrev pub Grows : List ℕ → History → History → Type 0
Grows workers old new = (new ≡ old) ⊎ ((e : Event) × IsAmong e.worker workers × (new ≡ e ∷ old))

-- the history is the old one with newer entries, all of these workers
pub record GoesOn (workers : List ℕ) (old new : History) : Type 0 where
  pub newer : History
  pub theirs : Each (λ (e : Event). IsAmong e.worker workers) newer
  pub is : new ≡ newer ++ old

-- what is seen goes on from what was seen, with no entry of the worker between
pub record Continues (worker : ℕ) (old new : History) : Type 0 where
  pub begins : StartsWith new old
  pub same : own worker new ≡ own worker old
