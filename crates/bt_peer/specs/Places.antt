-- What a place has gained between two moments.
use Rattle.std.specs.Prelude.{◌≡◌, ℕ, ◌==◌, if◌then◌else◌, Bool, true, false, List, [], ◌∷◌, ◌++◌}
use Rattle.std.specs.Borrow.{GName}
use Rattle.bt_history.specs.declared.call.Reply.{Reply}
use Rattle.bt_history.specs.declared.event.Action.{Action}
use Rattle.bt_history.specs.Setting.{Setting}
use Rattle.bt_peer.specs.Acts.{Act, calls_of, news_of}

-- these pieces were told, each once and none before, and no others
abbrev pub Tells : (ℕ → Bool) → List ℕ → (ℕ → Bool) → Type 0
Tells old [] new = (piece : ℕ) → new piece ≡ old piece
Tells old (first ∷ pieces) new = (old first ≡ false) × Tells (λ piece. if piece == first then true else old piece) pieces new

-- each of the pieces is finished
abbrev pub AllHad : (ℕ → Bool) → List ℕ → Type 0
AllHad had [] = Unit {0}
AllHad had (piece ∷ pieces) = (had piece ≡ true) × AllHad had pieces

-- the second list begins with the first
abbrev pub Extends : List ℕ → List ℕ → Type 0
Extends old new = (more : List ℕ) × (new ≡ old ++ more)

-- what a place says of itself
pub record PlaceRecord : Type 0 where
  -- the `&mut`s that it holds, by which their owner knows them again
  pub lent : List GName
  -- whose place it is
  pub worker : ℕ
  -- what its desk is judged by
  pub setting : Setting
  -- its worker's calls with their replies
  pub calls : List (Action × Reply)
  -- those of the other workers, where nobody else can make any
  pub others : ℕ → List (Action × Reply)
  -- the pieces that are known to be finished
  pub had : ℕ → Bool
  -- the same in the order in which they came to be finished, where the place keeps it
  pub in_order : List ℕ
  -- the pieces that were told as news
  pub told : ℕ → Bool
  -- a call has found no memory
  pub lacked : Bool

-- each piece that is known to be finished was told
abbrev pub AllTold : PlaceRecord → Type 0
AllTold place = (piece : ℕ) → place.had piece ≡ true → place.told piece ≡ true

-- the place gained these acts, perhaps with a call that found no memory
pub record GainsUpTo (old : PlaceRecord) (acts : List Act) (new : PlaceRecord) : Type 0 where
  pub lent : new.lent ≡ old.lent
  pub worker : new.worker ≡ old.worker
  pub setting : new.setting ≡ old.setting
  pub calls : new.calls ≡ old.calls ++ calls_of acts
  pub others : (worker : ℕ) → new.others worker ≡ old.others worker
  pub had : (piece : ℕ) → old.had piece ≡ true → new.had piece ≡ true
  pub in_order : Extends old.in_order new.in_order
  pub told : Tells old.told (news_of acts) new.told
  pub finished : AllHad new.had (news_of acts)

-- the place gained these acts, and no call found no memory
pub record Gains (old : PlaceRecord) (acts : List Act) (new : PlaceRecord) : Type 0 where
  pub up_to : GainsUpTo old acts new
  pub lacked : new.lacked ≡ old.lacked

-- a call found no memory, and gained nothing
pub record LacksMemory (old new : PlaceRecord) : Type 0 where
  pub gains : GainsUpTo old [] new
  pub lacked : new.lacked ≡ true
