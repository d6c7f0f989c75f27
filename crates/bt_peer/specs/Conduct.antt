-- What a worker's calls keep to beside their turns: where the numbers of Next come from, and that a completed piece is checked at once.
use Rattle.std.specs.Prelude.{◌≡◌, ℕ, ◌==◌, Bool, true, false, ◌&&◌, List, [], ◌∷◌, ◌++◌, Option, Some, None, Result, Ok, Err}
use Rattle.rand_core.specs.Steps.{stream_of, steps_u32}
use Rattle.rand_core.specs.Stream.{Stream, next_u64}
use Rattle.rand_pcg.specs.Lcg.{Lcg, started, increment_of}
use Rattle.rand_pcg.specs.Pcg.{multiplier_64, pcg32}
use Rattle.bt_history.specs.declared.call.Reply.{Reply}
use Rattle.bt_history.specs.declared.event.Action.{Action}
use Rattle.bt_history.specs.declared.event.Action.TheVariants as actions
use Rattle.bt_peer.specs.declared.fault.SessionFault.{SessionFault}
use Rattle.bt_peer.specs.Turns.{arrived_piece, if_completed}

-- all that a generator in this state will answer
abbrev pub answers_of : Lcg → Stream
answers_of state = stream_of (steps_u32 pcg32) state

-- all that the generator of this number will answer, made of this seed
abbrev pub generator_of : ℕ → ℕ → Stream
generator_of seed number = answers_of (started 64 multiplier_64 seed (increment_of 64 number))

-- calls with their replies, the oldest first
abbrev pub Calls : Type 0
Calls = List (Action × Reply)

-- these are the next numbers of a generator, and the last is what it answers after them
abbrev pub Draws : Stream → List ℕ → Stream → Type 0
Draws generator [] left = left ≡ generator
Draws generator (number ∷ numbers) left = (number ≡ (next_u64 generator).0) × Draws (next_u64 generator).1 numbers left

-- the number that the call was given, if it is Next
abbrev pub given_number : Action → List ℕ
given_number (actions.Next word) = word ∷ []
given_number call = []

-- the numbers of the Next calls, in order
abbrev pub numbers_of : Calls → List ℕ
numbers_of [] = []
numbers_of (made ∷ calls) = given_number made.0 ++ numbers_of calls

-- the piece that this call completed, if it did
abbrev pub completed_by : Action × Reply → Option ℕ
completed_by made = if_completed (arrived_piece made.0) made.1

-- the call tells the check of that piece
abbrev pub checks_piece : ℕ → Action → Bool
checks_piece piece (actions.Settle checked hashed) = checked == piece
checks_piece piece call = false

-- the first of the calls checks that piece, if there is one to check
abbrev pub checks_first : Option ℕ → Calls → Bool
checks_first None calls = true
checks_first (Some piece) [] = false
checks_first (Some piece) (made ∷ calls) = checks_piece piece made.0

-- each call that completed a piece is followed by the check of that piece
abbrev pub all_checked : Calls → Bool
all_checked [] = true
all_checked (made ∷ calls) = checks_first (completed_by made) calls && all_checked calls

-- the check of this piece came behind the older calls, and nothing else
pub record SettlesAtOnce (piece : ℕ) (old new : Calls) : Type 0 where
  -- the bytes that were hashed
  pub hashed : List ℕ
  pub reply : Reply
  pub made : new ≡ old ++ (actions.Settle piece hashed, reply) ∷ []

-- The calls of a stretch: the numbers of Next are the generator's next ones, in order, and, at a place that checks its pieces itself,
-- each completed piece is checked at once.
pub record Conducts (settles : Bool) (generator : Stream) (old new : Calls) (left : Stream) : Type 0 where
  pub gained : Calls
  pub calls : new ≡ old ++ gained
  pub drawn : Draws generator (numbers_of gained) left
  pub checked : settles ≡ true → all_checked gained ≡ true

-- The calls of a stretch that a fault may have cut off: the numbers of Next are the generator's next ones, in order.
pub record DrawsNumbers (generator : Stream) (old new : Calls) : Type 0 where
  pub gained : Calls
  pub calls : new ≡ old ++ gained
  pub left : Stream
  pub drawn : Draws generator (numbers_of gained) left

-- the calls of a stretch that went on, or that a fault cut off
abbrev pub ConductsBy : {X : Type 0} → Result X SessionFault → Bool → Stream → Calls → Calls → Stream → Type 0
ConductsBy (Ok value) settles generator old new left = Conducts settles generator old new left
ConductsBy (Err fault) settles generator old new left = DrawsNumbers generator old new
