-- Blocks in the order in which they were put. No public clause of the picker cites this module.
use Rattle.std.specs.Prelude.{ℕ, ◌≤◌, ◌<◌, ◌+◌, List, length}
use Rattle.bt_meta.specs.declared.block.Block.{Block}
use Rattle.bt_tables.specs.declared.queue.TheConstants.{SLACK}

-- what contracts see of a queue: for so many blocks it has room, and these are in it
pub record QueueState : Type 0 where
  pub room : ℕ
  pub items : List Block

-- of these blocks so many have gone, fewer than the slack, and with them there is room for all
pub record IsQueue (room capacity gone : ℕ) (all : List Block) : Type 0 where
  pub few : gone < SLACK
  pub there : gone ≤ length all
  pub holds : room + SLACK ≤ capacity
