-- Which queue of tickets a pass is of, and what was put and taken with it.
use Rattle.std.specs.Prelude.{List, [], ◌∷◌, ◌++◌}
use Rattle.atomic_table.specs.Seated.{TableId}
use Rattle.atomic_table.specs.declared.badge.Badge.{Badge}
use Rattle.crossbeam_channel.specs.Claims.{Pass, view}
use Rattle.crossbeam_channel.specs.declared.flavors.array.Doing.{Doing}
use Rattle.crossbeam_channel.specs.declared.flavors.array.Key.{Key}
use Rattle.crossbeam_channel.specs.declared.flavors.array.Rows.{Rows}
use Rattle.bt_check.specs.declared.rule.Account.{Account}
use Rattle.bt_check.specs.declared.ticket.Ticket.{Ticket}

-- what tells one queue from another: the names of its two tables in the channel
pub record Queue : Type 0 where
  pub table : TableId
  pub key : Badge (Key Ticket)

-- the queue of a channel
abbrev pub queue_of : {Q M L A : Type 0} → Rows (Badge (Key Ticket)) (Doing Ticket Account) Q M (Key Ticket) L A → Queue
queue_of c = record { table = c.stamps.shared.table_id; key = c.stamps.shared.key }

-- a pass: its queue, and the tickets that were put and taken with it, the oldest first
pub record TicketPassState : Type 0 where
  pub queue : Queue
  pub put : List Ticket
  pub taken : List Ticket

-- what contracts see of a pass, by its token
abbrev pub state_of : Pass Ticket Account → TicketPassState
state_of p = record { queue = record { table = p.table_id; key = p.me.0.of }; put = (view p).put; taken = (view p).taken }

-- a pass with which nothing was put or taken
abbrev pub new_ticket_pass : Queue → TicketPassState
new_ticket_pass queue = record { queue = queue; put = []; taken = [] }

-- a ticket more was put
abbrev pub with_put : TicketPassState → Ticket → TicketPassState
with_put p ticket = record { queue = p.queue; put = p.put ++ ticket ∷ []; taken = p.taken }

-- a ticket more was taken
abbrev pub with_taken : TicketPassState → Ticket → TicketPassState
with_taken p ticket = record { queue = p.queue; put = p.put; taken = p.taken ++ ticket ∷ [] }
