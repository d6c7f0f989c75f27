use Rattle.std.proofs.Common.{◌≡◌, ◌+◌, length}
use Rattle.std.specs.List.{All}
use Rattle.bt_check.specs.Queues.{new_ticket_pass}
use Rattle.bt_check.proofs.tickets.Tickets.passes.Given as goal

-- all passes so far, and the first, are new ones of this queue; there is room for the rest
abbrev pub invariant-loop : goal.invariant-loop
invariant-loop l =
    (length l.all.items + 1 ≡ l.counter)
    × (l.first ≡ new_ticket_pass l.self)
    × All (λ pass. pass ≡ new_ticket_pass l.self) l.all.items
