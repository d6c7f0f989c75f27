-- What was put into a queue and taken out of it, over all its passes.
use Rattle.std.specs.Prelude.{◌≡◌, ◌==◌, ℕ, ◌+◌, List, [], ◌∷◌, ◌++◌, filter, map, slice_index_or, sum_by}
use Rattle.bt_check.specs.declared.rule.Account.{Account}
use Rattle.bt_check.specs.declared.ticket.Ticket.{Ticket}

-- the tickets put, and those taken
abbrev pub account : List Ticket → List Ticket → Account
account put taken = record { put = put; taken = taken }

-- nothing was put or taken
abbrev pub blank : Account
blank = account [] []

-- a ticket more was put
abbrev pub account_put : Account → Ticket → Account
account_put a ticket = account (a.put ++ ticket ∷ []) a.taken

-- a ticket more was taken
abbrev pub account_taken : Account → Ticket → Account
account_taken a ticket = account a.put (a.taken ++ ticket ∷ [])

-- Each ticket that was put was taken or is left, as often as it was put: whatever each ticket may weigh, those that were put weigh as much as
-- those that were taken and those that are left
abbrev pub Balanced : List Ticket → List Account → Type 0
Balanced left accounts =
    (weight : Ticket → ℕ) →
    sum_by (λ a. sum_by weight a.put) accounts ≡ sum_by (λ a. sum_by weight a.taken) accounts + sum_by weight left

-- a ticket, and the pass that put or took it
pub record Moved : Type 0 where
  pub pass : ℕ
  pub ticket : Ticket

-- the tickets of these, in their order
abbrev pub tickets : List Moved → List Ticket
tickets moved = map (λ m. m.ticket) moved

-- those of one pass
abbrev pub tickets_of : ℕ → List Moved → List Ticket
tickets_of pass moved = tickets (filter (λ m. m.pass == pass) moved)

-- First in, first out: the tickets that were put, in the order in which they came to the back, are those that were taken, in the order in
-- which they left the front, and then those that are left. Each pass put and took its own of them in its own order.
pub record IsInOrder (left : List Ticket) (accounts : List Account) : Type 0 where
  pub put : List Moved
  pub taken : List Moved
  pub put_by : (pass : ℕ) → (slice_index_or accounts pass blank).put ≡ tickets_of pass put
  pub taken_by : (pass : ℕ) → (slice_index_or accounts pass blank).taken ≡ tickets_of pass taken
  pub order : tickets put ≡ tickets taken ++ left

-- the rule of a queue of tickets
pub record IsKept (left : List Ticket) (accounts : List Account) : Type 0 where
  pub balanced : Balanced left accounts
  pub in_order : IsInOrder left accounts
