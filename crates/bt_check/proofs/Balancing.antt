-- Each step at a queue of tickets keeps the balance of what was put and what was taken.
use Rattle.std.proofs.Common.{◌≡◌, ℕ, zero, suc, ◌+◌, List, [], ◌∷◌, set, sym, refl, ap, arith}
use mathlib.Core.Option.{some, some-injective, some-ne-none}
use lib.ListN.{get_elem?}
use Rattle.std.specs.List.{sum_by}
use Rattle.std.proofs.lemmas.List.Sums.{sum_by-cons, sum_by_push}
use Rattle.crossbeam_channel.specs.Fifo.{Pushes, Pops, Forks}
use Rattle.bt_check.specs.declared.rule.Account.{Account}
use Rattle.bt_check.specs.declared.ticket.Ticket.{Ticket}
use Rattle.bt_check.specs.Balance.{Balanced, account_put, account_taken, blank}

-- an item put where it stands already
pub set_same : {A : Type 0} (xs : List A) (i : ℕ) (x : A) → get_elem? xs i ≡ some x → set xs i x ≡ xs
set_same [] i x at = refl
set_same (y ∷ ys) zero x at = ap (λ z. z ∷ ys) (sym (some-injective y x at))
set_same (y ∷ ys) (suc i) x at = ap (λ zs. y ∷ zs) (set_same ys i x at)

-- the sum after one item changed
sum_by-set : {A : Type 0} (f : A → ℕ) (xs : List A) (i : ℕ) (old new : A) → get_elem? xs i ≡ some old →
    sum_by f (set xs i new) + f old ≡ sum_by f xs + f new
sum_by-set f [] i old new at = absurd (some-ne-none old (sym at))
sum_by-set f (x ∷ xs) zero old new at =
    let here : f x ≡ f old = ap f (some-injective x old at) in
    omega (arith, here, sum_by-cons f x xs, sum_by-cons f new xs)
sum_by-set f (x ∷ xs) (suc i) old new at =
    omega (arith, sum_by-set f xs i old new at, sum_by-cons f x xs, sum_by-cons f x (set xs i new))

-- what was put, and what was taken, with an account, as it weighs
abbrev put_weight : (Ticket → ℕ) → Account → ℕ
put_weight weight a = sum_by weight a.put

abbrev taken_weight : (Ticket → ℕ) → Account → ℕ
taken_weight weight a = sum_by weight a.taken

-- a pass is made beside another
pub balanced_cut : (pass : ℕ) (old : Account) → Forks Balanced pass old old blank
balanced_cut pass old left accounts balanced at weight =
    let same : set accounts pass old ≡ accounts = set_same accounts pass old at in
    rw same
    (omega (arith, balanced weight, sum_by_push (put_weight weight) accounts blank, sum_by_push (taken_weight weight) accounts blank))

-- a ticket is put
pub balanced_put : (capacity pass : ℕ) (old : Account) (ticket : Ticket) →
    Pushes Balanced capacity pass old ticket (λ new. new ≡ account_put old ticket)
balanced_put capacity pass old ticket left accounts room balanced at = (
  account_put old ticket,
  (λ weight.
      let put = sum_by-set (put_weight weight) accounts pass old (account_put old ticket) at in
      let taken = sum_by-set (taken_weight weight) accounts pass old (account_put old ticket) at in
      omega (arith, balanced weight, put, taken, sum_by_push weight old.put ticket, sum_by_push weight left ticket)),
  refl,
)

-- a ticket is taken
pub balanced_taken : (pass : ℕ) (old : Account) → Pops Balanced pass old (λ ticket new. new ≡ account_taken old ticket)
balanced_taken pass old ticket left accounts balanced at = (
  account_taken old ticket,
  (λ weight.
      let put = sum_by-set (put_weight weight) accounts pass old (account_taken old ticket) at in
      let taken = sum_by-set (taken_weight weight) accounts pass old (account_taken old ticket) at in
      omega (arith, balanced weight, put, taken, sum_by_push weight old.taken ticket, sum_by-cons weight ticket left)),
  refl,
)
