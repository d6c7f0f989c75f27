-- Each step at a queue of tickets keeps their order.
use Rattle.std.proofs.Common.{◌≡◌, ◌≢◌, ◌==◌, ℕ, zero, suc, Bool, true, false, List, [], ◌∷◌, ◌++◌, filter, set, sym, refl, ap, subst, ◌∙◌}
use Rattle.std.proofs.Common.{append_assoc, eqb-true, get_or}
use Rattle.std.specs.Prelude.{if◌then◌else◌}
use mathlib.Core.Option.{some, some-injective, some-ne-none}
use lib.ListN.{get_elem?}
use Rattle.std.proofs.lemmas.Bool.{eq-eqb}
use Rattle.std.proofs.lemmas.List.{append-nil, get_or-set_other, map-append}
use Rattle.std.proofs.lemmas.List.Elements.{filter-append}
use Rattle.crossbeam_channel.specs.Fifo.{Forks, Pops, Pushes}
use Rattle.bt_check.proofs.Balancing.{balanced_cut, balanced_put, balanced_taken, set_same}
use Rattle.bt_check.specs.Balance.{Balanced, IsKept, Moved, account_put, account_taken, blank, tickets, tickets_of}
use Rattle.bt_check.specs.declared.rule.Account.{Account}
use Rattle.bt_check.specs.declared.ticket.Ticket.{Ticket}

-- what stands at a place, and what was put there
found_at : {A : Type 0} (xs : List A) (i : ℕ) (x d : A) → get_elem? xs i ≡ some x → get_or xs i d ≡ x
found_at [] i x d at = absurd (some-ne-none x (sym at))
found_at (y ∷ ys) zero x d at = some-injective y x at
found_at (y ∷ ys) (suc i) x d at = found_at ys i x d at

put_at : {A : Type 0} (xs : List A) (i : ℕ) (x new d : A) → get_elem? xs i ≡ some x → get_or (set xs i new) i d ≡ new
put_at [] i x new d at = absurd (some-ne-none x (sym at))
put_at (y ∷ ys) zero x new d at = refl
put_at (y ∷ ys) (suc i) x new d at = put_at ys i x new d at

-- one more blank account changes none
blank_more : (accounts : List Account) (i : ℕ) → get_or (accounts ++ blank ∷ []) i blank ≡ get_or accounts i blank
blank_more [] zero = refl
blank_more [] (suc i) = refl
blank_more (a ∷ accounts) zero = refl
blank_more (a ∷ accounts) (suc i) = blank_more accounts i

-- the tickets of a pass once one more was moved, by it or by another
one_more : (same : Bool) (moved : List Moved) (m : Moved) (pass : ℕ) → (m.pass == pass) ≡ same →
    tickets_of pass (moved ++ m ∷ []) ≡ (if same then tickets_of pass moved ++ m.ticket ∷ [] else tickets_of pass moved)
one_more same moved m pass is =
    ap tickets (filter-append (λ n. n.pass == pass) moved (m ∷ []))
    ∙ map-append (λ n. n.ticket) (filter (λ n. n.pass == pass) moved) (filter (λ n. n.pass == pass) (m ∷ []))
    ∙ tail same is where
      tail : (same : Bool) → (m.pass == pass) ≡ same → tickets_of pass moved ++ tickets (filter (λ n. n.pass == pass) (m ∷ []))
          ≡ (if same then tickets_of pass moved ++ m.ticket ∷ [] else tickets_of pass moved)
      tail true is = ap (λ (b : Bool). tickets_of pass moved ++ tickets (if b then m ∷ [] else [])) is
      tail false is = ap (λ (b : Bool). tickets_of pass moved ++ tickets (if b then m ∷ [] else [])) is ∙ append-nil (tickets_of pass moved)

tickets_more : (moved : List Moved) (m : Moved) → tickets (moved ++ m ∷ []) ≡ tickets moved ++ m.ticket ∷ []
tickets_more moved m = map-append (λ n. n.ticket) moved (m ∷ [])

-- one side of an account (what was put, or what was taken), once a pass's own grew by a ticket
module _ (side : Account → List Ticket) (accounts : List Account) (moved : List Moved) (pass : ℕ) (old new : Account) (ticket : Ticket)
    (each : (i : ℕ) → side (get_or accounts i blank) ≡ tickets_of i moved) (at : get_elem? accounts pass ≡ some old) where
  grown : side new ≡ side old ++ ticket ∷ [] → (i : ℕ) →
      side (get_or (set accounts pass new) i blank) ≡ tickets_of i (moved ++ record { pass = pass; ticket = ticket } ∷ [])
  grown more i = by_pass (pass == i) refl where
    m : Moved
    m = record { pass = pass; ticket = ticket }

    by_pass : (same : Bool) → (pass == i) ≡ same →
        side (get_or (set accounts pass new) i blank) ≡ tickets_of i (moved ++ record { pass = pass; ticket = ticket } ∷ [])
    by_pass true is =
        let here : pass ≡ i = eqb-true pass i is in
        subst (λ (j : ℕ). side (get_or (set accounts pass new) j blank) ≡ tickets_of j (moved ++ record { pass = pass; ticket = ticket } ∷ [])) here
        (ap side (put_at accounts pass old new blank at) ∙ more
        ∙ ap (λ (a : Account). side a ++ ticket ∷ []) (sym (found_at accounts pass old blank at))
        ∙ ap (λ (ts : List Ticket). ts ++ ticket ∷ []) (each pass)
        ∙ sym (one_more true moved (record { pass = pass; ticket = ticket }) pass (eq-eqb pass pass refl)))
    by_pass false is =
        let apart : i ≢ pass = λ same. absurd (let e = eq-eqb pass i (sym same) in cc (e, is)) in
        ap side (get_or-set_other accounts pass i new blank apart) ∙ each i
        ∙ sym (one_more false moved (record { pass = pass; ticket = ticket }) i is)

  -- or stayed
  stayed : side new ≡ side old → (i : ℕ) → side (get_or (set accounts pass new) i blank) ≡ tickets_of i moved
  stayed same i = by_pass (i == pass) refl where
    by_pass : (here : Bool) → (i == pass) ≡ here → side (get_or (set accounts pass new) i blank) ≡ tickets_of i moved
    by_pass true is =
        let at_pass : pass ≡ i = sym (eqb-true i pass is) in
        subst (λ (j : ℕ). side (get_or (set accounts pass new) j blank) ≡ tickets_of j moved) at_pass
        (ap side (put_at accounts pass old new blank at) ∙ same ∙ ap side (sym (found_at accounts pass old blank at)) ∙ each pass)
    by_pass false is =
        let apart : i ≢ pass = λ same. absurd (let e = eq-eqb i pass same in cc (e, is)) in
        ap side (get_or-set_other accounts pass i new blank apart) ∙ each i

-- at first
pub kept_first : IsKept [] (blank ∷ [])
kept_first = record {
  balanced = λ weight. refl;
  in_order = record { put = []; taken = []; put_by = none_put; taken_by = none_taken; order = refl };
} where
  none_put : (i : ℕ) → (get_or (blank ∷ []) i blank).put ≡ []
  none_put zero = refl
  none_put (suc i) = refl

  none_taken : (i : ℕ) → (get_or (blank ∷ []) i blank).taken ≡ []
  none_taken zero = refl
  none_taken (suc i) = refl

-- a pass is made beside another
pub kept_cut : (pass : ℕ) (old : Account) → Forks IsKept pass old old blank
kept_cut pass old left accounts kept at =
    let same : set accounts pass old ≡ accounts = set_same accounts pass old at in
    record {
      balanced = balanced_cut pass old left accounts kept.balanced at;
      in_order = record {
        put = kept.in_order.put;
        taken = kept.in_order.taken;
        put_by = λ i. ap (λ (xs : List Account). (get_or (xs ++ blank ∷ []) i blank).put) same
            ∙ ap (λ (a : Account). a.put) (blank_more accounts i) ∙ kept.in_order.put_by i;
        taken_by = λ i. ap (λ (xs : List Account). (get_or (xs ++ blank ∷ []) i blank).taken) same
            ∙ ap (λ (a : Account). a.taken) (blank_more accounts i) ∙ kept.in_order.taken_by i;
        order = kept.in_order.order;
      };
    }

-- a ticket is put, at the back
pub kept_put : (capacity pass : ℕ) (old : Account) (ticket : Ticket) →
    Pushes IsKept capacity pass old ticket (λ new. new ≡ account_put old ticket)
kept_put capacity pass old ticket left accounts room kept at =
    let new = account_put old ticket in
    let was = kept.in_order in
    let m : Moved = record { pass = pass; ticket = ticket } in
    let balanced = balanced_put capacity pass old ticket left accounts room kept.balanced at in (
      new,
      record {
        balanced = subst (λ (a : Account). Balanced (left ++ ticket ∷ []) (set accounts pass a)) balanced.2 balanced.1;
        in_order = record {
          put = was.put ++ m ∷ [];
          taken = was.taken;
          put_by = grown (λ a. a.put) accounts was.put pass old new ticket was.put_by at refl;
          taken_by = stayed (λ a. a.taken) accounts was.taken pass old new ticket was.taken_by at refl;
          order = tickets_more was.put m ∙ ap (λ (ts : List Ticket). ts ++ ticket ∷ []) was.order
              ∙ append_assoc (tickets was.taken) left (ticket ∷ []);
        };
      },
      refl,
    )

-- a ticket is taken, from the front
pub kept_taken : (pass : ℕ) (old : Account) → Pops IsKept pass old (λ ticket new. new ≡ account_taken old ticket)
kept_taken pass old ticket left accounts kept at =
    let new = account_taken old ticket in
    let was = kept.in_order in
    let m : Moved = record { pass = pass; ticket = ticket } in
    let balanced = balanced_taken pass old ticket left accounts kept.balanced at in (
      new,
      record {
        balanced = subst (λ (a : Account). Balanced left (set accounts pass a)) balanced.2 balanced.1;
        in_order = record {
          put = was.put;
          taken = was.taken ++ m ∷ [];
          put_by = stayed (λ a. a.put) accounts was.put pass old new ticket was.put_by at refl;
          taken_by = grown (λ a. a.taken) accounts was.taken pass old new ticket was.taken_by at refl;
          order = was.order
              ∙ sym (append_assoc (tickets was.taken) (ticket ∷ []) left)
              ∙ ap (λ (ts : List Ticket). ts ++ left) (sym (tickets_more was.taken m));
        };
      },
      refl,
    )
