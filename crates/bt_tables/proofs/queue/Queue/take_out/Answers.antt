use Rattle.std.proofs.Common.{◌≡◌, ◌+◌, ◌∙◌, ℕ, List, [], ◌∷◌, ap, arith, drop, refl, suc, zero}
use Rattle.std.specs.List.{remove}
use Rattle.bt_tables.proofs.queue.Queue.take_out.Goals as goal

-- what stands behind a place, once one of it is taken out
drop_remove : {A : Type 0} (n i m : ℕ) (l : List A) → m ≡ n + i → drop n (remove l m) ≡ remove (drop n l) i
drop_remove zero i m l e = ap (remove l) (omega (arith, e))
drop_remove (suc n) i zero l e = absurd (omega (arith, e))
drop_remove (suc n) zero (suc m) [] e = refl
drop_remove (suc n) (suc i) (suc m) [] e = refl
drop_remove (suc n) i (suc m) (x ∷ l) e = drop_remove n i m l (omega (arith, e))

pub returns-clause-items : goal.returns-clause-items
returns-clause-items c =
    let o = c.self.inside in
    rw (← c.self.view_is) (λ i. record {
      room = o.room;
      items = (ap (drop o.gone) c.remove.ensures.items ∙ drop_remove o.gone c.args.index (o.gone + c.args.index) o.all.items refl) i;
    })
