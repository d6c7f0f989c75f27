use Rattle.std.proofs.Common.{◌≡◌, ◌∷◌, [], Some, None, arith, sym, ap, subst, ◌∙◌}
use Rattle.bt_picker.specs.Positions.{DeskState}
use Rattle.bt_shared.specs.Guard.{Sat, MayGive}
use Rattle.bt_shared.specs.declared.view.DeskView.{DeskView}
use Rattle.bt_shared.proofs.Keeps.{seat_may_free, has_slot, put_there}
use Rattle.bt_shared.proofs.lock.unlock_after.Goals as goal

pub exchange-requires : goal.exchange-requires
exchange-requires g c = (c.requires.desk.1, has_slot c.args.seat.now.me None [] c.requires.taken.0)

pub swap-requires : goal.swap-requires
swap-requires g c =
    let old = c.args.seat.now.me in
    let desk : DeskState = g.D.Shareable.state c.args.desk.value in
    let m : c.exchange.new.seat.me ≡ (old.0, (0, Some desk) ∷ []) =
    put_there old c.exchange.new.seat.me (Some desk) c.requires.taken.0 c.exchange.ensures.3 in
    let v : c.exchange.new.seat.me.0 ≡ old.0 = ap (λ (x : Sat). x.0) m in
    let P : DeskView → Type 0 = λ x. MayGive x desk in (
      c.exchange.ensures.0 ∙ c.requires.desk.1,
      omega (arith, c.requires.desk.0.one_word),
      seat_may_free c.args.words.now.key c.args.words.now.table_id.slots c.exchange.new.seat.id c.exchange.new.seat.me desk (ap (λ (x : Sat). x.1) m)
          (ap (λ (x : DeskView). x.spent) v ∙ c.requires.taken.1)
          (subst P (sym v) c.requires.taken.2),
    )
