use Rattle.std.proofs.Common.{arith, sym, subst, ◌∙◌}
use Rattle.atomic_table.specs.Table.{step}
use mathlib.Core.Option.{none}
use Rattle.bt_shared.specs.Guard.{MayTake}
use Rattle.bt_shared.proofs.Keeps.{seat_may_take}
use Rattle.bt_shared.proofs.lock.lock.Goals as goal

pub swap-requires : goal.swap-requires
swap-requires g c =
    let slots = c.args.words.now.table_id.slots in (
      c.loop.invariant.table ∙ c.requires.desk.1,
      omega (arith, c.requires.desk.0.one_word),
      seat_may_take c.args.words.now.key slots c.loop.seat.id c.loop.seat.me (subst MayTake (sym c.loop.invariant.me) c.requires.may) (λ _. 2)
          (λ _ e. absurd (omega (arith, e))) (step slots 0 2 0 none),
    )
