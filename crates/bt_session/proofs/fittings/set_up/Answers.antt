use Rattle.std.proofs.Common.{Option, Some, sym, ap, subst, ◌∙◌}
use Rattle.atomic_table.specs.Seated.{TableId}
use Rattle.bt_check.specs.Queues.{Queue}
use Rattle.bt_session.specs.Beginnings.{IsNewPass, IsNewSeat}
use Rattle.bt_session.specs.Workers.{AreNumbered}
use Rattle.bt_session.proofs.fittings.set_up.Goals as goal

pub enlist-requires-clause-passes : goal.enlist-requires-clause-passes
enlist-requires-clause-passes g c =
    subst (λ (desk : Option TableId). AreNumbered (IsNewPass desk g.L.RunName.setting) 0 c.args.fittings.passes.items) (sym c.requires.desk)
    c.requires.fittings.passes

pub enlist-requires-clause-seats : goal.enlist-requires-clause-seats
enlist-requires-clause-seats g c =
    subst (λ (board : Option TableId). AreNumbered (IsNewSeat board) 0 c.args.fittings.seats.items) (sym c.requires.board) c.requires.fittings.seats

pub enlist-requires-clause-tickets : goal.enlist-requires-clause-tickets
enlist-requires-clause-tickets g c k d below =
    c.requires.queue ∙ ap (λ (queue : Queue). Some queue) (sym (c.requires.fittings.tickets k d below))
