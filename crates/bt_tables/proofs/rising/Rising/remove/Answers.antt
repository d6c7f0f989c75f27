use Rattle.bt_tables.proofs.Places.{gap, goes, not_there, spot}
use Rattle.bt_tables.proofs.rising.Rising.remove.Goals as goal

pub returns-in-Ok-clause-puts : goal.returns-in-Ok-clause-puts
returns-in-Ok-clause-puts c =
    let r = c.self.inside in
    let at_k = spot r.bound r.numbers.items c.deref.result.now c.args.number c.in-Ok.place c.self.invariant.0
    c.deref.ensures.value c.in-Ok.ensures.position in
    rw (← c.self.view_is, c.remove.ensures.items) (goes r.bound r.numbers.items c.args.number c.in-Ok.place c.self.invariant.0 at_k.0 at_k.1)

pub returns-in_default-clause-puts : goal.returns-in_default-clause-puts
returns-in_default-clause-puts c =
    let r = c.self.inside in
    let at_k = gap r.bound r.numbers.items c.deref.result.now c.args.number c.in_default.field-0 c.self.invariant.0
    c.deref.ensures.value c.in_default.ensures.position in
    rw (← c.self.view_is) (not_there r.numbers.items c.args.number c.in_default.field-0 at_k.1 at_k.2)
