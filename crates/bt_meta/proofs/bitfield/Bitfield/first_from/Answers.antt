use Rattle.std.proofs.Common.{arith, None, Some}
use Rattle.std.proofs.lemmas.List.{get_or_past}
use Rattle.bt_meta.proofs.Payloads.{counted}
use Rattle.bt_meta.proofs.Searched.{first_flag}
use Rattle.bt_meta.proofs.bitfield.Bitfield.first_from.Goals as goal

pub returns-then-piece-self : goal.returns-then-piece-self
returns-then-piece-self c p after =
    let few = counted c.self.inside.count c.self.inside.bytes.items c.args.self.now c.self.view_is in
    get_or_past c.args.self.now p _ (omega (arith, few, c.if-piece-self.true))

pub returns-in-Some : goal.returns-in-Some
returns-in-Some c =
    first_flag c.self.inside.count c.self.inside.bytes.items c.args.self.now c.self.view_is c.self.invariant c.args.piece (Some c.in-Some.place)
    (rw c.deref.ensures.value at c.in-Some.ensures)

pub returns-in-None : goal.returns-in-None
returns-in-None c =
    first_flag c.self.inside.count c.self.inside.bytes.items c.args.self.now c.self.view_is c.self.invariant c.args.piece None
    (rw c.deref.ensures.value at c.in-None.ensures)
