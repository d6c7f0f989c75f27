use Rattle.std.proofs.Common.{◌<◌, arith, ap}
use Rattle.std.proofs.lemmas.List.Edits.{length-insert}
use Rattle.bt_tables.specs.Risings.{RisingState}
use Rattle.bt_tables.proofs.Places.{comes, few, gap, still_rises}
use Rattle.bt_tables.proofs.rising.Rising.insert.Goals as goal

pub unwrap-requires : goal.unwrap-requires
unwrap-requires c =
    let r = c.self.inside in
    let rising = c.self.invariant.0 in
    let at_k = gap r.bound r.numbers.items c.deref.result.now c.args.number c.in-Err.place rising c.deref.ensures.value c.in-Err.ensures.position in
    let lp : c.args.number < r.bound = omega (arith, c.requires, ap (λ (s : RisingState). s.bound) c.self.view_is) in
    let all = few r.bound _ (still_rises r.bound r.numbers.items c.args.number c.in-Err.place at_k.0 rising lp at_k.1 at_k.2) in
    c.insert.ensures.succeeds (omega (arith, all, length-insert r.numbers.items c.in-Err.place c.args.number at_k.0, c.self.invariant.1))

pub invariant_of-self : goal.invariant_of-self
invariant_of-self c =
    let r = c.self.inside in
    let rising = c.self.invariant.0 in
    let at_k = gap r.bound r.numbers.items c.deref.result.now c.args.number c.in-Err.place rising c.deref.ensures.value c.in-Err.ensures.position in
    let lp : c.args.number < r.bound = omega (arith, c.requires, ap (λ (s : RisingState). s.bound) c.self.view_is) in (
      rw (c.insert.ensures.items, c.unwrap.ensures) (still_rises r.bound r.numbers.items c.args.number c.in-Err.place at_k.0 rising lp at_k.1 at_k.2),
      omega (arith, c.insert.ensures.capacity, c.self.invariant.1),
    )

pub returns-in-Err-clause-puts : goal.returns-in-Err-clause-puts
returns-in-Err-clause-puts c =
    let r = c.self.inside in
    let at_k = gap r.bound r.numbers.items c.deref.result.now c.args.number c.in-Err.place c.self.invariant.0
    c.deref.ensures.value c.in-Err.ensures.position in
    rw (← c.self.view_is, c.insert.ensures.items, c.unwrap.ensures) (comes r.bound r.numbers.items c.args.number c.in-Err.place at_k.0)
