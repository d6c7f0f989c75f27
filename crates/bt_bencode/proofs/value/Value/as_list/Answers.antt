use Rattle.std.proofs.Common.{◌-◌, ◌+◌, sym, arith, length, refl}
use Rattle.bt_bencode.proofs.Standing.{value_inside, stands, list_stands, no_list_stands, list_room, list_items}
use Rattle.bt_bencode.proofs.Left.{few_terms}
use Rattle.bt_bencode.proofs.value.Value.as_list.Goals as goal

pub bounds-self-inside-self-inside : goal.bounds-self-inside-self-inside
bounds-self-inside-self-inside c =
    let v = c.self.inside in value_inside v.room v.source.now v.start v.end c.self.invariant.read

pub returns-then-self-ne108-clause-list : goal.returns-then-self-ne108-clause-list
returns-then-self-ne108-clause-list c =
    let v = c.self.inside in
    let there = stands v.room v.source.now v.start v.end c.self.invariant.read in
    rw (← c.self.view_is) (sym (no_list_stands v.room v.source.now v.start _ v.end c.if-self-ne108.true there))

pub overflow_sub-result : goal.overflow_sub-result
overflow_sub-result c =
    let v = c.self.inside in
    let there = stands v.room v.source.now v.start v.end c.self.invariant.read in
    let list = list_stands v.room v.source.now v.start _ v.end c.if-self-ne108.false there in
    list_room v.room v.source.now (v.start + 1) list.0 v.end list.1

pub invariant_of-result : goal.invariant_of-result
invariant_of-result c =
    let v = c.self.inside in
    let there = stands v.room v.source.now v.start v.end c.self.invariant.read in
    let list = list_stands v.room v.source.now v.start _ v.end c.if-self-ne108.false there in
    let some = list_room v.room v.source.now (v.start + 1) list.0 v.end list.1 in
    record {
      deep = omega (arith, c.self.invariant.deep);
      short = c.self.invariant.short;
      end = v.end;
      read = rw (list_items v.room v.source.now (v.start + 1) list.0 v.end list.1) refl;
    }

pub returns-clause-list : goal.returns-clause-list
returns-clause-list c =
    let v = c.self.inside in
    let there = stands v.room v.source.now v.start v.end c.self.invariant.read in
    let list = list_stands v.room v.source.now v.start _ v.end c.if-self-ne108.false there in
    rw (← c.self.view_is, list.2, list_items v.room v.source.now (v.start + 1) list.0 v.end list.1) refl

pub returns-clause-few : goal.returns-clause-few
returns-clause-few c =
    let v = c.self.inside in
    let there = stands v.room v.source.now v.start v.end c.self.invariant.read in
    let list = list_stands v.room v.source.now v.start _ v.end c.if-self-ne108.false there in
    let items = list_items v.room v.source.now (v.start + 1) list.0 v.end list.1 in
    rw items (few_terms (v.room - 1) v.source.now (length v.source.now) (v.start + 1) list.0 v.end c.self.invariant.short items)
