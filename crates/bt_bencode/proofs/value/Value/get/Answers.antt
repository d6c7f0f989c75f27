use Rattle.std.proofs.Common.{◌+◌, sym, arith, refl}
use Rattle.bt_bencode.proofs.Standing.{value_inside, stands, dict_stands, nothing_stands, dict_room, dict_entries}
use Rattle.bt_bencode.proofs.value.Value.get.Goals as goal

pub bounds-self-inside-self-inside : goal.bounds-self-inside-self-inside
bounds-self-inside-self-inside c =
    let v = c.self.inside in value_inside v.room v.source.now v.start v.end c.self.invariant.read

pub returns-then-self-ne100 : goal.returns-then-self-ne100
returns-then-self-ne100 c =
    let v = c.self.inside in
    let there = stands v.room v.source.now v.start v.end c.self.invariant.read in
    rw (← c.self.view_is) (sym (nothing_stands v.room v.source.now v.start _ v.end c.args.key.now c.if-self-ne100.true there))

pub overflow_sub-self-inside : goal.overflow_sub-self-inside
overflow_sub-self-inside c =
    let v = c.self.inside in
    let there = stands v.room v.source.now v.start v.end c.self.invariant.read in
    let dict = dict_stands v.room v.source.now v.start _ v.end c.if-self-ne100.false there in
    dict_room v.room v.source.now (v.start + 1) dict.0 v.end dict.1

pub find-requires : goal.find-requires
find-requires c =
    let v = c.self.inside in
    let there = stands v.room v.source.now v.start v.end c.self.invariant.read in
    let dict = dict_stands v.room v.source.now v.start _ v.end c.if-self-ne100.false there in
    let some = dict_room v.room v.source.now (v.start + 1) dict.0 v.end dict.1 in
    record {
      deep = omega (arith, c.self.invariant.deep);
      short = c.self.invariant.short;
      end = v.end;
      read = rw (dict_entries v.room v.source.now (v.start + 1) dict.0 v.end dict.1) refl;
    }

pub returns : goal.returns
returns c =
    let v = c.self.inside in
    let there = stands v.room v.source.now v.start v.end c.self.invariant.read in
    let dict = dict_stands v.room v.source.now v.start _ v.end c.if-self-ne100.false there in
    let entries = dict_entries v.room v.source.now (v.start + 1) dict.0 v.end dict.1 in
    rw (← c.self.view_is, dict.2, c.find.ensures, entries) refl
