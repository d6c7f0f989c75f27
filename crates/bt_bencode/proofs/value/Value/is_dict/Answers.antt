use Rattle.std.proofs.Common.{sym}
use Rattle.bt_bencode.proofs.Standing.{value_inside, stands, is_dict_stands}
use Rattle.bt_bencode.proofs.value.Value.is_dict.Goals as goal

pub bounds-self-inside-self-inside : goal.bounds-self-inside-self-inside
bounds-self-inside-self-inside c =
    let v = c.self.inside in value_inside v.room v.source.now v.start v.end c.self.invariant.read

pub returns : goal.returns
returns c =
    let v = c.self.inside in
    let there = stands v.room v.source.now v.start v.end c.self.invariant.read in
    rw (← c.self.view_is) (sym (is_dict_stands v.room v.source.now v.start _ v.end there))
