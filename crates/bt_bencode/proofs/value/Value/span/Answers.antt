use Rattle.std.proofs.Common.{sym}
use Rattle.bt_bencode.proofs.Standing.{stands, span_stands}
use Rattle.bt_bencode.proofs.value.Value.span.Goals as goal

pub returns : goal.returns
returns c =
    let v = c.self.inside in
    rw (← c.self.view_is)
    (sym (span_stands v.room v.source.now v.start _ v.end (stands v.room v.source.now v.start v.end c.self.invariant.read)))
