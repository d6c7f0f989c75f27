use Rattle.std.proofs.Common.{ap, length, sym, ◌∙◌}
use Rattle.std.proofs.lemmas.List.{length-map}
use Rattle.bt_meta.specs.WireBits.{flags_of}
use Rattle.bt_tables.proofs.shows.Shows.len.Goals as goal

pub returns : goal.returns
returns c =
    let o = c.self.inside in
    c.len.ensures ∙ sym (ap length (sym c.self.view_is) ∙ length-map o.stripes (flags_of o.pieces))
