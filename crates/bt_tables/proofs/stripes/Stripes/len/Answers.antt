use Rattle.std.proofs.Common.{ap, length, sym, ◌∙◌}
use Rattle.bt_tables.proofs.Striped.{length_striped}
use Rattle.bt_tables.proofs.stripes.Stripes.len.Goals as goal

pub returns : goal.returns
returns c =
    let o = c.self.inside in
    sym (ap length (sym c.self.view_is) ∙ length_striped o.rows o.width o.bytes.items)
