use Rattle.std.proofs.Common.{ap, length, sym, ◌∙◌, arith, List, ℕ}
use Rattle.bt_tables.specs.Stripes.{stripe}
use Rattle.bt_tables.proofs.Striped.{length_striped, length_stripe}
use Rattle.bt_tables.proofs.stripes.Stripes.width.Goals as goal

pub returns : goal.returns
returns c row lr =
    let o = c.self.inside in
    ap (λ (rows : List (List ℕ)). length (stripe rows row)) (sym c.self.view_is)
    ∙ length_stripe o.rows o.width row o.bytes.items (omega (arith, lr, ap length c.self.view_is, length_striped o.rows o.width o.bytes.items))
