use Rattle.std.proofs.Common.{ap, arith}
use Rattle.std.proofs.lemmas.Option.{get_or_from_slice_get}
use Rattle.bt_shared.specs.declared.picker_pass.PickerPass.{PickerPass}
use Rattle.bench.proofs.threads.picking.open.Goals as goal

-- each pass is a newcomer's
pub returns-2 : goal.returns-2
returns-2 c k d below =
    let opened = c.in_ok-open.ensures in
    let count = opened.count in
    ap (λ (p : PickerPass). p.table) (get_or_from_slice_get _ k _ d (opened.passes k (omega (arith, below, count))))
