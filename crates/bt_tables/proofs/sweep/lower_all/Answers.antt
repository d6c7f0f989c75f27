use Rattle.std.proofs.Common.{◌<◌, ◌≤◌, ◌∙◌, Bool, List, ap, arith, get_or, length, not, refl, sym, take}
use Rattle.std.specs.Prelude.{if◌then◌else◌}
use Rattle.std.specs.List.{filter}
use Rattle.std.proofs.lemmas.List.{take_all, take_more}
use Rattle.bt_meta.specs.declared.block.Block.{Block}
use Rattle.bt_history.specs.Peers.{has_place}
use Rattle.bt_tables.specs.Tables.{PieceState, lowered, lowered_by}
use Rattle.bt_tables.proofs.Lacked.{freed_push}
use Rattle.bt_tables.proofs.sweep.lower_all.Goals as goal

pub loop-index-init : goal.loop-index-init
loop-index-init c = (refl, c.requires)

pub lower_unless-requires : goal.lower_unless-requires
lower_unless-requires c = c.loop-index.invariant.1

pub loop-index-preserved : goal.loop-index-preserved
loop-index-preserved c =
    let line = c.args.line.now in
    let test : Block → Bool = λ b. not (has_place b line.overdue) in
    let i = c.loop-index.index in
    let none : Block = record { piece = 0; begin = 0; len = 0 } in
    let b = get_or line.asked i none in
    let lt : i < length line.asked = (let same = ap length c.blocks-block-items.ensures in omega (arith, same, c.loop-index-test.true)) in
    let freed = c.lower_unless.ensures.pieces
    ∙ (ap (λ (items : List Block). if not c.is_late_at.result then lowered (get_or items i none) c.loop-index.pieces else c.loop-index.pieces)
    c.blocks-block-items.ensures
    ∙ (ap (λ (x : Bool). if not x then lowered b c.loop-index.pieces else c.loop-index.pieces) (c.is_late_at.ensures none)
    ∙ (ap (λ (rows : List PieceState). if test b then lowered b rows else rows) c.loop-index.invariant.0
    ∙ sym (ap (λ (bs : List Block). lowered_by (filter test bs) c.args.pieces.now) (take_more line.asked i none lt)
    ∙ freed_push test (take i line.asked) b c.args.pieces.now)))) in
    (freed, c.lower_unless.ensures.floors)

pub returns-clause-pieces : goal.returns-clause-pieces
returns-clause-pieces c =
    let line = c.args.line.now in
    let test : Block → Bool = λ b. not (has_place b line.overdue) in
    let le : length line.asked ≤ c.loop-index.index =
    (let same = ap length c.blocks-block-items.ensures in omega (arith, same, c.loop-index-test.false)) in
    c.loop-index.invariant.0
    ∙ ap (λ (bs : List Block). lowered_by (filter test bs) c.args.pieces.now) (take_all c.loop-index.index line.asked le)

pub returns-clause-floors : goal.returns-clause-floors
returns-clause-floors c = c.loop-index.invariant.1
