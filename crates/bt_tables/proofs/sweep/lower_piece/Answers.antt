use Rattle.std.proofs.Common.{◌<◌, ◌≤◌, ◌==◌, ◌&&◌, ◌∙◌, Bool, List, ap, arith, get_or, length, not, refl, sym, take}
use Rattle.std.specs.Prelude.{if◌then◌else◌}
use Rattle.std.specs.List.{filter}
use Rattle.std.proofs.lemmas.List.{take_all, take_more}
use Rattle.bt_meta.specs.declared.block.Block.{Block}
use Rattle.bt_history.specs.Peers.{has_place}
use Rattle.bt_tables.specs.Tables.{PieceState, lowered, lowered_by}
use Rattle.bt_tables.proofs.Lacked.{freed_push}
use Rattle.bt_tables.proofs.sweep.lower_piece.Goals as goal

pub loop-index-init : goal.loop-index-init
loop-index-init c = refl

pub loop-index-preserved : goal.loop-index-preserved
loop-index-preserved c =
    let line = c.args.line.now in
    let test : Block → Bool = λ b. (c.args.piece == b.piece) && not (has_place b line.overdue) in
    let i = c.loop-index.index in
    let none : Block = record { piece = 0; begin = 0; len = 0 } in
    let b = get_or line.asked i none in
    let lt : i < length line.asked = (let same = ap length c.blocks-block-items.ensures in omega (arith, same, c.loop-index-test.true)) in
    c.lower_if.ensures
    ∙ (ap (λ (items : List Block). if c.is_prompt_of.result then lowered (get_or items i none) c.loop-index.pieces else c.loop-index.pieces)
    c.blocks-block-items.ensures
    ∙ (ap (λ (x : Bool). if x then lowered b c.loop-index.pieces else c.loop-index.pieces) (c.is_prompt_of.ensures none)
    ∙ (ap (λ (rows : List PieceState). if test b then lowered b rows else rows) c.loop-index.invariant
    ∙ sym (ap (λ (bs : List Block). lowered_by (filter test bs) c.args.pieces.now) (take_more line.asked i none lt)
    ∙ freed_push test (take i line.asked) b c.args.pieces.now))))

pub returns : goal.returns
returns c =
    let line = c.args.line.now in
    let test : Block → Bool = λ b. (c.args.piece == b.piece) && not (has_place b line.overdue) in
    let le : length line.asked ≤ c.loop-index.index =
    (let same = ap length c.blocks-block-items.ensures in omega (arith, same, c.loop-index-test.false)) in
    c.loop-index.invariant
    ∙ ap (λ (bs : List Block). lowered_by (filter test bs) c.args.pieces.now) (take_all c.loop-index.index line.asked le)
