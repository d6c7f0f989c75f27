use Rattle.std.proofs.Common.{◌≡◌, ◌<◌, ◌++◌, ℕ, List, ap, sym, ◌∙◌, subst, arith}
use Rattle.std.proofs.lemmas.Grind.{common_steps}
use Rattle.bt_meta.specs.Layout.{block, block_count}
use Rattle.bt_check.specs.Checked.{joined}
use Rattle.bt_history.specs.Pieces.{content_of_block, joined_below}
use Rattle.bt_picker.proofs.Reading.{read_whole, read_differs}
use Rattle.bt_picker.proofs.filed.Filed.is_current.Goals as goal

pub returns-then-not-strip : goal.returns-then-not-strip
returns-then-not-strip c =
    let d = c.args.self.now in
    let v = c.args.verdict.now in
    let k = c.loop-index.index in
    let texts : ℕ → List ℕ = λ j. content_of_block d.history (block d.setting.torrent v.piece j) in
    let count : c.block_count-index-end.result ≡ block_count d.setting.torrent v.piece =
    c.block_count-index-end.ensures ∙ ap (block_count d.setting.torrent) c.piece.ensures in
    let lt : k < block_count d.setting.torrent v.piece = rw count at c.loop-index-test.true in
    let bytes : c.held_bytes.result.now ≡ texts k = c.held_bytes.ensures ∙
    ap (λ (p : ℕ). content_of_block d.history (block d.setting.torrent p k)) c.piece-in-loop-index.ensures in
    read_differs (joined v) (block_count d.setting.torrent v.piece) k texts c.loop-index.hashed lt c.loop-index.invariant
    (λ more same. c.strip.ensures.differs c.if-not-strip.true more (same ∙ ap (λ (xs : List ℕ). xs ++ more) (sym bytes)))

pub returns : goal.returns
returns c =
    let d = c.args.self.now in
    let v = c.args.verdict.now in
    let texts : ℕ → List ℕ = λ j. content_of_block d.history (block d.setting.torrent v.piece j) in
    let count : c.block_count-index-end.result ≡ block_count d.setting.torrent v.piece =
    c.block_count-index-end.ensures ∙ ap (block_count d.setting.torrent) c.piece.ensures in
    let all : c.loop-index.index ≡ block_count d.setting.torrent v.piece =
    omega (arith, c.loop-index.auto.index-end, c.loop-index-test.false, count) in
    read_whole (joined v) (joined_below (block_count d.setting.torrent v.piece) texts) c.loop-index.hashed c.is_done.result
    (subst (λ (n : ℕ). joined v ≡ joined_below n texts ++ c.loop-index.hashed) all c.loop-index.invariant)
    c.is_done.ensures.whole c.is_done.ensures.partly

pub loop-index-preserved : goal.loop-index-preserved
loop-index-preserved c = grind (arith, common_steps)
