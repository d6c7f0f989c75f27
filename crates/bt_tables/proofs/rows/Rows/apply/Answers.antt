use Rattle.std.proofs.Common.{◌≡◌, ◌<◌, ◌∙◌, ℕ, List, ap, arith, length}
use Rattle.bt_tables.specs.Tables.{PieceState, edit}
use Rattle.bt_tables.proofs.Tabled.{length_edit}
use Rattle.bt_tables.proofs.rows.Rows.apply.Goals as goal
use Rattle.bt_tables.proofs.rows.Rows.apply.Goals.{in-Lower, in-Pass, in-Fail, in-Level, in-Lose, in-Discard}

-- an edit leaves each place
still_there : (rows : List PieceState) (p : ℕ) → p < length rows → (f : PieceState → PieceState) (now : List PieceState) → now ≡ edit rows p f
    → p < length now
still_there rows p lp f now is = omega (arith, lp, ap length is, length_edit rows p f)

pub counts-requires : goal.counts-requires
counts-requires c =
    let there = still_there c.args.self.now c.args.piece c.requires.piece in
    elim c.match-change.branch [
      | in-Lower w ↦ there _ _ (w.self-is ∙ w.lower.ensures)
      | in-Pass w ↦ there _ _ (w.self-is ∙ w.put_had.ensures)
      | in-Fail w ↦ there _ _ (w.self-is ∙ w.fail.ensures)
      | in-Level w ↦ there _ _ (w.self-is ∙ w.put_level.ensures)
      | in-Lose w ↦ there _ _ (w.self-is ∙ w.lose.ensures)
      | in-Discard w ↦ there _ _ (w.self-is ∙ w.discard.ensures)
    ]
