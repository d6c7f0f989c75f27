use Rattle.std.proofs.Common.{◌∷◌, ◌++◌, [], ap, map, ◌∙◌}
use Rattle.std.proofs.lemmas.List.{map-append, replicate-append-replicate}
use Rattle.bt_picker.proofs.stash.Stash.new.Goals as goal

pub loop-piece-preserved : goal.loop-piece-preserved
loop-piece-preserved c =
    ap (map (λ row. row.items)) c.in_ok-push.ensures.items
    ∙ (map-append (λ row. row.items) c.loop-piece.rows.items (c.new.result ∷ [])
    ∙ (ap (λ xs. map (λ row. row.items) c.loop-piece.rows.items ++ xs ∷ []) c.new.ensures.items
    ∙ (ap (λ xs. xs ++ [] ∷ []) c.loop-piece.invariant
    ∙ replicate-append-replicate c.loop-piece.piece 1 [])))
