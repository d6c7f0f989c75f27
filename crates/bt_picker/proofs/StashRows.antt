-- Rows that are lists of their own, of which one changes.
use Rattle.std.proofs.Common.{◌≡◌, ◌<◌, ℕ, List, map, length, get_or, set, ap, sym, ◌∙◌}
use Rattle.std.proofs.Math.ListN.{get_or-map}
use Rattle.std.proofs.lemmas.List.{map-set}
use Rattle.bt_picker.specs.Tables.{edit}
use Rattle.bt_picker.proofs.Tabled.{edit_set}

-- one row is changed
pub put_row : {V B : Type 0} (items : V → B) (rows : List V) (p : ℕ) (old new : V) (f : B → B) → p < length (map items rows) → old ≡ get_or rows p old
    → items new ≡ f (items old) → map items (set rows p new) ≡ edit (map items rows) p f
put_row items rows p old new f lp is changed =
    map-set items rows p new
    ∙ (ap (set (map items rows) p) changed
    ∙ edit_set (map items rows) p f (items old) lp
    (sym (get_or-map items rows p old ∙ ap items (sym is))))
