use Rattle.std.proofs.Common.{◌≡◌, ◌∙◌, ℕ, [], ap, replicate, subst, sym}
use Rattle.bt_meta.specs.Layout.{Layout, piece_count}
use Rattle.bt_picker.specs.Stashes.{IsStash}
use Rattle.bt_picker.proofs.Stashing.{stash_empty}
use Rattle.bt_picker.proofs.keeper.Keeper.new.Goals as goal

pub invariant_of-result : goal.invariant_of-result
invariant_of-result c =
    let d = c.in_ok-picker.picker in
    let count : c.piece_count.result ≡ piece_count d.setting.torrent =
    c.piece_count.ensures.count ∙ ap (λ (t : Layout). piece_count t) c.torrent.ensures in
    rw (c.in_ok-picker.ensures.history, c.in_ok-stash.ensures)
    (subst (λ (n : ℕ). IsStash d.setting [] (replicate n [])) (sym count) (stash_empty d.setting))
