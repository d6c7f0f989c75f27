use Rattle.std.proofs.Common.{◌≡◌, ◌<◌, ◌∙◌, ap, List, ℕ, map, arith}
use Rattle.std.proofs.lemmas.List.{length-map}
use Rattle.bt_meta.specs.Layout.{piece_count}
use Rattle.bt_tables.specs.Orders.{at}
use Rattle.bt_tables.specs.Standings.{group_of_row}
use Rattle.bt_tables.proofs.Tabled.{map_table}
use Rattle.bt_picker.proofs.Stages.{group_at}
use Rattle.bt_picker.proofs.position.Position.has_none.Goals as goal

pub returns-clause-none : goal.returns-clause-none
returns-clause-none c =
    let t = c.self.inside.tables.now in
    let rows : map group_of_row t.pieces ≡ _ = ap (map group_of_row) c.self.invariant.pieces_are ∙ map_table group_of_row _ _ in
    rw (← c.self.view_is) (λ is p lp low.
    let group = ap (λ (groups : List ℕ). at groups p) rows ∙ group_at t.setting c.self.inside.past.now.entries p lp in
    let long = length-map t.pieces group_of_row in
    let high = c.has_none.ensures.none is p (omega (arith, lp, long, c.self.invariant.pieces_len)) (omega (arith, low, group)) in
    omega (arith, high, group))

pub returns-clause-some : goal.returns-clause-some
returns-clause-some c =
    let t = c.self.inside.tables.now in
    let rows : map group_of_row t.pieces ≡ _ = ap (map group_of_row) c.self.invariant.pieces_are ∙ map_table group_of_row _ _ in
    rw (← c.self.view_is) (λ is.
    let found = c.has_none.ensures.some is in
    let long = length-map t.pieces group_of_row in
    let lp : found.0 < piece_count t.setting.torrent = omega (arith, found.1, long, c.self.invariant.pieces_len) in
    let group = ap (λ (groups : List ℕ). at groups found.0) rows ∙ group_at t.setting c.self.inside.past.now.entries found.0 lp in
    (found.0, lp, omega (arith, found.2, group), omega (arith, found.3, group)))
