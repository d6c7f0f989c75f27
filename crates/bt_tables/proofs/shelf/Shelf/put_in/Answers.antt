use mathlib.Core.Bool.{beq}
use Rattle.std.proofs.Common.{◌≡◌, ◌==◌, ◌<◌, ◌∙◌, ℕ, List, false, length, ap, arith, not, sym}
use Rattle.bt_tables.specs.Orders.{at}
use Rattle.bt_tables.specs.declared.piece.Stage.TheVariants.{Open}
use Rattle.bt_tables.specs.Standings.{ShelfState, place_in, place_of}
use Rattle.bt_tables.proofs.Opened.{agree, open_kept, open_put}
use Rattle.bt_tables.proofs.shelf.Shelf.put_in.Goals as goal
use Rattle.bt_tables.proofs.shelf.Shelf.put_in.Goals.{then-is_open-opens, else-is_open-opens}

-- the piece has a group
within : (c : goal.After-put-2) → c.args.piece < length c.self.inside.order.group_of
within c = omega (arith, c.requires.piece, ap length (ap (λ (s : ShelfState). s.groups) c.self.view_is))

-- where the piece neither opens nor closes, its old and its new group are both open or both not
still : (c : goal.After-put-2) → not (beq c.is_open.result c.is_open-opens.result) ≡ false
    → (place_in (at c.self.inside.order.group_of c.args.piece) == place_of Open) ≡ (place_in c.args.after == place_of Open)
still c same =
    let groups = ap (λ (s : ShelfState). s.groups) c.self.view_is in
    let before : c.args.before ≡ at c.self.inside.order.group_of c.args.piece =
    c.requires.before ∙ ap (λ (gs : List ℕ). at gs c.args.piece) (sym groups) in
    ap (λ (g : ℕ). place_in g == place_of Open) (sym before)
    ∙ (sym c.is_open.ensures ∙ (agree c.is_open.result c.is_open-opens.result same ∙ c.is_open-opens.ensures))

pub invariant_of-self : goal.invariant_of-self
invariant_of-self c = elim c.if-is_open-opens.branch [
  | then-is_open-opens w ↦ rw (c.put-2.ensures, w.self-inside-is, w.put.ensures.bound) (
    c.self.invariant.0,
    open_put c.self.inside.order.group_of _ _ c.args.piece c.args.after c.self.invariant.1 (within c) _ _ c.is_open-opens.ensures
        w.put.ensures.puts,
  )
  | else-is_open-opens w ↦ rw (c.put-2.ensures, w.self-inside-is) (
    c.self.invariant.0,
    open_kept c.self.inside.order.group_of _ _ c.args.piece c.args.after c.self.invariant.1 (within c) (still c w.if-is_open-opens.false),
  )
]
