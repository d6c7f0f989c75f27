use Rattle.std.proofs.Common.{◌≡◌, ◌<◌, ◌*◌, ◌∙◌, ap, arith, length, refl}
use Rattle.std.proofs.lemmas.List.{get_or_default}
use Rattle.bt_tables.specs.Rows.{counts_at, no_counts}
use Rattle.bt_tables.specs.Tables.{fresh_piece}
use Rattle.bt_tables.proofs.Rowed.{lent, row_begins, row_is, rows_length}
use Rattle.bt_tables.proofs.rows.Rows.row.Goals as goal

pub index-requires : goal.index-requires
index-requires c =
    let o = c.self.inside in
    omega (arith, c.requires, o.counts.ok.0, ap length c.self.view_is, rows_length o.width o.counts.items o.cells.items)

pub offset_bounds-deref-start : goal.offset_bounds-deref-start
offset_bounds-deref-start c =
    let o = c.self.inside in
    let lp : c.args.piece < length o.counts.items =
    omega (arith, c.requires, ap length c.self.view_is, rows_length o.width o.counts.items o.cells.items) in
    let begins = row_begins (length o.counts.items) o.width (length o.cells.items) c.args.piece c.self.invariant.filled lp in
    omega (arith, begins, c.deref.type_inv.1, ap length c.deref.ensures.value)

pub slice_bounds-new-count : goal.slice_bounds-new-count
slice_bounds-new-count c =
    let o = c.self.inside in
    let lp : c.args.piece < length o.counts.items =
    omega (arith, c.requires, ap length c.self.view_is, rows_length o.width o.counts.items o.cells.items) in
    let begins = row_begins (length o.counts.items) o.width (length o.cells.items) c.args.piece c.self.invariant.filled lp in
    omega (arith, begins, c.min-end.ensures, c.len.ensures, o.cells.ok.0)

pub slice_bounds-new-start : goal.slice_bounds-new-start
slice_bounds-new-start c =
    let o = c.self.inside in
    let lp : c.args.piece < length o.counts.items =
    omega (arith, c.requires, ap length c.self.view_is, rows_length o.width o.counts.items o.cells.items) in
    let begins = row_begins (length o.counts.items) o.width (length o.cells.items) c.args.piece c.self.invariant.filled lp in
    omega (arith, begins, c.min-end.ensures, c.len.ensures, o.cells.ok.0, ap length c.deref.ensures.value)

pub new-requires : goal.new-requires
new-requires c =
    let o = c.self.inside in
    let p = c.args.piece in
    let lp : p < length o.counts.items = omega (arith, c.requires, ap length c.self.view_is, rows_length o.width o.counts.items o.cells.items) in
    let begins = row_begins (length o.counts.items) o.width (length o.cells.items) p c.self.invariant.filled lp in
    let cells = lent o.width o.cells.items (p * o.width) c.min-end.result (omega (arith, c.min-end.ensures, c.len.ensures, o.cells.ok.0)) begins in
    let counts : c.index.result.now ≡ counts_at o.counts.items p =
    c.index.ensures ∙ get_or_default o.counts.items p c.index.result.now no_counts lp in
    rw (c.deref.ensures.value, cells, counts)
    (rw (row_is o.width o.counts.items o.cells.items p (fresh_piece 0) lp) at (c.self.invariant.each p lp))

pub returns : goal.returns
returns c =
    let o = c.self.inside in
    let p = c.args.piece in
    let lp : p < length o.counts.items = omega (arith, c.requires, ap length c.self.view_is, rows_length o.width o.counts.items o.cells.items) in
    let begins = row_begins (length o.counts.items) o.width (length o.cells.items) p c.self.invariant.filled lp in
    let cells = lent o.width o.cells.items (p * o.width) c.min-end.result (omega (arith, c.min-end.ensures, c.len.ensures, o.cells.ok.0)) begins in
    let counts : c.index.result.now ≡ counts_at o.counts.items p =
    c.index.ensures ∙ get_or_default o.counts.items p c.index.result.now no_counts lp in
    rw (← c.self.view_is, row_is o.width o.counts.items o.cells.items p (fresh_piece 0) lp)
    (c.new.ensures ∙ rw (c.deref.ensures.value, cells, counts) refl)
