use Rattle.std.proofs.Common.{ap, arith, length, refl}
use Rattle.bt_tables.proofs.Rowed.{counts_edited, is_row, kept_on, rows_counted, rows_length}
use Rattle.bt_tables.proofs.rows.Rows.put_had.Goals as goal

pub index_mut-requires : goal.index_mut-requires
index_mut-requires c =
    let o = c.self.inside in
    omega (arith, c.requires, o.counts.ok.0, ap length c.self.view_is, rows_length o.width o.counts.items o.cells.items)

pub invariant_of-self : goal.invariant_of-self
invariant_of-self c =
    let o = c.self.inside in
    let p = c.args.piece in
    let row = is_row o.width o.counts.items o.cells.items _ p c.index_mut.result.now c.self.invariant c.self.view_is c.requires
    c.index_mut.ensures.value in
    let now = record c.index_mut.result.now { had = c.args.had } in
    kept_on o.width o.counts.items o.cells.items o.cells.items p now _ c.self.invariant row.within refl
    (rows_counted o.width o.counts.items o.cells.items p now row.within)
    (record { are = row.keeps.are; passed = row.keeps.passed })

pub returns : goal.returns
returns c =
    let o = c.self.inside in
    let p = c.args.piece in
    let row = is_row o.width o.counts.items o.cells.items _ p c.index_mut.result.now c.self.invariant c.self.view_is c.requires
    c.index_mut.ensures.value in
    let now = record c.index_mut.result.now { had = c.args.had } in
    rw (← c.self.view_is) (counts_edited o.width o.counts.items o.cells.items p _ now (λ row. record row { had = c.args.had }) row refl)
