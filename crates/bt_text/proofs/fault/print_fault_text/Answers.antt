use Rattle.bt_text.proofs.fault.print_fault_text.Goals as goal

pub returns-in-Gather-clause-ok : goal.returns-in-Gather-clause-ok
returns-in-Gather-clause-ok g c =
    let said = rw (c.from-in-Gather.ensures, c.gather_fault_number.ensures) at c.print_numbered-in-Gather.ensures.ok in
    rw c.in-Gather.is said
