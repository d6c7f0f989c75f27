use Rattle.bt_text.proofs.Written.{more}
use Rattle.bt_cli.proofs.report.print_judged.Goals as goal

pub returns-in_ok-print_numbered-in-Wrong-clause-ok : goal.returns-in_ok-print_numbered-in-Wrong-clause-ok
returns-in_ok-print_numbered-in-Wrong-clause-ok g c =
    rw c.in-Wrong.is (more _ _ _ _ _ _ c.in_ok-print_numbered-in-Wrong.ensures.ok c.print-in-Wrong.ensures.ok)
