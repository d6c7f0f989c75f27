use Rattle.bt_text.proofs.info.description.Goals as goal

pub returns-clause-ok : goal.returns-clause-ok
returns-clause-ok c =
    rw c.in_ok-torrent.ensures.exact (c.in_ok-of.field-0, (c.in_ok-of.ensures, c.in_ok-text.ensures.ok))
