use Rattle.bt_picker.proofs.Contents.{on_err}
use Rattle.bt_peer.proofs.Ran.{ran_failing, ran_out, ran_reads, ran_short, ran_whole}
use Rattle.bt_peer.proofs.whole.session.Goals as goal

pub returns-clause-whole : goal.returns-clause-whole
returns-clause-whole g c = ran_whole _ _ _ _ _ _ _ _ c.gated.ensures.runs

pub returns-clause-ended : goal.returns-clause-ended
returns-clause-ended g c = ran_out _ _ _ _ _ _ _ _ c.gated.ensures.runs

pub returns-clause-numbers : goal.returns-clause-numbers
returns-clause-numbers g c = on_err _ _ c.gated.ensures.runs.numbers

pub returns-clause-cut_short : goal.returns-clause-cut_short
returns-clause-cut_short g c = ran_short _ _ _ _ _ _ _ _ c.gated.ensures.runs

pub returns-clause-failed : goal.returns-clause-failed
returns-clause-failed g c = ran_failing _ _ _ _ _ _ _ _ c.gated.ensures.runs

pub returns-clause-most : goal.returns-clause-most
returns-clause-most g c = ran_reads _ _ _ _ _ _ _ _ c.gated.ensures.runs
