use Rattle.bt_picker_tests.proofs.tests.parts.board.closed.Goals as goal

-- what is closed once more is what was
pub close-requires-in-Err-clause-all : goal.close-requires-in-Err-clause-all
close-requires-in-Err-clause-all c = rw (c.in-Err.ensures.err.0, c.in-Err.ensures.err.1) c.requires.all
