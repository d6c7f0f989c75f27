use Rattle.bt_c.proofs.exports.pieces.piecepick_resume.Given as goal

abbrev pub ghost-these : goal.ghost-these
ghost-these g a = g.bytes
