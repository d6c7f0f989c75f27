use Rattle.bt_c.proofs.exports.peers.piecepick_received.Given as goal

abbrev pub ghost-these : goal.ghost-these
ghost-these g a = g.bytes
