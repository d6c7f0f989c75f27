use Rattle.bt_picker.proofs.unseen.beside.Given as goal

abbrev pub ghost-these : goal.ghost-these
ghost-these g a = g.chosen
