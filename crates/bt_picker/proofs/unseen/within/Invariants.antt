use Rattle.bt_picker.proofs.unseen.within.Given as goal

abbrev pub ghost-these : goal.ghost-these
ghost-these g a = g.chosen
