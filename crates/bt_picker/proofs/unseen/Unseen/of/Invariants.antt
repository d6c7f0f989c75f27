use Rattle.bt_picker.proofs.unseen.Unseen.of.Given as goal

abbrev pub ghost-beside : goal.ghost-beside
ghost-beside a = a._bytes.now
