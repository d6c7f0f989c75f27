use Rattle.std.proofs.Common.{rules}
use Rattle.bt_history.specs.Legal.{IsLegal}
use Rattle.bt_history.proofs.Assured.{assured}
use Rattle.bt_picker.proofs.picker.Picker.attest.Goals as goal

pub returns-clause-assured : goal.returns-clause-assured
returns-clause-assured c =
    let legal : IsLegal c.args.self.now.setting c.args.self.now.history = search rules in
    assured c.args.self.now.setting c.args.self.now.history legal
