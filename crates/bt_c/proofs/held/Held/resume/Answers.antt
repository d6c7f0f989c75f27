use Rattle.std.proofs.Common.{◌∙◌, ap, sym}
use Rattle.bt_c.specs.declared.engine.Engine.{Engine}
use Rattle.bt_c.specs.Engines.{state_of}
use Rattle.bt_c.proofs.Restoring.{restored_setting}
use Rattle.bt_c.proofs.Staying.{still_own, still_rules, still_worker}
use Rattle.bt_c.proofs.held.Held.resume.Goals as goal

pub invariant_of-self-2 : goal.invariant_of-self-2
invariant_of-self-2 c =
    let h = c.args.self.now in let new = c.resume.new.self in
    let same = ap (λ (e : Engine). (state_of e).setting) c.in-Picker.is
    ∙ sym (restored_setting c.in-Picker.picker new c.args.worker c.args.piece c.args.bytes.now.bytes c.resume.result c.resume.ensures) in
    record {
      are_rules = still_rules h new.setting same;
      own_torrent = still_own h new.setting same;
      has_worker = still_worker h new.setting same;
    }
