use Rattle.std.proofs.Common.{◌≡◌, ◌∙◌, ap, rules, subst, sym}
use Rattle.bt_check.specs.Checked.{Checked, joined}
use Rattle.bt_picker.specs.Kept.{SettlesOrStale}
use Rattle.bt_picker.specs.Positions.{DeskState, Gains}
use Rattle.bt_picker.specs.Told.{checking}
use Rattle.bt_c.specs.declared.engine.Engine.{Engine}
use Rattle.bt_c.specs.declared.engine.Keeping.{Keeping}
use Rattle.bt_c.specs.declared.engine.Keeping.TheVariants.{Journal}
use Rattle.bt_c.specs.Behind.{state}
use Rattle.bt_c.specs.Engines.{keeping_of, state_of}
use Rattle.bt_c.specs.Jobs.{SettlesVerdict, settled_of}
use Rattle.bt_c.proofs.Staying.{still_own, still_rules, still_worker}
use Rattle.bt_c.proofs.Verdicts.{entered, kept, kept_setting}
use Rattle.bt_c.proofs.held.Held.settle_verdict.Goals as goal

pub invariant_of-self-in-Keeper : goal.invariant_of-self-in-Keeper
invariant_of-self-in-Keeper c =
    let h = c.args.self.now in let new = c.settle.new.self in
    let same = ap (λ (e : Engine). (state_of e).setting) c.in-Keeper.is
    ∙ sym (kept_setting c.in-Keeper.keeper new c.deref.result.now c.settle.result.reply c.settle.ensures.either) in
    record {
      are_rules = still_rules h new.setting same;
      own_torrent = still_own h new.setting same;
      has_worker = still_worker h new.setting same;
    }

pub returns-in-Keeper-clause-settles : goal.returns-in-Keeper-clause-settles
returns-in-Keeper-clause-settles c =
    let h = c.args.self.now in let new = c.settle.new.self in let v = c.args.verdict.now.value in let reply = c.settle.result.reply in
    let own = subst (λ (d : DeskState). SettlesOrStale d new 0 c.deref.result.now reply) (sym (ap state_of c.in-Keeper.is)) c.settle.ensures.either in
    let either = subst (λ (w : Checked). SettlesOrStale (state h) new 0 w reply) c.deref.ensures own in
    subst (SettlesVerdict (keeping_of h.engine) (state h) new v) (sym c.settled.ensures)
    (subst (λ (k : Keeping). SettlesVerdict k (state h) new v (settled_of reply)) (sym (ap keeping_of c.in-Keeper.is))
    (kept (state h) new v reply h.has_worker either))

pub returns-in_ok-call-in-Desk-clause-settles : goal.returns-in_ok-call-in-Desk-clause-settles
returns-in_ok-call-in-Desk-clause-settles c =
    let h = c.args.self.now in let new = c.call.new.self in let reply = c.in_ok-call-in-Desk.field-0 in
    let w = c.in_ok-shared-in-Desk.shared.value in
    let gains = subst (λ (d : DeskState). Gains d new (checking 0 w.piece (joined w) reply)) (sym (ap state_of c.in-Desk.is))
    c.in_ok-call-in-Desk.ensures.ok in
    let told = entered (state h) new w reply gains in
    let same : w ≡ c.args.verdict.now.value = search rules in
    subst (SettlesVerdict (keeping_of h.engine) (state h) new c.args.verdict.now.value) (sym c.settled-in-Desk.ensures)
    (subst (λ (k : Keeping). SettlesVerdict k (state h) new c.args.verdict.now.value (settled_of reply)) (sym (ap keeping_of c.in-Desk.is))
    (subst (λ (u : Checked). SettlesVerdict Journal (state h) new u (settled_of reply)) same told))
