use Rattle.std.proofs.Common.{◌<◌, ◌∙◌, ap, arith, refl, subst, sym}
use Rattle.std.specs.Prelude.{IfOk}
use Rattle.bt_meta.specs.Layout.{Layout, Metainfo, piece_count}
use Rattle.bt_picker.specs.Checks.{IsJobOf}
use Rattle.bt_picker.specs.Positions.{DeskState}
use Rattle.bt_c.specs.declared.engine.Engine.TheVariants.{Desk, Keeper}
use Rattle.bt_c.specs.Engines.{state_of}
use Rattle.bt_c.specs.Jobs.{IsCheckOf}
use Rattle.bt_c.proofs.Given.{is_check_of, keeps_content}
use Rattle.bt_c.proofs.held.Held.check.Goals as goal

pub returns-in-Keeper : goal.returns-in-Keeper
returns-in-Keeper c =
    let h = c.args.self.now in let p = c.args.piece in
    let lay = ap (λ (t : Metainfo). t.layout) c.deref.ensures ∙ h.own_torrent in
    let within = subst (λ (t : Layout). p < piece_count t) lay (omega (arith, c.if-piece-piece_count.false, c.piece_count.ensures.count)) in
    let keeps = keeps_content h (Keeper c.in-Keeper.keeper) c.in-Keeper.is refl in
    let given = subst (λ (d : DeskState). IfOk c.job.result (IsJobOf d.setting d.history p)) (sym (ap state_of c.in-Keeper.is)) c.job.ensures.ok in
    subst (IsCheckOf h p) (sym c.check_of.ensures) (is_check_of h p c.job.result within keeps given)

pub returns-in-Desk : goal.returns-in-Desk
returns-in-Desk c =
    let h = c.args.self.now in let p = c.args.piece in
    let lay = ap (λ (t : Metainfo). t.layout) c.deref.ensures ∙ h.own_torrent in
    let within = subst (λ (t : Layout). p < piece_count t) lay (omega (arith, c.if-piece-piece_count.false, c.piece_count.ensures.count)) in
    let keeps = keeps_content h (Desk c.in-Desk.desk) c.in-Desk.is refl in
    let given = subst (λ (d : DeskState). IfOk c.job-in-Desk.result (IsJobOf d.setting d.history p)) (sym (ap state_of c.in-Desk.is))
    c.job-in-Desk.ensures.ok in
    subst (IsCheckOf h p) (sym c.check_of-in-Desk.ensures) (is_check_of h p c.job-in-Desk.result within keeps given)
