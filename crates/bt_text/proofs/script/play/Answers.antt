use Rattle.std.proofs.Common.{◌≡◌, ◌<◌, ◌≤◌, ◌+◌, ◌++◌, length, map, take, ap, sym, subst, ◌∙◌, arith}
use Rattle.std.proofs.lemmas.Grind.{common_steps}
use Rattle.std.specs.String.{string_bytes}
use Rattle.std.proofs.lemmas.List.{length-map}
use Rattle.bt_text.specs.Scripts.{line_at, Explains}
use Rattle.bt_text.specs.PlayedLines.{TakesLines, playing, silent}
use Rattle.bt_text.proofs.Results.{IfErr-passed}
use Rattle.bt_text.proofs.PlayedLines.{PassTo-more, IsScript-passed, Explains-later, Explains-unopened}
use Rattle.bt_text.proofs.Taken.{printed_unopened, takes_more}
use Rattle.bt_text.proofs.script.play.Goals as goal

pub returns-in_err-player-clause-fault : goal.returns-in_err-player-clause-fault
returns-in_err-player-clause-fault c =
    let texts = map (λ x. x.now) c.in_ok-lines.lines.items in
    let fault = c.in_err-player.field-0.0 in
    let stops = rw c.deref.ensures.value at c.in_err-player.ensures.err in
    IfErr-passed (Explains c.args.input.now) _ fault c.from_residual-in_err-player.ensures.1
    (Explains-unopened c.args.input.now texts fault c.in_ok-lines.ensures stops)

pub returns-in_err-player-clause-replies : goal.returns-in_err-player-clause-replies
returns-in_err-player-clause-replies c =
    let texts = map (λ x. x.now) c.in_ok-lines.lines.items in
    let stops = rw c.deref.ensures.value at c.in_err-player.ensures.err in
    printed_unopened c.args.input.now texts _ c.in_err-player.field-0.0 (string_bytes c.args.text.now)
    c.in_ok-lines.ensures c.from_residual-in_err-player.ensures.1 stops c.requires

pub loop-index-init : goal.loop-index-init
loop-index-init c =
    let texts = map (λ x. x.now) c.in_ok-lines.lines.items in
    let desk = c.in_ok-player.field-0.player.desk in
    let next = c.in_ok-player.field-0.next in
    record {
      starts = rw c.deref.ensures.value at c.in_ok-player.ensures.starts;
      pass = λ k behind before. absurd (omega (arith, behind, before));
      takes = subst (TakesLines silent (playing desk) (take next texts)) (sym c.requires)
          (rw c.deref.ensures.value at c.in_ok-player.ensures.takes);
    }

pub loop-index-preserved : goal.loop-index-preserved
loop-index-preserved c =
    let texts = map (λ x. x.now) c.in_ok-lines.lines.items in
    let text = c.line_at.ensures ∙ ap (λ xs. line_at (map (λ x. x.now) xs) c.loop-index.index) c.deref-in-loop-index.ensures.value in
    let w = c.loop-index.player.workers in
    let p = c.loop-index.player.pieces in
    let old = c.loop-index.player.desk in
    let new = c.answer.new.player.desk in
    let said = string_bytes c.in_ok-reply.reply in
    let within : c.loop-index.index < length texts = simp length-map (omega (arith, c.in_ok-lines.lines.ok.0)) in
    let wrote : string_bytes c.push_str.new.self ≡ string_bytes c.loop-index.text ++ said =
    c.in_ok-push_str.ensures.bytes ∙ ap (λ xs. string_bytes c.loop-index.text ++ xs) c.deref-in-loop-index-2.ensures in
    rw (c.in_ok-reply.ensures.workers, c.in_ok-reply.ensures.pieces) record {
      starts = c.loop-index.invariant.starts;
      pass = PassTo-more texts c.in_ok-player.field-0.next w p c.loop-index.index c.loop-index.invariant.pass (rw text at c.in_ok-reply.ensures.ok);
      takes = subst (TakesLines silent (playing new) (take (c.loop-index.index + 1) texts)) (sym wrote)
          (takes_more silent (playing old) (playing new) texts c.loop-index.index (string_bytes c.loop-index.text) said within
          c.loop-index.invariant.takes (rw text at c.in_ok-reply.ensures.answers));
    }

pub returns-in_err-reply-clause-fault : goal.returns-in_err-reply-clause-fault
returns-in_err-reply-clause-fault c =
    let texts = map (λ x. x.now) c.in_ok-lines.lines.items in
    let text = c.line_at.ensures ∙ ap (λ xs. line_at (map (λ x. x.now) xs) c.loop-index.index) c.deref-in-loop-index.ensures.value in
    let behind : c.in_ok-player.field-0.next ≤ c.loop-index.index = omega arith in
    let within : c.loop-index.index < length texts = simp length-map (omega (arith, c.in_ok-lines.lines.ok.0)) in
    let blames = rw text at c.in_err-reply.ensures.err in
    let player = c.loop-index.player in
    let why = Explains-later c.args.input.now texts c.in_ok-player.field-0.next player.workers player.pieces c.loop-index.index
    c.in_err-reply.field-0.0 c.in_ok-lines.ensures c.loop-index.invariant.starts c.loop-index.invariant.pass behind within blames in
    IfErr-passed (Explains c.args.input.now) _ c.in_err-reply.field-0.0 c.from_residual-in_err-reply.ensures.1 why

pub returns-clause-done : goal.returns-clause-done
returns-clause-done c =
    let texts = map (λ x. x.now) c.in_ok-lines.lines.items in
    IsScript-passed c.args.input.now texts c.in_ok-player.field-0.next c.loop-index.player.workers c.loop-index.player.pieces c.loop-index.index
    c.in_ok-lines.ensures c.loop-index.invariant.starts c.loop-index.invariant.pass
    (simp length-map (omega (arith, c.in_ok-lines.lines.ok.0)))

pub returns-in_err-reply-clause-replies : goal.returns-in_err-reply-clause-replies
returns-in_err-reply-clause-replies c = grind (arith, common_steps)

pub returns-in_err-push_str-clause-done : goal.returns-in_err-push_str-clause-done
returns-in_err-push_str-clause-done c = grind (arith, common_steps)

pub returns-in_err-push_str-clause-fault : goal.returns-in_err-push_str-clause-fault
returns-in_err-push_str-clause-fault c = grind (arith, common_steps)

pub returns-in_err-push_str-clause-unprinted : goal.returns-in_err-push_str-clause-unprinted
returns-in_err-push_str-clause-unprinted c = grind (arith, common_steps)

pub returns-clause-replies : goal.returns-clause-replies
returns-clause-replies c = grind (arith, common_steps)
