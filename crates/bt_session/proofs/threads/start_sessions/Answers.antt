use Rattle.std.proofs.Common.{◌≡◌, arith, rules, ap, ◌∙◌}
use Rattle.std.proofs.lemmas.Grind.{common_steps}
use Rattle.bt_meta.specs.Layout.{Metainfo}
use Rattle.bt_peer.specs.SessionTerms.{terms_of}
use Rattle.bt_session.proofs.Kept.{grown, all_grown}
use Rattle.bt_session.proofs.threads.start_sessions.Goals as goal

pub loop-stream-preserved : goal.loop-stream-preserved
loop-stream-preserved g c =
    let was = c.loop-stream.invariant in
    let made = c.in_ok-handle.ensures in
    let hs = c.loop-stream.handles.items in
    let hs' = c.push_reserved.new.self.items in
    let h = c.in_ok-handle.handle in
    record {
      terms = all_grown (λ h. terms_of h.promise.torrent.value.value h.promise.depth ≡ terms_of c.args.commons.now c.args.plan.rules.depth) hs hs' h
          c.push_reserved.ensures.items (made.terms ∙ ap (λ (t : Metainfo). terms_of t c.args.plan.rules.depth) c.in_ok-torrent.ensures) was.terms;
      seeds = all_grown (λ h. h.promise.seed ≡ c.args.plan.seed) hs hs' h c.push_reserved.ensures.items made.seed was.seeds;
      workers = grown (λ h. h.promise.worker.value) hs hs' h c.in-Some-next.worker _ _ _
          c.push_reserved.ensures.items c.in-Some-next.ensures.items made.worker was.workers;
      streams = grown (λ h. h.promise.stream.value) hs hs' h c.in-Some.stream _ _ _
          c.push_reserved.ensures.items c.in-Some.ensures.steps.0 made.stream was.streams;
      room = omega (arith, was.room, c.in-Some.ensures.steps.1, c.push_reserved.ensures.len, c.push_reserved.ensures.capacity);
      few = omega (arith, was.few, c.in-Some.ensures.steps.1, c.push_reserved.ensures.len);
      same = search rules;
    }

pub loop-stream-init : goal.loop-stream-init
loop-stream-init g c = grind (arith, common_steps)

pub start-requires : goal.start-requires
start-requires g c = grind (arith, common_steps)

pub returns-clause-workers : goal.returns-clause-workers
returns-clause-workers g c = grind (arith, common_steps)

pub returns-clause-streams : goal.returns-clause-streams
returns-clause-streams g c = grind (arith, common_steps)
