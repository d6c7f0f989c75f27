use Rattle.bt_picker.proofs.Rarest.{crowd_first, group_more, listed_within, past_them, under_crowd}
use Rattle.std.proofs.Common.{◌+◌, ◌<◌, ℕ, Option, false, subst, sym}
use Rattle.std.specs.Prelude.{IfSome}
use Rattle.bt_meta.specs.Layout.{piece_count}
use Rattle.bt_history.specs.Picks.{place_in_round}
use Rattle.bt_history.specs.Pieces.{availability, offers}
use Rattle.bt_picker.specs.Search.{FindsLeast, FirstWhere, is_candidate_at, order_of}
use Rattle.bt_picker.proofs.Rounds.{found_within}
use Rattle.bt_picker.proofs.Stages.{group_within}
use Rattle.bt_picker.proofs.position.Position.nearest_listed.Goals as goal

pub first_offered-other-requires-clause-pieces : goal.first_offered-other-requires-clause-pieces
first_offered-other-requires-clause-pieces c =
    let d = c.args.self.now in
    group_within d.setting d.history _ c.group-pieces.result.now c.group-pieces.ensures

pub loop-shown_by-preserved : goal.loop-shown_by-preserved
loop-shown_by-preserved c =
    let d = c.args.self.now in
    let n = piece_count d.setting.torrent in
    let k = c.loop-shown_by.shown_by in
    let is_one = is_candidate_at d.setting d.history c.args.worker c.args.level in
    let under = under_crowd d.setting.workers _ _ k c.workers.ensures c.min-most.ensures c.loop-shown_by-test.true in
    let is = c.earlier-nearest.ensures n (found_within is_one (place_in_round n c.args.first) n _ c.loop-shown_by.nearest c.loop-shown_by.invariant)
    (listed_within d.setting d.history _ (offers d.setting d.history c.args.worker) (order_of d.setting d.history false c.args.first) c.group-pieces.result.now c.first_offered-other.result c.group-pieces.ensures c.first_offered-other.ensures) in
    subst (FirstWhere is_one (place_in_round n c.args.first) n (λ p. availability d.setting d.history p < k + 1)) (sym is)
    (group_more d.setting d.history c.args.worker c.args.level k c.args.first c.group-pieces.result.now c.attest.ensures.legal c.requires.level under
    c.group-pieces.ensures c.loop-shown_by.nearest c.first_offered-other.result c.loop-shown_by.invariant c.first_offered-other.ensures)

pub first_offered-requires-clause-pieces : goal.first_offered-requires-clause-pieces
first_offered-requires-clause-pieces c =
    let d = c.args.self.now in
    group_within d.setting d.history _ c.group-crowd.result.now c.group-crowd.ensures

pub returns : goal.returns
returns c =
    let d = c.args.self.now in
    let n = piece_count d.setting.torrent in
    let k = c.loop-shown_by.shown_by in
    let is_one = is_candidate_at d.setting d.history c.args.worker c.args.level in
    let past = past_them d.setting.workers _ _ k c.workers.ensures c.min-most.ensures c.loop-shown_by-test.false in
    let is = c.earlier.ensures n (found_within is_one (place_in_round n c.args.first) n _ c.loop-shown_by.nearest c.loop-shown_by.invariant)
    (listed_within d.setting d.history _ (offers d.setting d.history c.args.worker) (order_of d.setting d.history false c.args.first) c.group-crowd.result.now c.first_offered.result c.group-crowd.ensures c.first_offered.ensures) in
    let all = crowd_first d.setting d.history c.args.worker c.args.level k c.args.first c.group-crowd.result.now c.attest.ensures.legal
    c.requires.level past c.group-crowd.ensures c.loop-shown_by.nearest c.first_offered.result c.loop-shown_by.invariant c.first_offered.ensures in
    record {
      first = subst (FindsLeast is_one (order_of d.setting d.history false c.args.first) 0 n) (sym is) all.0;
      within = subst (λ (o : Option ℕ). IfSome o (λ p. p < n)) (sym is) all.1;
    }
