use Rattle.std.proofs.Common.{◌≡◌, ◌∙◌, ◌≤◌, ℕ, zero, suc, true, None, Some, refl, arith, sym, subst}
use Rattle.std.specs.Prelude.{nat_le}
use Rattle.bt_meta.specs.Layout.{piece_count}
use Rattle.bt_history.proofs.Levels.{level_bounded}
use Rattle.bt_picker.specs.Search.{FindsLeast, is_candidate_at, rank_of}
use Rattle.bt_picker.proofs.Allowing.{none_unwanted, rarest_alone, rarest_by}
use Rattle.bt_picker.proofs.position.Position.is_rarest.Goals as goal

pub returns-then-level-eq0 : goal.returns-then-level-eq0
returns-then-level-eq0 c =
    let d = c.args.self.now in
    sym (rarest_alone d.setting d.history c.args.worker c.args.piece (λ k lk.
    none_unwanted d.setting d.history c.args.worker c.args.piece k (sym c.level-level.ensures ∙ c.if-level-eq0.true) lk))

-- the level that was read
pub rarest-requires-clause-level : goal.rarest-requires-clause-level
rarest-requires-clause-level c =
    let d = c.args.self.now in
    let bound = level_bounded d.setting d.history c.args.piece c.attest.ensures.legal in
    (positive c.level-level.result c.if-level-eq0.false, omega (arith, bound, c.level-level.ensures))
  where
    positive : (m : ℕ) → (m ≡ 0 → ⊥) → 1 ≤ m
    positive zero some = absurd (some refl)
    positive (suc m) some = omega arith

pub returns-in-Some : goal.returns-in-Some
returns-in-Some c =
    let d = c.args.self.now in
    let least = subst (λ (n : ℕ). FindsLeast (is_candidate_at d.setting d.history c.args.worker n) (rank_of d.setting d.history true) 0
    (piece_count d.setting.torrent) (Some c.in-Some.rarest)) c.level-level.ensures c.in-Some.ensures.least in
    (λ i. nat_le (c.availability.ensures i) (c.availability-in-Some.ensures i))
    ∙ rarest_by d.setting d.history c.args.worker c.args.piece c.in-Some.rarest c.in-Some.ensures.within least.0 least.1

pub returns-in-None : goal.returns-in-None
returns-in-None c =
    let d = c.args.self.now in
    let none = subst (λ (n : ℕ). FindsLeast (is_candidate_at d.setting d.history c.args.worker n) (rank_of d.setting d.history true) 0
    (piece_count d.setting.torrent) None) c.level-level.ensures c.in-None.ensures.least in
    sym (rarest_alone d.setting d.history c.args.worker c.args.piece (λ k lk. none k (omega arith) lk))
