use Rattle.std.proofs.Common.{◌≡◌, ◌∙◌, Bool, true, false, not, ◌&&◌, ap, refl, sym}
use Rattle.std.proofs.lemmas.Bool.{false≢true, ltb-true}
use Rattle.sha1.specs.Sha1.{sha1}
use Rattle.bt_meta.specs.Layout.{piece_count}
use Rattle.bench.proofs.ZeroContent.{content_zeros}
use Rattle.bench.proofs.ZeroSteps.{settles_keeps}
use Rattle.bench.proofs.picker.zeros.Zeros.settle.Goals as goal

parts : (within filled had_it : Bool) → (within && (filled && not had_it)) ≡ true → (within ≡ true) × (filled ≡ true)
parts true true had_it is = (refl, refl)
parts true false had_it is = absurd (false≢true is)
parts false filled had_it is = absurd (false≢true is)

pub settle-requires : goal.settle-requires
settle-requires c waiting =
    let d = c.self.inside.picker in
    let known = parts _ _ _ waiting in
    c.self.invariant.3 ∙ sym (ap sha1 (content_zeros d.setting d.history c.args.piece c.attest.ensures.legal c.self.invariant.0 c.self.invariant.1
    (ltb-true c.args.piece (piece_count d.setting.torrent) known.0) known.1))

pub invariant_of-self : goal.invariant_of-self
invariant_of-self c =
    let o = c.self.inside in
    let kept = settles_keeps o.picker c.settle.new.self c.args.worker c.args.piece c.settle.result c.settle.ensures
    (c.self.invariant.0, c.self.invariant.1) in
    (kept.0, kept.1, c.self.invariant.2, c.self.invariant.3)
