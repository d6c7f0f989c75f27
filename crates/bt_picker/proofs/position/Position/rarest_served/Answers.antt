use Rattle.std.proofs.Common.{◌≡◌, ◌⊎◌, ◌<◌, true, false, refl, ap, sym, ◌∙◌, arith, inl, inr, ⊎_elim, None}
use Rattle.std.specs.Option.{is_some}
use Rattle.std.proofs.lemmas.Bool.{false≢true}
use Rattle.bt_history.specs.Pieces.{availability}
use Rattle.bt_tables.specs.Orders.{at}
use Rattle.bt_picker.specs.Search.{order_of, serves_at}
use Rattle.bt_picker.proofs.Leading.{comes_rarest, none_found, stays_rarest}
use Rattle.bt_picker.proofs.Telling.{rarer_step}
use Rattle.bt_picker.proofs.position.Position.rarest_served.Goals as goal
use Rattle.bt_picker.proofs.position.Position.rarest_served.Goals.{then-serves_at, else-serves_at}

pub loop-piece-preserved-then-fewest-shown_by : goal.loop-piece-preserved-then-fewest-shown_by
loop-piece-preserved-then-fewest-shown_by c =
    let d = c.args.self.now in
    let l = c.loop-piece in
    let pieces = c.args.pieces.now in
    let test = serves_at d.setting d.history c.args.worker c.args.level in
    let stays = stays_rarest d.setting d.history test pieces l.piece-index l.fewest c.requires.pieces c.requires.rise c.loop-piece-test.true l.rarest
    l.invariant.0 l.invariant.1 (λ none. false≢true (sym (ap is_some none) ∙ (sym c.is_some.ensures ∙ c.if-is_some.true)))
    (omega (arith, c.if-fewest-shown_by.true, c.availability-shown_by.ensures)) in
    (rarer_step test (order_of d.setting d.history true 0) pieces l.piece-index _ l.rarest l.rarest refl l.invariant.0 stays, l.invariant.1)

pub loop-piece-preserved : goal.loop-piece-preserved
loop-piece-preserved c =
    let d = c.args.self.now in
    let l = c.loop-piece in
    let pieces = c.args.pieces.now in
    let test = serves_at d.setting d.history c.args.worker c.args.level in
    let rank = order_of d.setting d.history true 0 in
    elim c.if-serves_at.branch [
      | then-serves_at w ↦
          let why : (l.rarest ≡ None) ⊎ (availability d.setting d.history (at pieces l.piece-index) < l.fewest) = ⊎_elim
          (λ (both : (c.is_some.result ≡ true) × (c.availability-shown_by.result < l.fewest)).
          let less = both.1 in inr (omega (arith, less, c.availability-shown_by.ensures)))
          (λ (none : c.is_some.result ≡ false). inl (none_found l.rarest (sym c.is_some.ensures ∙ none)))
          c.else-is_some.either in
          let comes = comes_rarest d.setting d.history test pieces l.piece-index l.fewest c.requires.pieces c.requires.rise c.loop-piece-test.true
          l.rarest l.invariant.0 l.invariant.1 (sym c.serves_at.ensures ∙ w.if-serves_at.true) why in
          rw (w.rarest-is, w.fewest-is)
          (rarer_step test rank pieces l.piece-index _ l.rarest _ refl l.invariant.0 comes, c.availability-shown_by.ensures)
      | else-serves_at w ↦
          rw (w.rarest-is, w.fewest-is) (
            rarer_step test rank pieces l.piece-index _ l.rarest l.rarest refl l.invariant.0
                (inr (refl, inl (sym c.serves_at.ensures ∙ w.if-serves_at.false))),
            l.invariant.1,
          )
    ]
