use Rattle.std.proofs.Common.{◌≡◌, ◌∙◌, ap, arith, subst, sym}
use Rattle.bt_meta.specs.Layout.{Metainfo}
use Rattle.bt_history.specs.Setting.{Setting}
use Rattle.bench.specs.ZeroBytes.{AllZeros, IsEven}
use Rattle.bench.proofs.picker.zeros.Zeros.new.Goals as goal

pub invariant_of-result : goal.invariant_of-result
invariant_of-result c =
    let t = c.in_ok-torrent.torrent.layout in
    let made : c.in_ok-new-2.field-0.setting.torrent ≡ t =
    ap (λ (s : Setting). s.torrent) c.in_ok-new-2.ensures.setting ∙ ap (λ (m : Metainfo). m.layout) c.in_ok-new.ensures.ok in
    let even : IsEven t = record {
      pieces = omega (arith, c.piece_length.ensures, c.if-piece_length-ne-PIECE_LEN.false);
      whole = omega (arith, c.total.ensures, c.piece_count.ensures.count, c.from.ensures, c.if-total-from.false);
    } in (
      subst IsEven (sym made) even,
      subst AllZeros (sym c.in_ok-new-2.ensures.history) tt,
      c.in_ok-zero_bytes.ensures,
      c.in_ok-digest.ensures,
    )
