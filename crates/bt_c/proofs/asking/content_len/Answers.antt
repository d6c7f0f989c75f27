use Rattle.std.proofs.Common.{◌≡◌, true, sym, ap, ◌∙◌, arith, rules}
use Rattle.bt_meta.specs.Layout.{Layout, piece_len}
use Rattle.bt_history.specs.Pieces.{had}
use Rattle.bt_picker.specs.Positions.{DeskState}
use Rattle.bt_c.proofs.ContentLengths.{content_len}
use Rattle.bt_c.proofs.asking.content_len.Goals as goal

pub returns : goal.returns
returns c =
    let d = c.args.desk.now in let p = c.args.piece in
    let lay = c.torrent-torrent.ensures ∙ ap (λ (e : DeskState). e.setting.torrent) c.picker.ensures in
    let is : had d.history p ≡ true = grind arith in (
      grind arith,
      is,
      c.piece_len.ensures.len ∙ (ap (λ (t : Layout). piece_len t p) lay
          ∙ sym (content_len d.setting d.history p c.journal-legal.ensures.legal is)),
    )

pub returns-then-not-had : goal.returns-then-not-had
returns-then-not-had c = search rules fits 100
