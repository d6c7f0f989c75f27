use Rattle.std.proofs.Common.{◌≡◌, ◌∙◌, true, Option, None, Some, ap, sym, subst}
use Rattle.std.specs.Prelude.{IfNone, IfSome, IsTrue, nat_le}
use Rattle.bt_meta.specs.declared.block.Block.{Block}
use Rattle.bt_history.specs.Next.{rises}
use Rattle.bt_history.specs.Setting.{is_block}
use Rattle.bt_history.specs.Pieces.{comes_in_order, order_from}
use Rattle.bt_picker.specs.Search.{FindsOf, NoneAt, NoneBeforeIn, is_left}
use Rattle.bt_picker.proofs.Levelled.{lesser_gives, rises_at, rises_none}
use Rattle.bt_picker.proofs.Scans.{first_in_piece}
use Rattle.bt_picker.proofs.Stages.{open_within}
use Rattle.bt_picker.proofs.position.Position.rising.Goals as goal

pub least_served-open-requires-clause-pieces : goal.least_served-open-requires-clause-pieces
least_served-open-requires-clause-pieces c =
    let d = c.args.self.now in
    open_within d.setting d.history c.open_pieces.result.now c.open_pieces.ensures.lists

pub left_in-requires-clause-piece : goal.left_in-requires-clause-piece
left_in-requires-clause-piece c =
    let d = c.args.self.now in
    (lesser_gives d.setting d.history c.args.worker c.args.level c.open_pieces.result.now c.attest.ensures.legal c.attest.ensures.layout
    c.requires.level c.open_pieces.ensures.lists c.least_served-open.result c.least_candidate.result c.in-Some.piece (sym c.in-Some.ensures)
    c.least_served-open.ensures.listed c.least_candidate.ensures.least c.least_candidate.ensures.within).within

pub returns-in-Some-clause-some : goal.returns-in-Some-clause-some
returns-in-Some-clause-some c =
    let d = c.args.self.now in
    let up = rises_at d.setting d.history c.args.worker c.args.level c.open_pieces.result.now c.attest.ensures.legal c.attest.ensures.layout
    c.requires.level c.open_pieces.ensures.lists c.least_served-open.result c.least_candidate.result c.in-Some.piece c.left_in.result
    c.requires.above c.requires.near
    (sym c.in-Some.ensures) c.least_served-open.ensures.listed c.least_served-open.ensures.least c.least_candidate.ensures.least
    c.least_candidate.ensures.within c.left_in.ensures in
    subst (λ (o : Option Block). IfSome o (λ b. IsTrue (is_block d.setting.torrent b) × IsTrue (rises d.setting d.history c.args.worker b)))
    (sym up.1) (up.2, up.3)

pub returns-in-Some-clause-order : goal.returns-in-Some-clause-order
returns-in-Some-clause-order c =
    let d = c.args.self.now in
    let up = rises_at d.setting d.history c.args.worker c.args.level c.open_pieces.result.now c.attest.ensures.legal c.attest.ensures.layout
    c.requires.level c.open_pieces.ensures.lists c.least_served-open.result c.least_candidate.result c.in-Some.piece c.left_in.result
    c.requires.above c.requires.near
    (sym c.in-Some.ensures) c.least_served-open.ensures.listed c.least_served-open.ensures.least c.least_candidate.ensures.least
    c.least_candidate.ensures.within c.left_in.ensures in
    subst (λ (o : Option Block). IfSome o (λ b. nat_le (order_from d.history) c.args.level ≡ true → comes_in_order d.history b.piece ≡ true))
    (sym up.1) (λ ordered. ap (nat_le (order_from d.history)) up.4 ∙ ordered)

pub returns-in-Some-clause-first : goal.returns-in-Some-clause-first
returns-in-Some-clause-first c = first c.left_in.result c.left_in.ensures where
  first : (o : Option Block) → FindsOf c.args.self.now.setting.torrent c.in-Some.piece (is_left c.args.self.now.setting c.args.self.now.history c.args.worker) o
      → IfSome o (λ b. NoneBeforeIn c.args.self.now.setting.torrent (is_left c.args.self.now.setting c.args.self.now.history c.args.worker) b b.piece)
  first None none = tt
  first (Some b) some =
      let d = c.args.self.now in
      subst (NoneBeforeIn d.setting.torrent (is_left d.setting d.history c.args.worker) b) (ap (λ (x : Block). x.piece) (sym some.2))
      (first_in_piece d.setting.torrent c.in-Some.piece (is_left d.setting d.history c.args.worker) b some)

pub returns-in-Some-clause-none : goal.returns-in-Some-clause-none
returns-in-Some-clause-none c =
    let d = c.args.self.now in
    let up = rises_at d.setting d.history c.args.worker c.args.level c.open_pieces.result.now c.attest.ensures.legal c.attest.ensures.layout
    c.requires.level c.open_pieces.ensures.lists c.least_served-open.result c.least_candidate.result c.in-Some.piece c.left_in.result
    c.requires.above c.requires.near
    (sym c.in-Some.ensures) c.least_served-open.ensures.listed c.least_served-open.ensures.least c.least_candidate.ensures.least
    c.least_candidate.ensures.within c.left_in.ensures in
    subst (λ (o : Option Block). IfNone o (NoneAt d.setting d.history c.args.worker c.args.level)) (sym up.1) tt

pub returns-in-None-clause-none : goal.returns-in-None-clause-none
returns-in-None-clause-none c =
    let d = c.args.self.now in
    rises_none d.setting d.history c.args.worker c.args.level c.open_pieces.result.now c.attest.ensures.legal c.attest.ensures.layout
    c.requires.level c.open_pieces.ensures.lists c.least_served-open.result c.least_candidate.result (sym c.in-None.ensures)
    c.least_served-open.ensures.listed c.least_candidate.ensures.least
