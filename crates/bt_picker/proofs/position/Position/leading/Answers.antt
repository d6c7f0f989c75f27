use Rattle.std.proofs.Common.{◌≡◌, ◌<◌, ◌≤◌, true, false, not, None, Some, ap, sym, arith}
use Rattle.std.specs.Prelude.{nat_lt}
use Rattle.std.proofs.lemmas.Bool.{or_parts, or_right}
use Rattle.bt_history.specs.Setting.{Setting}
use Rattle.bt_history.specs.History.{History}
use Rattle.bt_history.specs.Next.{is_rarest, is_strict}
use Rattle.bt_history.specs.Pieces.{availability, had_count, open_count}
use Rattle.bt_picker.proofs.Choices.{starting_ruled}
use Rattle.bt_picker.proofs.Leading.{as_rare, none_goes_on, resumes_parts}
use Rattle.bt_picker.proofs.Levelled.{candidate_gives, candidate_starts, given, none_in_order_at}
use Rattle.bt_picker.proofs.Picking.{starts_first}
use Rattle.bt_picker.proofs.position.Position.leading.Goals as goal
use Rattle.bt_picker.proofs.position.Position.leading.Goals.{in_default-via-in-Some+else-availability-shown_by, in_default-via-in_default}

-- the first pieces are there where begun ones don't come first
settled : (s : Setting) (h : History) → is_strict s h ≡ false → true ≡ not (nat_lt (had_count s h) s.random)
settled s h loose = sym (ap not (or_parts (nat_lt s.most_open (open_count s h)) (nat_lt (had_count s h) s.random) loose).1)

pub going_on-requires-clause-leads : goal.going_on-requires-clause-leads
going_on-requires-clause-leads c =
    let d = c.args.self.now in
    let own = resumes_parts d.setting d.history c.args.worker c.args.level c.args.piece c.requires.first.0 in
    or_right (is_strict d.setting d.history) (is_rarest d.setting d.history c.args.worker c.args.piece)
    (elim c.in_default.branch [
      | in_default-via-in-Some+else-availability-shown_by w ↦
          let few : availability d.setting d.history c.args.piece ≤ availability d.setting d.history w.in-Some.other =
          omega (arith, w.if-availability-shown_by.false, w.availability.ensures, c.availability-shown_by.ensures) in
          as_rare d.setting d.history c.args.worker c.args.level c.args.piece (Some w.in-Some.other) own.2 w.in-Some.ensures.least few
      | in_default-via-in_default w ↦
          as_rare d.setting d.history c.args.worker c.args.level c.args.piece None own.2 w.in_default.ensures.least tt
    ])

pub returns-in-Some-left_in-clause-some : goal.returns-in-Some-left_in-clause-some
returns-in-Some-left_in-clause-some c =
    let d = c.args.self.now in
    let b = c.in-Some-left_in.block in
    let own = candidate_starts d.setting d.history c.args.worker c.args.level c.requires.above c.in-Some.other true c.requires.near c.attest.ensures.layout
    (settled d.setting d.history c.requires.loose) c.in-Some.ensures.within c.in-Some.ensures.least c.requires.level b c.in-Some-left_in.ensures in
    let less : availability d.setting d.history c.in-Some.other < availability d.setting d.history c.args.piece =
    omega (arith, c.if-availability-shown_by.true, c.availability.ensures, c.availability-shown_by.ensures) in
    let none = none_goes_on d.setting d.history c.args.worker c.args.level c.requires.above c.args.piece c.requires.within c.requires.first
    c.in-Some.other c.in-Some.ensures.within c.in-Some.ensures.least.0 less c.requires.loose b own.0 own.1 own.2 in
    starting_ruled d.setting d.history c.args.worker c.requires.may
    (none_in_order_at d.setting d.history c.args.worker c.args.level c.requires.above c.requires.unordered) b none own.0 own.3

pub returns-in-Some-left_in-clause-picked : goal.returns-in-Some-left_in-clause-picked
returns-in-Some-left_in-clause-picked c =
    let d = c.args.self.now in
    starts_first d.setting d.history c.args.worker c.args.level c.requires.above c.args.word c.in-Some.other true c.requires.near
    c.attest.ensures.layout (settled d.setting d.history c.requires.loose) c.in-Some.ensures.within c.in-Some.ensures.first c.requires.level
    c.in-Some-left_in.block c.in-Some-left_in.ensures

pub returns-in-None-clause-none : goal.returns-in-None-clause-none
returns-in-None-clause-none c =
    let d = c.args.self.now in
    absurd (cc (given d.setting d.history c.args.worker c.args.level c.in-Some.other None c.requires.near
    (candidate_gives d.setting d.history c.args.worker c.args.level c.in-Some.other c.attest.ensures.layout c.requires.level c.in-Some.ensures.within
    c.in-Some.ensures.least.0) c.in-None.ensures).1)
