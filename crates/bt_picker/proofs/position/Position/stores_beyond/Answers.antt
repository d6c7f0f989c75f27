use Rattle.std.proofs.Common.{◌==◌, ◌∙◌, ℕ, ap}
use Rattle.bt_history.specs.Setting.{some_block_of}
use Rattle.bt_history.specs.declared.event.Action.TheVariants.{Arrived}
use Rattle.bt_history.proofs.Arrivals.{arrival_facts}
use Rattle.bt_picker.proofs.Arriving.{some_there}
use Rattle.bt_picker.proofs.Entered.{cause_none}
use Rattle.bt_picker.proofs.position.Position.stores_beyond.Goals as goal

pub is_asked_alone-requires-clause-piece : goal.is_asked_alone-requires-clause-piece
is_asked_alone-requires-clause-piece c =
    let d = c.args.self.now in
    let cause = cause_none d.setting d.history c.args.worker (Arrived c.in-Arrived.piece c.in-Arrived.begin c.in-Arrived.bytes.now) c.args.reply
    (rw c.in-Arrived.is at c.requires.allowed) c.requires.counted in
    (arrival_facts d.setting d.history c.args.worker c.in-Arrived.piece c.in-Arrived.begin c.in-Arrived.bytes.now cause).piece

pub is_asked_alone-requires-clause-begin : goal.is_asked_alone-requires-clause-begin
is_asked_alone-requires-clause-begin c =
    let d = c.args.self.now in
    let cause = cause_none d.setting d.history c.args.worker (Arrived c.in-Arrived.piece c.in-Arrived.begin c.in-Arrived.bytes.now) c.args.reply
    (rw c.in-Arrived.is at c.requires.allowed) c.requires.counted in
    let facts = arrival_facts d.setting d.history c.args.worker c.in-Arrived.piece c.in-Arrived.begin c.in-Arrived.bytes.now cause in
    ap (λ (n : ℕ). some_block_of d.setting.torrent c.in-Arrived.piece (λ b. b.begin == n)) facts.begins ∙
    some_there d.setting.torrent c.in-Arrived.piece facts.index facts.within
