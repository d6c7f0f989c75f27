use Rattle.std.proofs.Common.{◌==◌, ◌&&◌, ◌∙◌, ℕ, ap, not, sym}
use Rattle.bt_history.specs.Setting.{some_block_of}
use Rattle.bt_history.specs.Epochs.{asked_alone}
use Rattle.bt_history.specs.declared.event.Action.TheVariants.{Arrived}
use Rattle.bt_history.proofs.Arrivals.{arrival_facts}
use Rattle.bt_picker.proofs.Arriving.{some_there}
use Rattle.bt_picker.proofs.Entered.{cause_none}
use Rattle.bt_picker.proofs.Epochs.{block_stirs, stores_count}
use Rattle.bt_picker.proofs.position.Position.stirs_with.Goals as goal

pub is_asked_alone-requires-clause-piece : goal.is_asked_alone-requires-clause-piece
is_asked_alone-requires-clause-piece c =
    let d = c.args.self.now in
    let cause = cause_none d.setting d.history c.args.worker (Arrived c.args.piece c.args.begin c.args.bytes.now.bytes) c.args.reply
    c.requires.allowed (stores_count c.args.reply (sym c.is_stored.ensures ∙ c.if-is_stored.true)) in
    (arrival_facts d.setting d.history c.args.worker c.args.piece c.args.begin c.args.bytes.now.bytes cause).piece

pub is_asked_alone-requires-clause-begin : goal.is_asked_alone-requires-clause-begin
is_asked_alone-requires-clause-begin c =
    let d = c.args.self.now in
    let cause = cause_none d.setting d.history c.args.worker (Arrived c.args.piece c.args.begin c.args.bytes.now.bytes) c.args.reply
    c.requires.allowed (stores_count c.args.reply (sym c.is_stored.ensures ∙ c.if-is_stored.true)) in
    let facts = arrival_facts d.setting d.history c.args.worker c.args.piece c.args.begin c.args.bytes.now.bytes cause in
    ap (λ (n : ℕ). some_block_of d.setting.torrent c.args.piece (λ b. b.begin == n)) facts.begins ∙
    some_there d.setting.torrent c.args.piece facts.index facts.within

pub returns-then-is_stored : goal.returns-then-is_stored
returns-then-is_stored c =
    let d = c.args.self.now in
    (λ i. (sym c.if-is_stored.true ∙ c.is_stored.ensures) i && not (c.is_asked_alone.ensures i))
    ∙ block_stirs d.setting d.history c.args.worker c.args.piece c.args.begin c.args.bytes.now.bytes c.args.reply c.requires.allowed

pub returns-else-is_stored : goal.returns-else-is_stored
returns-else-is_stored c =
    let d = c.args.self.now in
    c.if-is_stored.false
    ∙ (λ i. (sym c.if-is_stored.false ∙ c.is_stored.ensures) i && not (asked_alone d.setting d.history c.args.worker c.args.piece c.args.begin))
    ∙ block_stirs d.setting d.history c.args.worker c.args.piece c.args.begin c.args.bytes.now.bytes c.args.reply c.requires.allowed
