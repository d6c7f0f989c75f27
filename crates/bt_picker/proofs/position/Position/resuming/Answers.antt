use Rattle.std.proofs.Common.{ℕ, sym, subst, ◌∙◌}
use Rattle.std.specs.Prelude.{true}
use Rattle.bt_meta.specs.Layout.{piece_count}
use Rattle.bt_picker.specs.Search.{FindsLeast, order_of, resumes_at, serves_at}
use Rattle.bt_picker.proofs.Leading.{listed_least, numbered_order, rarity_order, resuming_found}
use Rattle.bt_picker.proofs.Stages.{open_within}
use Rattle.bt_picker.proofs.position.Position.resuming.Goals as goal

pub least_served-requires-clause-pieces : goal.least_served-requires-clause-pieces
least_served-requires-clause-pieces c =
    let d = c.args.self.now in
    open_within d.setting d.history c.open_pieces-pieces.result.now c.open_pieces-pieces.ensures.lists

pub rarest_served-requires-clause-pieces : goal.rarest_served-requires-clause-pieces
rarest_served-requires-clause-pieces c =
    let d = c.args.self.now in
    open_within d.setting d.history c.open_pieces-pieces.result.now c.open_pieces-pieces.ensures.lists

pub returns-then-most_open-eq0-clause-first : goal.returns-then-most_open-eq0-clause-first
returns-then-most_open-eq0-clause-first c =
    let d = c.args.self.now in
    subst (λ (rank : ℕ → ℕ). FindsLeast (resumes_at d.setting d.history c.args.worker c.args.level) rank 0 (piece_count d.setting.torrent)
    c.least_served.result)
    (sym (numbered_order d.setting d.history (sym c.most_open.ensures ∙ c.if-most_open-eq0.true)))
    (resuming_found d.setting d.history c.args.worker c.args.level c.open_pieces-pieces.result.now c.open_pieces-pieces.ensures.lists (λ p. p)
    c.least_served.result (listed_least (serves_at d.setting d.history c.args.worker c.args.level) c.open_pieces-pieces.result.now c.least_served.result
    c.least_served.ensures.listed c.least_served.ensures.least)).0

pub returns-then-most_open-eq0-clause-within : goal.returns-then-most_open-eq0-clause-within
returns-then-most_open-eq0-clause-within c =
    let d = c.args.self.now in
    (resuming_found d.setting d.history c.args.worker c.args.level c.open_pieces-pieces.result.now c.open_pieces-pieces.ensures.lists (λ p. p)
    c.least_served.result (listed_least (serves_at d.setting d.history c.args.worker c.args.level) c.open_pieces-pieces.result.now c.least_served.result
    c.least_served.ensures.listed c.least_served.ensures.least)).1

pub returns-else-most_open-eq0-clause-first : goal.returns-else-most_open-eq0-clause-first
returns-else-most_open-eq0-clause-first c =
    let d = c.args.self.now in
    subst (λ (rank : ℕ → ℕ). FindsLeast (resumes_at d.setting d.history c.args.worker c.args.level) rank 0 (piece_count d.setting.torrent)
    c.rarest_served.result)
    (sym (rarity_order d.setting d.history (λ none. c.if-most_open-eq0.false (c.most_open.ensures ∙ none))))
    (resuming_found d.setting d.history c.args.worker c.args.level c.open_pieces-pieces.result.now c.open_pieces-pieces.ensures.lists
    (order_of d.setting d.history true 0) c.rarest_served.result c.rarest_served.ensures).0

pub returns-else-most_open-eq0-clause-within : goal.returns-else-most_open-eq0-clause-within
returns-else-most_open-eq0-clause-within c =
    let d = c.args.self.now in
    (resuming_found d.setting d.history c.args.worker c.args.level c.open_pieces-pieces.result.now c.open_pieces-pieces.ensures.lists
    (order_of d.setting d.history true 0) c.rarest_served.result c.rarest_served.ensures).1
