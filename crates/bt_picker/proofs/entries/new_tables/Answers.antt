use Rattle.std.proofs.Common.{◌≡◌, ℕ, ◌+◌, ◌<◌, [], Result, Ok, Err, IfOk, subst, sym}
use Rattle.bt_meta.specs.Layout.{Layout, IsLayout, block_count, piece_count}
use Rattle.bt_history.specs.declared.rules.Rules.{Rules}
use Rattle.bt_history.specs.declared.rules.TheConstants.{MOST_LEVEL}
use Rattle.bt_history.specs.Counting.{table}
use Rattle.bt_history.specs.Setting.{Setting, deepest_line, setting_of}
use Rattle.bt_tables.specs.declared.cell.TheConstants.{HELD}
use Rattle.bt_tables.specs.Tables.{TablesState, fresh_peer, fresh_piece}
use Rattle.bt_picker.specs.Tables.{AreTables}
use Rattle.bt_picker.proofs.Fresh.{tables_fresh}
use Rattle.bt_picker.proofs.entries.new_tables.Goals as goal

-- tables with the fresh rows are those of the empty history
fresh_are : {E : Type 0} (t : Layout) (n : ℕ) (rules : Rules) (r : Result TablesState E)
    → IfOk r (λ x. x.setting ≡ setting_of t n rules) → IfOk r (λ x. IsLayout x.setting.torrent) → IfOk r (λ x. x.order_from ≡ MOST_LEVEL + 1)
    → IfOk r (λ x. x.peers ≡ table n (λ q. fresh_peer (deepest_line (setting_of t n rules)) (piece_count t)))
    → IfOk r (λ x. x.pieces ≡ table (piece_count t) (λ p. fresh_piece (block_count t p)))
    → n < HELD → IfOk r (λ x. AreTables x [])
fresh_are t n rules (Ok x) setting layout unordered peers pieces few =
    let fresh : TablesState = record {
      setting = setting_of t n rules;
      order_from = MOST_LEVEL + 1;
      peers = table n (λ q. fresh_peer (deepest_line (setting_of t n rules)) (piece_count t));
      pieces = table (piece_count t) (λ p. fresh_piece (block_count t p));
    } in
    let is : fresh ≡ x =
    λ i. record { setting = sym setting i; order_from = sym unordered i; peers = sym peers i; pieces = sym pieces i } in
    let there : IsLayout t = subst (λ (s : Setting). IsLayout s.torrent) setting layout in
    subst (λ (y : TablesState). AreTables y []) is (tables_fresh t n rules there few)
fresh_are t n rules (Err e) setting layout unordered peers pieces few = tt

pub returns-clause-are : goal.returns-clause-are
returns-clause-are c =
    fresh_are c.args.torrent.value.layout c.args.workers c.args.rules c.new.result c.new.ensures.setting c.new.ensures.layout
    c.new.ensures.order c.new.ensures.peers
    c.new.ensures.pieces c.requires.workers
