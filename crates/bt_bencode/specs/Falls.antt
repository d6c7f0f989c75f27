-- Each child is less deep than its parent.
use Rattle.std.specs.Prelude.{ℕ, suc, List, [], ◌∷◌, ◌≤◌, ◌+◌, max}
use Rattle.std.proofs.Common.{Vec, arith}
use Rattle.std.specs.Global.{Global}
use denote.Param.Weighed.{most}
use Rattle.bt_bencode.specs.declared.span.Span.{Span}
use Rattle.bt_bencode.specs.declared.tree.Node.{Node}
use Rattle.bt_bencode.specs.declared.tree.Node.TheVariants as node
use Rattle.bt_bencode.specs.declared.tree.Tree.TheDeep.{deep-Node}
use Rattle.bt_bencode.specs.declared.tree.Tree.TheShapes.{weighed-Node-Dict-0-at-2}
use Rattle.bt_bencode.specs.Term.{Term, depth, depth_of_terms, depth_of_entries}
use Rattle.bt_bencode.specs.View.{term, terms_from, entries_from}

-- items are less deep than their list
pub most_of_terms : (ts : List Term) → most (λ t. depth t + 1) ts ≤ suc (depth_of_terms (terms_from ts))
most_of_terms [] = omega arith
most_of_terms (t ∷ ts) = omega (arith, most_of_terms ts)

-- values are less deep than their dictionary
pub most_of_entries : (w : Vec ℕ Global × Term → ℕ) → ((e : Vec ℕ Global × Term) → w e ≤ depth e.1 + 1) →
    (es : List (Vec ℕ Global × Term)) → most w es ≤ suc (depth_of_entries (entries_from es))
most_of_entries w h [] = omega arith
most_of_entries w h (e ∷ es) = omega (arith, h e, most_of_entries w h es)

-- a node is as deep as its term
pub child_depth : (s : Span) (n : Node) → max (deep-Node n) 0 ≤ depth (term s n)
child_depth s (node.Int n) = omega arith
child_depth s (node.Text n) = omega arith
child_depth s (node.List v) = omega (arith, most_of_terms v.items)
child_depth s (node.Dict v) = omega
    (arith, most_of_entries ((weighed-Node-Dict-0-at-2).weight Term (λ y. depth y + 1)) (λ e. omega arith) v.items)
