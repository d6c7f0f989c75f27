-- How deep a tree may be, and that no part of it is deeper than the whole.
use Rattle.std.proofs.Common.{◌≡◌, ℕ, zero, suc, ◌≤◌, ◌<◌, List, [], ◌∷◌, length, get_or, arith, ap, refl, Vec}
use Rattle.std.specs.Global.{Global}
use Rattle.bt_bencode.specs.declared.tree.TheConstants.{MAX_DEPTH}
use Rattle.bt_bencode.specs.Term.{Term, depth, depth_of_terms, depth_of_entries}
use Rattle.bt_bencode.specs.View.{terms_from, entries_from}

at_item : (ts : List Term) (i : ℕ) (d : Term) → i < length ts → depth (get_or ts i d) ≤ depth_of_terms (terms_from ts)
at_item [] i d h = absurd (omega arith)
at_item (t ∷ ts) zero d h = omega arith
at_item (t ∷ ts) (suc i) d h = omega (arith, at_item ts i d (omega arith))

at_entry : (es : List (Vec ℕ Global × Term)) (i : ℕ) (d : Vec ℕ Global × Term) → i < length es →
    depth ((get_or es i d).1) ≤ depth_of_entries (entries_from es)
at_entry [] i d h = absurd (omega arith)
at_entry (e ∷ es) zero d h = omega arith
at_entry (e ∷ es) (suc i) d h = omega (arith, at_entry es i d (omega arith))

pub depth_of_item : (ts : List Term) (i : ℕ) (t : Term) → i < length ts → t ≡ get_or ts i t → depth t ≤ depth_of_terms (terms_from ts)
depth_of_item ts i t h e = omega (arith, ap depth e, at_item ts i t h)

pub depth_of_value : (es : List (Vec ℕ Global × Term)) (i : ℕ) (x : Vec ℕ Global × Term) → i < length es → x ≡ get_or es i x →
    depth x.1 ≤ depth_of_entries (entries_from es)
depth_of_value es i x h e = omega (arith, ap (λ (y : Vec ℕ Global × Term). depth y.1) e, at_entry es i x h)
