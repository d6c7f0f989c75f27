-- What is known of a tree that all of the bytes spell: the laws of `tree_of`.
use Rattle.std.proofs.Common.{◌≡◌, ℕ, ◌<◌, ◌^◌, List, length, Ok, Some, Result, Err, sym, ap, ◌∙◌}
use Rattle.std.specs.Prelude.{IfOk}
use Rattle.bt_bencode.specs.declared.fault.BenFault.{BenFault}
use Rattle.bt_bencode.specs.Term.{Term, get, span_of}
use Rattle.bt_bencode.specs.Grammar.{Spells, spelling}
use Rattle.bt_bencode.specs.Placed.{placed, StandsAt}
use Rattle.bt_bencode.specs.Reading.{tree_of}
use Rattle.bt_bencode.proofs.Parts.{part_stands}
use Rattle.bt_bencode.proofs.Laws.{tree_again}
use Rattle.bt_bencode.proofs.ValuesTake.{tree_takes}
use Rattle.bt_bencode.proofs.ValuesSound.{tree_sound}

pub record IsRead (source : List ℕ) (t : Term) : Type 0 where
  pub spells : Spells t source
  pub spans : placed 0 t ≡ t
  pub parts : (key : List ℕ) (part : Term) → get t key ≡ Some part → StandsAt source (span_of part) (spelling part)

pub tree_read : (source : List ℕ) (t : Term) → length source < 2 ^ 64 → tree_of source ≡ Ok t → IsRead source t
tree_read source t small given =
    let taken = tree_takes source t small given in
    record {
      spells = record { is_tree = tree_sound source t small given; spelled = taken.0 };
      spans = taken.1;
      parts = λ key part is. part_stands t part key source taken.1 taken.0 is;
    }

-- the spelling of a tree is read as that tree
pub spelled_again : (source : List ℕ) (t : Term) → Spells t source → tree_of source ≡ Ok (placed 0 t)
spelled_again source t spells = ap tree_of (sym spells.spelled) ∙ tree_again t spells.is_tree

pub each_ok : (P Q : Term → Type 0) (r : Result Term BenFault) → ((t : Term) → P t → Q t) → IfOk r P → IfOk r Q
each_ok P Q (Ok t) f h = f t h
each_ok P Q (Err fault) f h = tt

-- a result that is what is read
pub result_read : (source : List ℕ) (r : Result Term BenFault) → length source < 2 ^ 64 → r ≡ tree_of source → IfOk r (λ t. IsRead source t)
result_read source (Ok t) small given = tree_read source t small (sym given)
result_read source (Err fault) small given = tt
