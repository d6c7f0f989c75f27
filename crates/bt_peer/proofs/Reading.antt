-- Bytes read to the room behind others.
use Rattle.std.proofs.Common.{◌≡◌, ℕ, List, ◌++◌, ◌≤◌, ◌+◌, ◌-◌, length, take, drop, ap, ◌∙◌, append_assoc, arith}
use Rattle.std.proofs.Math.Seq.{take-append-add}
use Rattle.std.proofs.lemmas.List.{take-take, take-append-le, length-drop, length-take-le}

-- the room behind the first bytes is all the others
pub room_behind : (lent : List ℕ) (len : ℕ) → length (take (length lent - len) (drop len lent)) ≡ length lent - len
room_behind lent len = length-take-le (length lent - len) (drop len lent) (omega (arith, length-drop len lent))

-- a front of the room behind the old bytes
front_of_room : (old room post rest : List ℕ) (count : ℕ) → count ≤ length room →
    take (length old + count) ((old ++ (room ++ post)) ++ rest) ≡ old ++ take count room
front_of_room old room post rest count enough =
    ap (take (length old + count)) (append_assoc old (room ++ post) rest) ∙ take-append-add old ((room ++ post) ++ rest) count
    ∙ ap (λ (xs : List ℕ). old ++ xs) (ap (take count) (append_assoc room post rest) ∙ take-append-le count room (post ++ rest) enough)

-- room that a read filled in part, cut back to what came
pub cut_back : (held lent old room post rest : List ℕ) (len count : ℕ) → lent ≡ held → take (length old) held ≡ old → len ≡ length old →
    count ≤ length room → len + count ≤ length held →
    take (len + count) (take (length held) ((take len lent ++ (room ++ post)) ++ rest)) ≡ old ++ take count room
cut_back held lent old room post rest len count same front is enough fits =
    take-take (len + count) (length held) ((take len lent ++ (room ++ post)) ++ rest) fits
    ∙ rw (same, is, front) (front_of_room old room post rest count enough)
