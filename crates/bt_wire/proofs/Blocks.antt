-- A block's message in the parts that its reader cuts.
use Rattle.std.proofs.Common.{◌≡◌, ℕ, List, ◌∷◌, ◌++◌, ◌<◌, ◌≤◌, ◌+◌, ◌^◌, length, take, ap, refl, arith}
use Rattle.std.proofs.Math.Seq.{take-append-add}
use Rattle.std.proofs.lemmas.List.{length-take-le}
use Rattle.bt_wire.specs.Blocks.{IsBlockFront}
use Rattle.bt_wire.specs.Messages.{number}

-- what stands in front of the block
abbrev head : ℕ → ℕ → ℕ → List ℕ
head len piece begin = number len ++ (7 ∷ (number piece ++ number begin))

-- a length, the type, the two numbers, and a block of that length at least
block_front : (limit piece begin count : ℕ) (block : List ℕ) → piece < 2 ^ 32 → begin < 2 ^ 32 → count ≤ length block → 9 + count ≤ limit →
    IsBlockFront limit (head (9 + count) piece begin ++ block) piece begin (13 + count)
block_front limit piece begin count block fits also enough short =
    let len : length (take count block) ≡ count = length-take-le count block enough in
    let cut : take (13 + count) (head (9 + count) piece begin ++ block) ≡ head (9 + count) piece begin ++ take count block =
    take-append-add (head (9 + count) piece begin) block count in
    record {
      head = omega arith;
      whole = omega (arith, enough);
      spells = rw cut (
        (7 ∷ (number piece ++ (number begin ++ take count block))),
        (((fits, also), refl), omega (arith, len, short), ap (λ n. head n piece begin ++ take count block) (omega (arith, len))),
      );
    }

-- the same, with each part as it was cut
pub stands : (limit len kind piece begin count : ℕ) (bytes body fields rest block : List ℕ) → bytes ≡ number len ++ body → body ≡ kind ∷ fields →
    fields ≡ number piece ++ rest → rest ≡ number begin ++ block → kind ≡ 7 → len ≡ 9 + count → piece < 2 ^ 32 → begin < 2 ^ 32 →
    count ≤ length block → len ≤ limit → IsBlockFront limit bytes piece begin (13 + count)
stands limit len kind piece begin count bytes body fields rest block whole first second third type sum fits also enough short =
    rw (whole, first, second, third, type, sum) (block_front limit piece begin count block fits also enough (rw sum at short))
