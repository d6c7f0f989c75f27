-- Bytes in hexadecimal, one after the other.
use Rattle.std.proofs.Common.{◌≡◌, ◌<◌, ◌+◌, ◌∙◌, ℕ, List, [], ◌∷◌, ◌++◌, length, take, refl, ap}
use Rattle.std.proofs.lemmas.List.{take_more}
use Rattle.std.specs.Prelude.{slice_index, slice_index_or, ◌/◌, ◌%◌}
use Rattle.hex.specs.Hex.{encode_lower, encode_with, lower_digits}

pub encode_with-nil : (digits : List ℕ) → encode_with digits [] ≡ []
unfolding encode_with
encode_with-nil digits = refl

pub encode_with-append : (digits xs ys : List ℕ) → encode_with digits (xs ++ ys) ≡ encode_with digits xs ++ encode_with digits ys
unfolding encode_with
encode_with-append digits [] ys = refl
encode_with-append digits (x ∷ xs) ys =
    ap (λ (rest : List ℕ). slice_index digits (x / 16) ∷ slice_index digits (x % 16) ∷ rest) (encode_with-append digits xs ys)

-- one more byte
pub encode_lower-more : (bytes : List ℕ) (i d : ℕ) → i < length bytes
    → encode_lower (take (i + 1) bytes) ≡ encode_lower (take i bytes) ++ encode_lower (slice_index_or bytes i d ∷ [])
encode_lower-more bytes i d within = ap encode_lower (take_more bytes i d within)
    ∙ encode_with-append lower_digits (take i bytes) (slice_index_or bytes i d ∷ [])
