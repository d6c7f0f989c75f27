-- What an operator on vectors of four words does in each lane.
use Rattle.std.proofs.Common.{◌≡◌, ℕ, zero, suc, ◌<◌, ◌-◌, ◌*◌, ◌/◌, ◌%◌, ◌^◌, List, [], ◌∷◌, length}
use Rattle.std.proofs.Common.{map, slice_index, slice_index_or, slice_set, bit_and, bit_or, bit_xor, arith, refl}
use Rattle.std.specs.Int.{w32, bit_not, rotate_left}
use Rattle.std.specs.Simd.Lanes.{zip2}
use Rattle.std.proofs.lemmas.List.{map-set, length-map}
use Rattle.sha1.specs.Sha1.{ch, parity, maj}
use Rattle.bt_check.specs.Lanes.{lane}

-- what holds of each of the four lanes
pub below_four : (P : ℕ → Type 0) → P 0 → P 1 → P 2 → P 3 → (j : ℕ) → j < 4 → P j
below_four P p0 p1 p2 p3 zero h = p0
below_four P p0 p1 p2 p3 (suc zero) h = p1
below_four P p0 p1 p2 p3 (suc (suc zero)) h = p2
below_four P p0 p1 p2 p3 (suc (suc (suc zero))) h = p3
below_four P p0 p1 p2 p3 (suc (suc (suc (suc n)))) h = absurd (omega arith)

-- what holds of any four words holds of a vector
four_lanes : (P : List ℕ → Type 0) → ((a b c d : ℕ) → P (a ∷ b ∷ c ∷ d ∷ [])) → (x : List ℕ) → length x ≡ 4 → P x
four_lanes P p (a ∷ b ∷ c ∷ d ∷ []) h = p a b c d
four_lanes P p [] h = absurd (omega arith)
four_lanes P p (a ∷ []) h = absurd (omega arith)
four_lanes P p (a ∷ b ∷ []) h = absurd (omega arith)
four_lanes P p (a ∷ b ∷ c ∷ []) h = absurd (omega arith)
four_lanes P p (a ∷ b ∷ c ∷ d ∷ e ∷ x) h = absurd (omega arith)

-- word k of a lane
pub slice_index-lane : (j : ℕ) (xs : List (List ℕ)) (k : ℕ) → slice_index (lane j xs) k ≡ slice_index (slice_index_or xs k []) j
slice_index-lane j [] k = refl
slice_index-lane j (x ∷ xs) zero = refl
slice_index-lane j (x ∷ xs) (suc k) = slice_index-lane j xs k

-- a lane of as many words as there are vectors
pub length-lane : (j : ℕ) (xs : List (List ℕ)) → length (lane j xs) ≡ length xs
length-lane j xs = length-map xs (λ x. slice_index x j)

-- a lane, once a vector was written
pub lane-set : (j : ℕ) (xs : List (List ℕ)) (i : ℕ) (x : List ℕ) → lane j (slice_set xs i x) ≡ slice_set (lane j xs) i (slice_index x j)
lane-set j xs i x = map-set (λ y. slice_index y j) xs i x

-- two shifts and an or are a rotation in each lane
abbrev Rotates : ℕ → List ℕ → Type 0
Rotates k x = (j : ℕ) → j < 4
    → slice_index (zip2 bit_or (zip2 (λ a n. a * 2 ^ n % 2 ^ 32) x (k ∷ k ∷ k ∷ k ∷ []))
    (zip2 (λ a n. a / 2 ^ n) x ((32 - k) ∷ (32 - k) ∷ (32 - k) ∷ (32 - k) ∷ []))) j
    ≡ rotate_left w32 (slice_index x j) k

pub shifts_rotate : (k : ℕ) → 0 < k → k < 32 → (x : List ℕ) → length x ≡ 4 → Rotates k x
shifts_rotate k low high =
    let left : k % 32 ≡ k = omega arith in
    let right : (32 - k) % 32 ≡ 32 - k = omega arith in
    four_lanes (Rotates k) (λ a b c d. below_four _ (rw (left, right) refl) (rw (left, right) refl) (rw (left, right) refl) (rw (left, right) refl))

-- what holds of any words holds of three vectors
three_vectors : (P : List ℕ → List ℕ → List ℕ → Type 0)
    → ((a b c d e f g h i k l m : ℕ) → P (a ∷ b ∷ c ∷ d ∷ []) (e ∷ f ∷ g ∷ h ∷ []) (i ∷ k ∷ l ∷ m ∷ []))
    → (x y z : List ℕ) → length x ≡ 4 → length y ≡ 4 → length z ≡ 4 → P x y z
three_vectors P p x y z lx ly lz =
    four_lanes (λ u. P u y z) (λ a b c d. four_lanes (λ v. P (a ∷ b ∷ c ∷ d ∷ []) v z) (λ e f g h.
    four_lanes (P (a ∷ b ∷ c ∷ d ∷ []) (e ∷ f ∷ g ∷ h ∷ [])) (p a b c d e f g h) z lz) y ly) x lx

-- a choice in each lane
pub slice_index-ch : (x y z : List ℕ) → length x ≡ 4 → length y ≡ 4 → length z ≡ 4 → (j : ℕ) → j < 4
    → slice_index (zip2 bit_xor (zip2 bit_and x y) (zip2 bit_and (map (bit_not w32) x) z)) j
    ≡ ch (slice_index x j) (slice_index y j) (slice_index z j)
slice_index-ch = three_vectors _ (λ a b c d e f g h i k l m. below_four _ refl refl refl refl)

-- a parity in each lane
pub slice_index-parity : (x y z : List ℕ) → length x ≡ 4 → length y ≡ 4 → length z ≡ 4 → (j : ℕ) → j < 4
    → slice_index (zip2 bit_xor (zip2 bit_xor x y) z) j ≡ parity (slice_index x j) (slice_index y j) (slice_index z j)
slice_index-parity = three_vectors _ (λ a b c d e f g h i k l m. below_four _ refl refl refl refl)

-- a majority in each lane
pub slice_index-maj : (x y z : List ℕ) → length x ≡ 4 → length y ≡ 4 → length z ≡ 4 → (j : ℕ) → j < 4
    → slice_index (zip2 bit_xor (zip2 bit_xor (zip2 bit_and x y) (zip2 bit_and x z)) (zip2 bit_and y z)) j
    ≡ maj (slice_index x j) (slice_index y j) (slice_index z j)
slice_index-maj = three_vectors _ (λ a b c d e f g h i k l m. below_four _ refl refl refl refl)

-- a constant in each lane
pub slice_index-splat : (k j : ℕ) → j < 4 → slice_index (k ∷ k ∷ k ∷ k ∷ []) j ≡ k
slice_index-splat k = below_four (λ j. slice_index (k ∷ k ∷ k ∷ k ∷ []) j ≡ k) refl refl refl refl
