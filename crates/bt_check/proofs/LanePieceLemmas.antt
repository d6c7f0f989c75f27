-- The pieces of four messages, and their parts.
use Rattle.std.proofs.Common.{◌≡◌, ℕ, ◌-◌, ◌<◌, List, ◌++◌, length, take, drop, refl, ap, ◌∙◌}
use Rattle.std.proofs.lemmas.List.{append_assoc, take-append-drop, take_rest}
use Rattle.bt_check.specs.Lanes.{bytes_of}
use Rattle.bt_check.proofs.VectorLemmas.{below_four}

-- pieces of one length
pub length-bytes_of : (a b c d : List ℕ) → length b ≡ length a → length c ≡ length a → length d ≡ length a
    → (j : ℕ) → j < 4 → length (bytes_of j a b c d) ≡ length a
length-bytes_of a b c d = below_four (λ j. length (bytes_of j a b c d) ≡ length a) refl

-- n bytes of each lane
pub bytes_of-block : (at n : ℕ) (a b c d : List ℕ) (j : ℕ) → j < 4
    → bytes_of j (take n (drop at a)) (take n (drop at b)) (take n (drop at c)) (take n (drop at d)) ≡ take n (drop at (bytes_of j a b c d))
bytes_of-block at n a b c d = below_four _ refl refl refl refl

-- the bytes of each lane up to one
pub bytes_of-front : (at : ℕ) (a b c d : List ℕ) (j : ℕ) → j < 4
    → bytes_of j (take at a) (take at b) (take at c) (take at d) ≡ take at (bytes_of j a b c d)
bytes_of-front at a b c d = below_four _ refl refl refl refl

-- the bytes of each lane from one on
pub bytes_of-rest : (at : ℕ) (a b c d : List ℕ) (j : ℕ) → j < 4
    → bytes_of j (take (length a - at) (drop at a)) (take (length b - at) (drop at b)) (take (length c - at) (drop at c))
    (take (length d - at) (drop at d))
    ≡ drop at (bytes_of j a b c d)
bytes_of-rest at a b c d = below_four _ (take_rest a at) (take_rest b at) (take_rest c at) (take_rest d at)

-- a message and a piece in two parts
pub append-parts : (at : ℕ) (m d : List ℕ) → (m ++ take at d) ++ drop at d ≡ m ++ d
append-parts at m d = append_assoc m (take at d) (drop at d) ∙ ap (λ x. m ++ x) (take-append-drop at d)
