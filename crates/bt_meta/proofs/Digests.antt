-- Digests that stand one behind the other, cut apart and joined.
use Rattle.std.proofs.Common.{◌≡◌, ℕ, zero, suc, ◌*◌, ◌/◌, ◌%◌, List, [], ◌∷◌, ◌++◌, length, take, drop, refl, ap, arith}
use Rattle.std.specs.Prelude.{All}
use Rattle.std.specs.List.{concat, AllByRecursion}
use Rattle.std.specs.Simd.{first_chunks}
use Rattle.std.proofs.lemmas.List.{length-append, length-take, length-drop, take-append-drop, take_at, drop_at}
use Rattle.std.proofs.lemmas.List.Elements.{All-from_recursion}

-- a digest of 20 bytes
abbrev pub IsDigest : List ℕ → Type 0
IsDigest hash = length hash ≡ 20

nothing : (xs : List ℕ) → length xs ≡ 0 → [] ≡ xs
nothing [] h = refl
nothing (x ∷ xs) h = absurd (omega arith)

pub length-chunks : (k : ℕ) (xs : List ℕ) → length (first_chunks 20 k xs) ≡ k
length-chunks zero xs = refl
length-chunks (suc k) xs = ap (λ (n : ℕ). suc n) (length-chunks k (drop 20 xs))

concat-chunks : (k : ℕ) (xs : List ℕ) → length xs ≡ k * 20 → concat (first_chunks 20 k xs) ≡ xs
concat-chunks zero xs h = nothing xs (omega arith)
concat-chunks (suc k) xs h =
    let rest : length (drop 20 xs) ≡ k * 20 = omega (arith, length-drop 20 xs) in
    rw (concat-chunks k (drop 20 xs) rest) (take-append-drop 20 xs)

chunks_long : (k : ℕ) (xs : List ℕ) → length xs ≡ k * 20 → AllByRecursion IsDigest (first_chunks 20 k xs)
chunks_long zero xs h = tt
chunks_long (suc k) xs h =
    let rest : length (drop 20 xs) ≡ k * 20 = omega (arith, length-drop 20 xs) in
    (omega (arith, length-take 20 xs), chunks_long k (drop 20 xs) rest)

-- bytes that are a row of digests, cut apart
pub record CutApart (bytes : List ℕ) (hashes : List (List ℕ)) : Type 0 where
  pub joined : concat hashes ≡ bytes
  pub digests : All IsDigest hashes
  pub count : length hashes ≡ length bytes / 20

pub chunks_cut : (bytes : List ℕ) → length bytes % 20 ≡ 0 → CutApart bytes (first_chunks 20 (length bytes / 20) bytes)
chunks_cut bytes h =
    let n : ℕ = length bytes / 20 in
    let whole : length bytes ≡ n * 20 = omega arith in
    record {
      joined = concat-chunks n bytes whole;
      digests = All-from_recursion IsDigest (first_chunks 20 n bytes) (chunks_long n bytes whole);
      count = length-chunks n bytes;
    }

-- ---- and joined again

tail_is : (hash : List ℕ) (hashes : List (List ℕ)) → All IsDigest (hash ∷ hashes) → All IsDigest hashes
tail_is hash hashes all = λ k d h. all (suc k) d (omega arith)

pub length-concat : (hashes : List (List ℕ)) → All IsDigest hashes → length (concat hashes) ≡ length hashes * 20
length-concat [] all = refl
length-concat (hash ∷ hashes) all =
    let first : length hash ≡ 20 = all 0 hash (omega arith) in
    omega (arith, length-append hash (concat hashes), length-concat hashes (tail_is hash hashes all))

pub chunks-concat : (hashes : List (List ℕ)) → All IsDigest hashes → first_chunks 20 (length hashes) (concat hashes) ≡ hashes
chunks-concat [] all = refl
chunks-concat (hash ∷ hashes) all =
    let first : length hash ≡ 20 = all 0 hash (omega arith) in
    let front : take 20 (hash ++ concat hashes) ≡ hash = take_at hash (concat hashes) 20 first in
    let back : drop 20 (hash ++ concat hashes) ≡ concat hashes = drop_at hash (concat hashes) 20 first in
    rw (front, back, chunks-concat hashes (tail_is hash hashes all)) refl
