-- How the lanes follow four messages as they grow.
use Rattle.std.proofs.Common.{◌≡◌, ℕ, ◌+◌, ◌-◌, ◌*◌, ◌/◌, ◌%◌, ◌^◌, ◌<◌, ◌≤◌, List, ◌∷◌, ◌++◌, length, take, drop, replicate}
use Rattle.std.proofs.Common.{refl, sym, ap, ◌∙◌, arith, length-append, length-drop}
use Rattle.std.proofs.lemmas.List.{append_assoc, take_all, take_rest, length-take-le}
use Rattle.std.specs.Int.{w64, to_be_bytes}
use Rattle.sha1.specs.Sha1.{IsAbsorbed, padded_message, digest_bytes, compress, sha1}
use Rattle.sha1.proofs.Absorbing.{IsAbsorbed_short, IsAbsorbed_fill, total_append}
use Rattle.bt_check.specs.Lanes.{bytes_of, variables}
use Rattle.bt_check.specs.Holding.{Absorbs, HoldsIn, Holds}
use Rattle.bt_check.specs.declared.four.FourDigests.{FourDigests}
use Rattle.bt_check.proofs.LanePieceLemmas.{bytes_of-front, bytes_of-rest, length-bytes_of, append-parts}

-- bytes that leave the tail short of a block
pub IsAbsorbed_put : (h b c m d : List ℕ) (at n : ℕ) → IsAbsorbed h b m → at ≡ length m % 64 → length d ≡ n → at + n < 64
    → take (at + n) c ≡ take at b ++ d → IsAbsorbed h c (m ++ d)
IsAbsorbed_put h b c m d at n held place long short e =
    IsAbsorbed_short h b c m d held (omega arith) (rw (← place, long) e)

-- bytes that fill the tail
pub IsAbsorbed_full : (h b c m d : List ℕ) (n : ℕ) → IsAbsorbed h b m → length m % 64 + n ≡ 64 → length d ≡ n → length c ≡ 64
    → take (64 - n + n) c ≡ take (64 - n) b ++ d → IsAbsorbed (compress h c) c (m ++ d)
IsAbsorbed_full h b c m d n held full long whole e =
    let at : 64 - n ≡ length m % 64 = omega arith in
    let all : take (64 - n + n) c ≡ c = take_all (64 - n + n) c (omega arith) in
    IsAbsorbed_fill h b c m d c held (omega arith) (rw at at (sym all ∙ e))

-- the bytes behind the last whole block of a lane's piece
module _ (a b c d : List ℕ) (j : ℕ) (lt : j < 4) (long : length (bytes_of j a b c d) ≡ length a) where
  pub IsAbsorbed_rest : (h t t' m : List ℕ) (w : ℕ) → w ≡ 64 * (length a / 64) → length m % 64 ≡ 0
      → IsAbsorbed h t (m ++ take w (bytes_of j a b c d))
      → take (0 + length (take (length a - w) (drop w a))) t' ≡ take 0 t
      ++ bytes_of j (take (length a - w) (drop w a)) (take (length b - w) (drop w b)) (take (length c - w) (drop w c))
      (take (length d - w) (drop w d))
      → IsAbsorbed h t' (m ++ bytes_of j a b c d)
  IsAbsorbed_rest h t t' m w blocks edge held e =
      let bytes = bytes_of j a b c d in
      let front : length (m ++ take w bytes) ≡ length m + w = rw (length-append m (take w bytes), length-take-le w bytes (omega arith)) refl in
      let left : length (drop w bytes) ≡ length (take (length a - w) (drop w a)) =
      rw (take_rest a w, length-drop w bytes, length-drop w a, long) refl in
      rw (← append-parts w m bytes)
      (IsAbsorbed_put h t t' (m ++ take w bytes) (drop w bytes) 0 _ held (omega arith) left (omega (arith, length-drop w bytes))
      (rw (← bytes_of-rest w a b c d j lt) e))

  -- a message that a first part of the piece brings to whole blocks
  pub edge-front : (m : List ℕ) (at : ℕ) → at ≤ length a → (length m + at) % 64 ≡ 0
      → length (m ++ bytes_of j (take at a) (take at b) (take at c) (take at d)) % 64 ≡ 0
  edge-front m at fits edge =
      rw (bytes_of-front at a b c d j lt, length-append m (take at (bytes_of j a b c d)), length-take-le at (bytes_of j a b c d) (omega arith)) edge

  -- a piece in two parts
  pub Absorbs_parts : (s : FourDigests) (m : List ℕ) (at : ℕ)
      → Absorbs s j ((m ++ bytes_of j (take at a) (take at b) (take at c) (take at d))
      ++ bytes_of j (take (length a - at) (drop at a)) (take (length b - at) (drop at b)) (take (length c - at) (drop at c))
      (take (length d - at) (drop at d)))
      → Absorbs s j (m ++ bytes_of j a b c d)
  Absorbs_parts s m at held =
      rw (bytes_of-front at a b c d j lt, bytes_of-rest at a b c d j lt, append-parts at m (bytes_of j a b c d)) at held

-- four messages that grow by pieces of one length
pub Holds_append : (s s' : FourDigests) (a b c d : List ℕ) → length b ≡ length a → length c ≡ length a → length d ≡ length a
    → s'.total ≡ (s.total + length a) % 2 ^ 64
    → ((j : ℕ) (m : List ℕ) → j < 4 → length (bytes_of j a b c d) ≡ length a → s.total % 64 ≡ length m % 64 → Absorbs s j m
    → Absorbs s' j (m ++ bytes_of j a b c d))
    → (k l m n : List ℕ) → Holds s k l m n → Holds s' (k ++ a) (l ++ b) (m ++ c) (n ++ d)
unfolding Holds
Holds_append s s' a b c d lb lc ld total each k l m n held =
    let lane : (j : ℕ) (x : List ℕ) → j < 4 → HoldsIn s j x → HoldsIn s' j (x ++ bytes_of j a b c d) =
    λ j x lt before.
    let long = length-bytes_of a b c d lb lc ld j lt in
    let count : s.total ≡ length x % 2 ^ 64 = before.0 in
    (total_append s.total s'.total x (bytes_of j a b c d) count (rw long total), each j x lt long (omega arith) before.1) in
    (lane 0 k (omega arith) held.0, lane 1 l (omega arith) held.1, lane 2 m (omega arith) held.2, lane 3 n (omega arith) held.3)

-- the digest of a lane, once its message was padded
HoldsIn_digest : (s s' : FourDigests) (j : ℕ) (m p b : List ℕ) → HoldsIn s j m → HoldsIn s' j ((m ++ p) ++ b)
    → p ≡ 0x80 ∷ replicate ((119 - s.total % 64) % 64) 0 → b ≡ to_be_bytes w64 (s.total * 8 % 2 ^ 64)
    → digest_bytes (variables j s'.hashes) 5 ≡ sha1 m
unfolding sha1
HoldsIn_digest s s' j m p b held padded ep eb =
    let total : s.total ≡ length m % 2 ^ 64 = held.0 in
    let used : s.total % 64 ≡ length m % 64 = omega arith in
    let bits : s.total * 8 % 2 ^ 64 ≡ length m * 8 % 2 ^ 64 = omega arith in
    let whole : (m ++ p) ++ b ≡ padded_message m = rw (append_assoc, ep, eb, used, bits) refl in
    ap (λ h. digest_bytes h 5) (rw whole at padded.1.0)

-- the digests of the four messages, once they were padded
pub Holds_digests : (s s' : FourDigests) (k l m n p b : List ℕ) → Holds s k l m n
    → Holds s' ((k ++ p) ++ b) ((l ++ p) ++ b) ((m ++ p) ++ b) ((n ++ p) ++ b)
    → p ≡ 0x80 ∷ replicate ((119 - s.total % 64) % 64) 0 → b ≡ to_be_bytes w64 (s.total * 8 % 2 ^ 64)
    → (digest_bytes (variables 0 s'.hashes) 5 ≡ sha1 k) × (digest_bytes (variables 1 s'.hashes) 5 ≡ sha1 l)
    × (digest_bytes (variables 2 s'.hashes) 5 ≡ sha1 m) × (digest_bytes (variables 3 s'.hashes) 5 ≡ sha1 n)
unfolding Holds
Holds_digests s s' k l m n p b held padded ep eb = (
  HoldsIn_digest s s' 0 k p b held.0 padded.0 ep eb,
  HoldsIn_digest s s' 1 l p b held.1 padded.1 ep eb,
  HoldsIn_digest s s' 2 m p b held.2 padded.2 ep eb,
  HoldsIn_digest s s' 3 n p b held.3 padded.3 ep eb,
)
