-- What a check of a piece looked at.
use Rattle.std.specs.Prelude.{◌≡◌, ◌<◌, ℕ, List, length, map}
use Rattle.std.specs.List.{concat}
use Rattle.sha1.specs.Sha1.{sha1}
use Rattle.bt_meta.specs.Layout.{Layout, hash_of, piece_count}

-- a piece, and the blocks of it that were hashed
pub record Checked : Type 0 where
  pub piece : ℕ
  pub blocks : List (List ℕ)

-- how long each of the blocks is
abbrev pub lengths : List (List ℕ) → List ℕ
lengths blocks = map (λ block. length block) blocks

-- the bytes that were hashed
abbrev pub joined : Checked → List ℕ
joined v = concat v.blocks

-- their SHA-1
abbrev pub digest_of : Checked → List ℕ
digest_of v = sha1 (joined v)

-- the piece is one of the torrent's, and what was hashed has its hash
abbrev pub Fits : Layout → Checked → Type 0
Fits t v = (v.piece < piece_count t) × (digest_of v ≡ hash_of t v.piece)
