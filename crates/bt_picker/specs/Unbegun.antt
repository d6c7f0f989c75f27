-- Which pieces are yet to be begun, and how many blocks are yet to be asked.
use Rattle.std.specs.Prelude.{ℕ, ◌≡◌, ◌<◌, ◌&&◌, ◌==◌, Bool, true, List, length, slice_index_or}
use Rattle.bt_history.specs.Setting.{Setting, count_blocks}
use Rattle.bt_history.specs.History.{History}
use Rattle.bt_history.specs.Pieces.{availability, level, unasked, unbegun, wanted}

-- piece p is wanted and yet to be begun, its level is l, and n joined peers show it
abbrev pub is_unbegun_at : Setting → History → ℕ → ℕ → ℕ → Bool
is_unbegun_at s h l n p = (wanted s h p && (level h p == l)) && (unbegun s h p && (availability s h p == n))

-- the list has each such piece once, and no other
pub record ListsUnbegun (s : Setting) (h : History) (l n : ℕ) (pieces : List ℕ) : Type 0 where
  pub each : (i : ℕ) → i < length pieces → is_unbegun_at s h l n (slice_index_or pieces i 0) ≡ true
  pub all : (p : ℕ) → is_unbegun_at s h l n p ≡ true → (i : ℕ) × (i < length pieces) × (slice_index_or pieces i 0 ≡ p)
  pub once : (i j : ℕ) → i < j → j < length pieces → slice_index_or pieces i 0 ≡ slice_index_or pieces j 0 → ⊥

-- how many blocks of wanted pieces are neither held nor asked of a peer
abbrev pub unasked_count : Setting → History → ℕ
unasked_count s h = count_blocks s.torrent (λ b. wanted s h b.piece && unasked s h b)
