-- The content of a piece that is had has the piece's length.
use Rattle.std.proofs.Common.{◌≡◌, ℕ, zero, suc, ◌*◌, ◌<◌, ◌-◌, min, true, List, [], length, Option, Some, None, refl, arith, length-append}
use Rattle.std.specs.Prelude.{is_some, unwrap_or}
use Rattle.bt_meta.specs.Layout.{block, block_count, block_size, piece_len}
use Rattle.bt_history.specs.History.{History}
use Rattle.bt_history.specs.Legal.{IsLegal}
use Rattle.bt_history.specs.Pieces.{content, content_of_block, had, joined_below, kept}
use Rattle.bt_history.specs.Setting.{Setting}
use Rattle.bt_history.proofs.HeldLaws.{had_full}
use Rattle.bt_history.proofs.HeldLengths.{held_len}

of_kept : (o : Option (List ℕ)) (n : ℕ) → is_some o ≡ true → ((bytes : List ℕ) → o ≡ Some bytes → length bytes ≡ n)
    → length (unwrap_or o []) ≡ n
of_kept None n is len = absurd (cc is)
of_kept (Some bytes) n is len = len bytes refl

-- the first n blocks of a piece, each of its length
joined_len : (l n : ℕ) (bytes : ℕ → List ℕ) → ((k : ℕ) → k < n → length (bytes k) ≡ min block_size (l - block_size * k))
    → length (joined_below n bytes) ≡ min (block_size * n) l
joined_len l zero bytes each = omega arith
joined_len l (suc n) bytes each =
    let before = joined_len l n bytes (λ k lk. each k (omega arith)) in
    let here = each n (omega arith) in
    omega (arith, length-append (joined_below n bytes) (bytes n), before, here)

pub content_len : (s : Setting) (h : History) (p : ℕ) → IsLegal s h → had h p ≡ true
    → length (content s h p) ≡ piece_len s.torrent p
content_len s h p legal is =
    let l = piece_len s.torrent p in let n = block_count s.torrent p in
    let bytes : ℕ → List ℕ = λ k. content_of_block h (block s.torrent p k) in
    let joined = joined_len l n bytes (λ k lk. of_kept (kept h (block s.torrent p k)) (block s.torrent p k).len
    (had_full s h p k legal is lk) (held_len s h legal p k)) in
    omega (arith, joined)
