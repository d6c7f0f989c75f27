-- The row of a piece that waits for a check has the bytes of each of its blocks.
use Rattle.std.proofs.Common.{◌≡◌, ◌<◌, ℕ, zero, suc, true, false, List, [], ◌∷◌, Option, None, Some, length, get_or, refl, ap, sym, ◌∙◌, arith}
use Rattle.std.specs.Prelude.{◌&&◌, is_some, nat_eq, nat_lt, not, unwrap_or}
use Rattle.std.specs.List.{concat}
use Rattle.std.specs.Bool.{Decides}
use Rattle.std.specs.Cmp.Lexicographic.{bytes_decides, pointwise_decides}
use lib.Pointwise.{pointwise}
use Rattle.std.proofs.lemmas.Bool.{and_parts, ltb-true, not-true, false≢true}
use Rattle.std.proofs.lemmas.List.{get_or_default}
use Rattle.bt_meta.specs.Layout.{Layout, block, block_count, piece_count}
use Rattle.bt_history.specs.History.{History}
use Rattle.bt_history.specs.Legal.{IsLegal}
use Rattle.bt_history.specs.Pieces.{content, content_of_block, full, had, held, kept}
use Rattle.bt_history.specs.Setting.{Setting}
use Rattle.bt_history.proofs.Below.{all_at}
use Rattle.bt_history.proofs.HeldLengths.{held_len}
use Rattle.bt_picker.specs.Checks.{blocks_of, waits}
use Rattle.bt_picker.proofs.Checking.{concat_table}
use Rattle.bt_picker.proofs.Tabled.{table_from}
use Rattle.bt_picker.specs.Stashes.{IsStash, Rows, with_room}

-- each block has a byte
some_byte : (t : Layout) (p k : ℕ) → k < block_count t p → 0 < (block t p k).len
some_byte t p k lk = omega (arith, lk)

-- a block that is held isn't empty
held_some : (s : Setting) (h : History) (p k : ℕ) → IsLegal s h → k < block_count s.torrent p → held h (block s.torrent p k) ≡ true
    → content_of_block h (block s.torrent p k) ≡ [] → ⊥
held_some s h p k legal lk is empty = by_bytes (kept h (block s.torrent p k)) refl is empty where
  by_bytes : (o : Option (List ℕ)) → kept h (block s.torrent p k) ≡ o → is_some o ≡ true → unwrap_or o [] ≡ [] → ⊥
  by_bytes None at some none = false≢true some
  by_bytes (Some bytes) at some none =
      let long = held_len s h legal p k bytes at in
      let byte = some_byte s.torrent p k lk in
      let no_bytes : length bytes ≡ 0 = ap length none in
      omega (arith, long, byte, no_bytes)

-- a piece that waits is one of the torrent, full, and not had
pub waiting_parts : (s : Setting) (h : History) (p : ℕ) → waits s h p ≡ true
    → (p < piece_count s.torrent) × (full s h p ≡ true) × (had h p ≡ false)
waiting_parts s h p waiting =
    let parts = and_parts (nat_lt p (piece_count s.torrent)) (full s h p && not (had h p)) waiting in
    let rest = and_parts (full s h p) (not (had h p)) parts.1 in
    (ltb-true p (piece_count s.torrent) parts.0, rest.0, not-true (had h p) rest.1)

module _ (s : Setting) (h : History) (rows : Rows) (p : ℕ) (is : IsStash s h rows) (legal : IsLegal s h) (waiting : waits s h p ≡ true) where
  -- it has a place for each block
  row_long : length (get_or rows p []) ≡ block_count s.torrent p
  row_long = by_row (get_or rows p []) (block_count s.torrent p) refl refl (is.wide p) where
    by_row : (row : List (List ℕ)) (n : ℕ) → get_or rows p [] ≡ row → block_count s.torrent p ≡ n → length (with_room n row) ≡ n → length row ≡ n
    by_row [] zero at count wide = refl
    by_row [] (suc n) at count wide =
        let parts = waiting_parts s h p waiting in
        let lk : 0 < block_count s.torrent p = omega (arith, count) in
        absurd (held_some s h p 0 legal lk (all_at (block_count s.torrent p) (λ k. held h (block s.torrent p k)) 0 parts.1 lk)
        (sym (is.bytes p 0 parts.0 lk parts.2) ∙ ap (λ (row : List (List ℕ)). get_or row 0 []) at))
    by_row (x ∷ xs) n at count wide = wide

  -- its blocks, in order
  pub waiting_row : get_or rows p [] ≡ blocks_of s h p
  waiting_row =
      let parts = waiting_parts s h p waiting in
      table_from (block_count s.torrent p) (λ k. content_of_block h (block s.torrent p k)) (get_or rows p []) row_long (λ k d lk.
      get_or_default (get_or rows p []) k d [] (rw row_long lk) ∙ is.bytes p k parts.0 lk parts.2)

-- the held blocks, joined, are the content
pub joined_blocks : (s : Setting) (h : History) (p : ℕ) (blocks : List (List ℕ)) → blocks ≡ blocks_of s h p → concat blocks ≡ content s h p
joined_blocks s h p blocks is = ap concat is ∙ concat_table (block_count s.torrent p) (λ k. content_of_block h (block s.torrent p k))

-- whether two lists of blocks are the same
pub same_blocks : (xs ys : List (List ℕ)) → Decides (pointwise (pointwise nat_eq) xs ys) (xs ≡ ys)
same_blocks xs ys = pointwise_decides bytes_decides xs ys
