-- What is held of a download of zero bytes.
use Rattle.std.proofs.Common.{◌≡◌, ◌<◌, ◌≤◌, ◌+◌, ◌-◌, ◌*◌, ◌==◌, ◌∙◌, ℕ, zero, suc, Bool, true, false, ◌&&◌, List, [], ◌∷◌, ◌++◌, length, refl, ap}
use Rattle.std.proofs.Common.{Option, None, Some, arith, subst}
use Rattle.std.specs.Prelude.{is_some, min, unwrap_or, if◌then◌else◌}
use Rattle.std.proofs.Math.Nat.{min-eq_left}
use Rattle.std.proofs.lemmas.Bool.{false≢true}
use Rattle.std.proofs.lemmas.List.{replicate-append-replicate}
use Rattle.bt_meta.specs.declared.block.Block.{Block}
use Rattle.bt_meta.specs.Layout.{block, block_count, piece_count, piece_len}
use Rattle.bt_history.specs.declared.event.Action.{Action}
use Rattle.bt_history.specs.declared.event.Action.TheVariants.{Arrived}
use Rattle.bt_history.specs.declared.event.Event.{Event}
use Rattle.bt_history.specs.Setting.{Setting}
use Rattle.bt_history.specs.History.{History, bytes_for, freed, stored, stores}
use Rattle.bt_history.specs.Legal.{IsLegal}
use Rattle.bt_history.specs.Pieces.{content, content_of_block, full, held, joined_below, kept}
use Rattle.bt_history.proofs.Below.{all_at}
use Rattle.bt_history.proofs.HeldLengths.{held_len}
use Rattle.bench.specs.ZeroBytes.{AllZeros, BringsZeros, IsEven, zeros}

some_same : {A : Type 0} (x y : A) → Some x ≡ Some y → x ≡ y
some_same x y is = cc

-- what an entry stored of a block
stored_zeros : (e : Event) (b : Block) (bytes : List ℕ) → BringsZeros e.action → stored e b ≡ Some bytes → bytes ≡ zeros (length bytes)
stored_zeros e b bytes brings is = by_reply (stores e.reply) e.action brings is where
  by_reply : (x : Bool) (a : Action) → BringsZeros a → (if x then bytes_for b a else None) ≡ Some bytes → bytes ≡ zeros (length bytes)
  by_reply false a brings is = absurd (cc is)
  by_reply true (Arrived p begin more) brings is = by_test ((p == b.piece) && (begin == b.begin)) is where
    by_test : (y : Bool) → (if y then Some more else None) ≡ Some bytes → bytes ≡ zeros (length bytes)
    by_test true is = subst (λ (l : List ℕ). l ≡ zeros (length l)) (some_same more bytes is) brings
    by_test false is = absurd (cc is)
  by_reply true _ brings is = absurd (cc is)

kept_zeros : (h : History) (b : Block) (bytes : List ℕ) → AllZeros h → kept h b ≡ Some bytes → bytes ≡ zeros (length bytes)
unfolding kept
kept_zeros [] b bytes all is = absurd (cc is)
kept_zeros (e ∷ h) b bytes all is = by_entry (λ older. kept_zeros h b bytes all.1 older) (freed e b) (stored e b) refl is where
  by_entry : (kept h b ≡ Some bytes → bytes ≡ zeros (length bytes)) → (frees : Bool) (o : Option (List ℕ)) → stored e b ≡ o
      → (if frees then None else if is_some o then o else kept h b) ≡ Some bytes → bytes ≡ zeros (length bytes)
  by_entry before true o here is = absurd (cc is)
  by_entry before false None here is = before is
  by_entry before false (Some x) here is = stored_zeros e b bytes all.0 (here ∙ is)

-- a block that is held
block_zeros : (s : Setting) (h : History) (p k : ℕ) → IsLegal s h → AllZeros h → held h (block s.torrent p k) ≡ true
    → content_of_block h (block s.torrent p k) ≡ zeros (block s.torrent p k).len
block_zeros s h p k legal all holds = by_kept (kept h (block s.torrent p k)) refl holds where
  by_kept : (o : Option (List ℕ)) → kept h (block s.torrent p k) ≡ o → is_some o ≡ true → unwrap_or o [] ≡ zeros (block s.torrent p k).len
  by_kept None is some = absurd (false≢true some)
  by_kept (Some bytes) is some =
      kept_zeros h (block s.torrent p k) bytes all is ∙ ap zeros (held_len s h legal p k bytes is)

-- whole blocks of zeros, joined
joined_zeros : (n : ℕ) (f : ℕ → List ℕ) → ((k : ℕ) → k < n → f k ≡ zeros 16384) → joined_below n f ≡ zeros (16384 * n)
joined_zeros zero f each = refl
joined_zeros (suc n) f each =
    (λ i. joined_zeros n f (λ k lk. each k (omega (arith, lk))) i ++ each n (omega arith) i)
    ∙ (replicate-append-replicate (16384 * n) 16384 0 ∙ ap zeros (grows n))
  where
    grows : (m : ℕ) → 16384 * m + 16384 ≡ 16384 * suc m
    grows m = omega arith

-- a full piece of an even download
pub content_zeros : (s : Setting) (h : History) (p : ℕ) → IsLegal s h → IsEven s.torrent → AllZeros h → p < piece_count s.torrent → full s h p ≡ true
    → content s h p ≡ zeros 262144
content_zeros s h p legal even all lp is_full =
    let t = s.torrent in
    let room : 262144 ≤ t.total - p * t.piece_length = rw even.pieces (omega (arith, lp, even.whole)) in
    let long : piece_len t p ≡ 262144 =
    ap (λ (n : ℕ). min n (t.total - p * t.piece_length)) even.pieces ∙ min-eq_left room in
    let count : block_count t p ≡ 16 = omega (arith, long) in
    let whole : (k : ℕ) → k < 16 → (block t p k).len ≡ 16384 = λ k lk. min-eq_left (omega (arith, lk, long)) in
    ap (λ (n : ℕ). joined_below n (λ k. content_of_block h (block t p k))) count
    ∙ joined_zeros 16 (λ k. content_of_block h (block t p k)) (λ k lk.
    block_zeros s h p k legal all (all_at (block_count t p) (λ j. held h (block t p j)) k is_full (omega (arith, lk, count)))
    ∙ ap zeros (whole k lk))
