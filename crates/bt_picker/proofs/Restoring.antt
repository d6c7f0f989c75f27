-- A piece that a worker's peer brings whole waits for its check, with these bytes.
use Rattle.std.proofs.Common.{◌≡◌, ◌≢◌, ℕ, zero, suc, ◌+◌, ◌-◌, ◌*◌, ◌/◌, ◌<◌, ◌≤◌, ◌==◌, Bool, true, false, not, ◌&&◌, ◌||◌, List, [], ◌∷◌, ◌++◌}
use Rattle.std.proofs.Common.{Option, None, Some, length, take, drop, refl, ap, sym, ◌∙◌, arith, subst, ⊎_elim}
use Rattle.std.specs.Prelude.{is_some, if◌then◌else◌, min, nat_lt, unwrap_or}
use Rattle.std.proofs.lemmas.Bool.{and_parts, and_right, or_parts, not-true, cases_eq, eq-eqb, ne_eqb, lt-ltb}
use Rattle.std.proofs.lemmas.List.{length-drop, length-take, take_all}
use Rattle.std.proofs.Math.Seq.{take-add}
use Rattle.bt_meta.specs.declared.block.Block.{Block}
use Rattle.bt_meta.specs.Layout.{Layout, block, block_count, block_size, piece_count, piece_len}
use Rattle.bt_history.specs.declared.call.Reply.{Reply}
use Rattle.bt_history.specs.declared.call.Reply.TheVariants.{Stored, Completed, Dropped}
use Rattle.bt_history.specs.declared.event.Action.TheVariants.{Arrived}
use Rattle.bt_history.specs.declared.event.Event.{Event}
use Rattle.bt_history.specs.Setting.{Setting, each_block_of, some_block_of}
use Rattle.bt_history.specs.History.{History, bytes_for, counts, freed, is_failed, is_had, stored, stores}
use Rattle.bt_history.specs.Peers.{joined, joined_after}
use Rattle.bt_history.specs.Pieces.{asked_of_some, content, full, had, held, held_or_asked, joined_below, kept, unbegun}
use Rattle.bt_history.specs.Next.{Exactly}
use Rattle.bt_history.specs.Legal.{IsAllowed, Permits, answer_unless, arrived_answer}
use Rattle.bt_history.proofs.Below.{all_found, any_fails}
use Rattle.bt_history.proofs.HeldLaws.{joined_same}
use Rattle.bt_picker.specs.Checks.{arriving, waits}
use Rattle.bt_picker.specs.Positions.{DeskState, Gains}
use Rattle.bt_picker.specs.Restores.{Brings, part}
use Rattle.bt_picker.proofs.Arriving.{arrival_causes, only_there}

-- ---- one block

-- the reply to a block that nobody holds is that it is stored
arrival_stores : (s : Setting) (h : History) (w p k : ℕ) (bytes : List ℕ) (reply : Reply) → IsAllowed s h (arriving w p (block_size * k) bytes reply)
    → joined h w ≡ true → p < piece_count s.torrent → k < block_count s.torrent p → (block s.torrent p k).len ≡ length bytes
    → held h (block s.torrent p k) ≡ false → stores reply ≡ true
unfolding IsAllowed arrived_answer
arrival_stores s h w p k bytes reply allowed peer lp lk len lacking =
    by_cases (some_block_of s.torrent p (λ b. (b.begin == block_size * k) && held h b))
    (each_block_of s.torrent p (λ b. (b.begin == block_size * k) || held h b)) (only_there s.torrent p k (held h) lk ∙ lacking)
    (subst (λ (cause : _). Permits s.torrent (answer_unless cause (arrived_answer s h p (block_size * k))) reply)
    (sym (arrival_causes s h w p (block_size * k) (length bytes) k true peer lp lk refl (eq-eqb (block s.torrent p k).len (length bytes) len)))
    allowed.1)
  where
    by_cases : (x y : Bool) → x ≡ false
        → Permits s.torrent (if x then Exactly (Dropped) else if y then Exactly Completed else Exactly Stored) reply
        → stores reply ≡ true
    by_cases true y none is = absurd (cc none)
    by_cases false true none is = ap stores is
    by_cases false false none is = ap stores is

-- what a store leaves of the blocks of its piece
module _ (s : Setting) (h : History) (w p k : ℕ) (bytes : List ℕ) (reply : Reply) (storing : stores reply ≡ true) where
  abbrev e : Event
  e = arriving w p (block_size * k) bytes reply

  lasts : (b : Block) → freed e b ≡ false
  lasts b = and_right (is_failed reply) false refl

  stored_here : stored e (block s.torrent p k) ≡ Some bytes
  stored_here =
      ap (λ (x : Bool). if x then bytes_for (block s.torrent p k) (Arrived p (block_size * k) bytes) else None) storing
      ∙ (λ i. if eq-eqb p p refl i && eq-eqb (block_size * k) (block_size * k) refl i then Some bytes else None)

  stored_else : (j : ℕ) → j ≢ k → stored e (block s.torrent p j) ≡ None
  stored_else j apart =
      ap (λ (x : Bool). if x then bytes_for (block s.torrent p j) (Arrived p (block_size * k) bytes) else None) storing
      ∙ ap (λ (x : Bool). if x then Some bytes else None)
      (and_right (p == p) (block_size * k == block_size * j) (ne_eqb (block_size * k) (block_size * j) (λ same. apart (omega (arith, same)))))

  kept_here : kept (e ∷ h) (block s.torrent p k) ≡ Some bytes
  unfolding kept
  kept_here =
      ap (λ (x : Bool). if x then None else if is_some (stored e (block s.torrent p k)) then stored e (block s.torrent p k)
      else kept h (block s.torrent p k)) (lasts (block s.torrent p k))
      ∙ ap (λ (o : Option (List ℕ)). if is_some o then o else kept h (block s.torrent p k)) stored_here

  kept_else : (j : ℕ) → j ≢ k → kept (e ∷ h) (block s.torrent p j) ≡ kept h (block s.torrent p j)
  unfolding kept
  kept_else j apart =
      ap (λ (x : Bool). if x then None else if is_some (stored e (block s.torrent p j)) then stored e (block s.torrent p j)
      else kept h (block s.torrent p j)) (lasts (block s.torrent p j))
      ∙ ap (λ (o : Option (List ℕ)). if is_some o then o else kept h (block s.torrent p j)) (stored_else j apart)

  still_joined : joined h w ≡ true → joined (e ∷ h) w ≡ true
  unfolding joined
  still_joined is = by_own (counts reply && (w == w)) where
    by_own : (x : Bool) → joined_after (if x then Some (Arrived p (block_size * k) bytes) else None) (joined h w) ≡ true
    by_own true = is
    by_own false = is

  still_lacking : had h p ≡ false → had (e ∷ h) p ≡ false
  unfolding had
  still_lacking is =
      (λ i. and_right (is_had reply) false refl i || (not (and_right (is_failed reply) false refl i) && had h p)) ∙ is

-- ---- all blocks, one after the other

-- the first n blocks of the piece came, and hold these bytes; no other is held
pub record Bringing (old now : DeskState) (w p : ℕ) (bytes : List ℕ) (n : ℕ) : Type 0 where
  pub setting : now.setting ≡ old.setting
  pub brings : Brings old now w p bytes n
  pub peer : joined now.history w ≡ true
  pub lacking : had now.history p ≡ false
  pub there : (k : ℕ) → k < n → kept now.history (block old.setting.torrent p k) ≡ Some (part bytes (block_size * k))
  pub rest : (k : ℕ) → n ≤ k → k < block_count old.setting.torrent p → held now.history (block old.setting.torrent p k) ≡ false

pub brought_none : (d : DeskState) (w p : ℕ) (bytes : List ℕ) → joined d.history w ≡ true → unbegun d.setting d.history p ≡ true
    → Bringing d d w p bytes 0
brought_none d w p bytes peer fresh =
    let parts = and_parts (not (had d.history p)) (not (some_block_of d.setting.torrent p (held_or_asked d.setting d.history))) fresh in record {
      setting = refl;
      brings = refl;
      peer = peer;
      lacking = not-true (had d.history p) parts.0;
      there = λ k lt. absurd (omega (arith, lt));
      rest = λ k le lk.
          let none = any_fails (block_count d.setting.torrent p) (λ j. held_or_asked d.setting d.history (block d.setting.torrent p j)) k
          (not-true (some_block_of d.setting.torrent p (held_or_asked d.setting d.history)) parts.1) lk in
          (or_parts (held d.history (block d.setting.torrent p k)) (asked_of_some d.setting d.history (block d.setting.torrent p k)) none).0;
    }

-- the length of a part is that of its block
pub part_len : (s : Setting) (p k : ℕ) (bytes : List ℕ) → length bytes ≡ piece_len s.torrent p →
    (block s.torrent p k).len ≡ length (part bytes (block_size * k))
part_len s p k bytes len =
    sym (length-take block_size (drop (block_size * k) bytes)
    ∙ ap (min block_size) (length-drop (block_size * k) bytes ∙ ap (λ (n : ℕ). n - block_size * k) len))

-- the blocks that came hold their bytes, and so does this one
there_now : (s : Setting) (h : History) (w p n : ℕ) (bytes : List ℕ) (reply : Reply) → stores reply ≡ true
    → ((k : ℕ) → k < n → kept h (block s.torrent p k) ≡ Some (part bytes (block_size * k))) → (k : ℕ) → k < n + 1
    → kept (arriving w p (block_size * n) (part bytes (block_size * n)) reply ∷ h) (block s.torrent p k) ≡ Some (part bytes (block_size * k))
there_now s h w p n bytes reply storing there k lt = ⊎_elim
    (λ (here : k ≡ n).
    subst (λ (j : ℕ). kept (arriving w p (block_size * n) (part bytes (block_size * n)) reply ∷ h) (block s.torrent p j) ≡
    Some (part bytes (block_size * j)))
    (sym here) (kept_here s h w p n (part bytes (block_size * n)) reply storing))
    (λ (apart : k ≡ n → ⊥).
    kept_else s h w p n (part bytes (block_size * n)) reply storing k apart ∙ there k (omega (arith, lt, apart)))
    (cases_eq k n)

pub brought_more : (old now new : DeskState) (w p : ℕ) (bytes : List ℕ) (n : ℕ) (reply : Reply) → Bringing old now w p bytes n
    → Gains now new (arriving w p (block_size * n) (part bytes (block_size * n)) reply)
    → p < piece_count old.setting.torrent → n < block_count old.setting.torrent p → length bytes ≡ piece_len old.setting.torrent p
    → Bringing old new w p bytes (n + 1)
brought_more old now new w p bytes n reply is gains lp ln len =
    let s = old.setting in
    let h = now.history in
    let b = part bytes (block_size * n) in
    let allowed : IsAllowed s h (arriving w p (block_size * n) b reply) =
    subst (λ (t : Setting). IsAllowed t h (arriving w p (block_size * n) b reply)) is.setting gains.allowed in
    let storing = arrival_stores s h w p n b reply allowed is.peer lp ln (part_len s p n bytes len) (is.rest n (omega arith) ln) in
    let entered : new.history ≡ arriving w p (block_size * n) b reply ∷ h = gains.entered in record {
      setting = gains.setting ∙ is.setting;
      brings = subst (λ (m : ℕ). Brings old new w p bytes m) (suc_is n) (now, is.brings, (reply, gains));
      peer = ap (λ (g : History). joined g w) entered ∙ still_joined s h w p n b reply storing is.peer;
      lacking = ap (λ (g : History). had g p) entered ∙ still_lacking s h w p n b reply storing is.lacking;
      there = λ k lt. ap (λ (g : History). kept g (block s.torrent p k)) entered ∙ there_now s h w p n bytes reply storing is.there k lt;
      rest = λ k le lk.
          ap (λ (g : History). held g (block s.torrent p k)) entered
          ∙ (ap is_some (kept_else s h w p n b reply storing k (λ same. absurd (omega (arith, le, same)))) ∙ is.rest k (omega (arith, le)) lk);
    }
  where
    suc_is : (m : ℕ) → suc m ≡ m + 1
    suc_is m = omega arith

-- ---- the whole piece

-- the parts of bytes, joined
joined_parts : (n : ℕ) (bytes : List ℕ) → joined_below n (λ k. part bytes (block_size * k)) ≡ take (block_size * n) bytes
joined_parts zero bytes = (let none : 0 ≡ block_size * 0 = omega arith in ap (λ (m : ℕ). take m bytes) none)
joined_parts (suc n) bytes =
    let more : block_size * n + block_size ≡ block_size * suc n = omega arith in
    ap (λ (xs : List ℕ). xs ++ part bytes (block_size * n)) (joined_parts n bytes)
    ∙ (sym (take-add (block_size * n) block_size bytes) ∙ ap (λ (m : ℕ). take m bytes) more)

module _ (old now : DeskState) (w p : ℕ) (bytes : List ℕ) (is : Bringing old now w p bytes (block_count old.setting.torrent p))
    (len : length bytes ≡ piece_len old.setting.torrent p) (lp : p < piece_count old.setting.torrent) where
  abbrev t : Layout
  t = old.setting.torrent

  pub brought_content : content now.setting now.history p ≡ bytes
  brought_content =
      ap (λ (s : Setting). content s now.history p) is.setting
      ∙ (joined_same (block_count t p) (λ k. unwrap_or (kept now.history (block t p k)) []) (λ k. part bytes (block_size * k))
      (λ k lk. ap (λ (o : Option (List ℕ)). unwrap_or o []) (is.there k lk))
      ∙ (joined_parts (block_count t p) bytes ∙ take_all (block_size * block_count t p) bytes (covered (piece_len t p) (length bytes) len)))
    where
      covered : (n m : ℕ) → m ≡ n → m ≤ 16384 * ((n + 16383) / 16384)
      covered n m is = omega (arith, is)

  pub brought_waits : waits now.setting now.history p ≡ true
  brought_waits =
      ap (λ (s : Setting). waits s now.history p) is.setting
      ∙ (λ i. here i && (whole i && not (is.lacking i)))
    where
      here : nat_lt p (piece_count t) ≡ true
      here = lt-ltb p (piece_count t) lp

      whole : full old.setting now.history p ≡ true
      whole = all_found (block_count t p) (λ k. held now.history (block t p k)) (λ k lk. ap is_some (is.there k lk))
