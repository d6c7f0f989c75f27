-- Where in a journal the entry stands that stored a held block.
use Rattle.std.proofs.Common.{◌≡◌, ◌≢◌, ◌==◌, ℕ, suc, ◌+◌, ◌-◌, ◌*◌, ◌/◌, ◌<◌, ◌≤◌, Bool, true, false, ◌&&◌, List, [], ◌∷◌, Option, None, Some}
use Rattle.std.proofs.Common.{length, length-set, set, refl, ap, subst, sym, ◌∙◌, arith, ⊎_elim}
use Rattle.std.specs.Prelude.{is_some, if◌then◌else◌, slice_index_or}
use Rattle.std.proofs.Math.Nat.{le-div_iff_mul-le, le-min, one-mul, min-le_left, min-le_right, mul-le-mul_right, suc-mul, zero-mul}
use Rattle.std.proofs.lemmas.Bool.{cases_lt, eq-eqb, eqb-true, false≢true, ne_eqb}
use Rattle.std.proofs.lemmas.List.{get_or-set_other, get_or-set_same, length-replicate}
use Rattle.bt_meta.specs.declared.block.Block.{Block}
use Rattle.bt_meta.specs.Layout.{IsLayout, Layout, block, block_count, block_size, piece_count, piece_len}
use Rattle.bt_history.specs.declared.call.Reply.{Reply}
use Rattle.bt_history.specs.declared.event.Action.{Action}
use Rattle.bt_history.specs.declared.event.Action.TheVariants.{Arrived}
use Rattle.bt_history.specs.declared.event.Event.{Event}
use Rattle.bt_history.specs.Setting.{Setting}
use Rattle.bt_history.specs.History.{History, bytes_for, freed, frees, stored, stores}
use Rattle.bt_history.specs.Pieces.{kept, held}
use Rattle.bt_history.specs.Legal.{IsAllowed}
use Rattle.bt_history.proofs.Arrivals.{ArrivalFacts, arrival_facts}
use Rattle.bt_picker.specs.Places.{ArePlaces, PlacesState, fresh_places, place_noted, placed, slot, stored_place}
use Rattle.bt_picker.proofs.Entered.{cause_none}
use Rattle.bt_picker.proofs.PeerSteps.{store_kinds}
use Rattle.bt_picker.proofs.PieceSteps.{store_unfailed}

some_either : {A B : Type 0} (o : Option A) (x : B) (p : Option B) (q : Option A) → is_some p ≡ is_some q
    → is_some (if is_some o then Some x else p) ≡ is_some (if is_some o then o else q)
some_either None x p q h = h
some_either (Some y) x p q h = refl

kept_either : (undone : Bool) (o : Option (List ℕ)) (n : ℕ) (p : Option ℕ) (q : Option (List ℕ)) → is_some p ≡ is_some q
    → is_some (if undone then None else if is_some o then Some n else p) ≡ is_some (if undone then None else if is_some o then o else q)
kept_either true o n p q h = refl
kept_either false o n p q h = some_either o n p q h

-- a block has a place where it is held
pub place_kept : (h : History) (b : Block) → is_some (stored_place h b) ≡ held h b
unfolding stored_place kept
place_kept [] b = refl
place_kept (e ∷ h) b = kept_either (freed e b) (stored e b) (length h) (stored_place h b) (kept h b) (place_kept h b)

-- the entry at place i, where the oldest is at 0
unfoldable pub entry_at : History → ℕ → Option Event
entry_at [] i = None
entry_at (e ∷ h) i = if i == length h then Some e else entry_at h i

-- a place is that of an entry before now
pub place_below : (h : History) (b : Block) (i : ℕ) → stored_place h b ≡ Some i → i < length h
unfolding stored_place
place_below [] b i is = absurd (cc is)
place_below (e ∷ h) b i is = by_cases (freed e b) (is_some (stored e b)) (place_below h b i) is where
  by_cases : (x y : Bool) → (stored_place h b ≡ Some i → i < length h) →
      (if x then None else if y then Some (length h) else stored_place h b) ≡ Some i → i < suc (length h)
  by_cases true y below is = absurd (cc is)
  by_cases false true below is = let same : length h ≡ i = cc is in omega (arith, same)
  by_cases false false below is = let lt = below is in omega (arith, lt)

-- what the entry at a block's place has stored
pub record StoredBy (h : History) (b : Block) (i : ℕ) : Type 0 where
  pub entry : Event
  pub at : entry_at h i ≡ Some entry
  pub bytes : stored entry b ≡ kept h b

-- the bytes of a held block are found in the entry at its place
pub place_bytes : (h : History) (b : Block) (i : ℕ) → stored_place h b ≡ Some i → StoredBy h b i
unfolding stored_place kept entry_at
place_bytes [] b i is = absurd (cc is)
place_bytes (e ∷ h) b i is =
    by_cases (freed e b) refl (stored e b) refl (place_bytes h b i) (place_below h b i) is where
      by_cases : (x : Bool) → freed e b ≡ x → (o : Option (List ℕ)) → stored e b ≡ o → (stored_place h b ≡ Some i → StoredBy h b i) →
          (stored_place h b ≡ Some i → i < length h)
          → (if x then None else if is_some o then Some (length h) else stored_place h b) ≡ Some i → StoredBy (e ∷ h) b i
      by_cases true fails o was before below is = absurd (cc is)
      -- the newest entry stored it
      by_cases false fails (Some bytes) was before below is =
          let same : i ≡ length h = sym (cc is) in
          record {
            entry = e;
            at = ap (λ (x : Bool). if x then Some e else entry_at h i) (eq-eqb i (length h) same);
            bytes = was ∙ sym (ap (λ (x : Bool). if x then None else if is_some (stored e b) then stored e b else kept h b) fails
                ∙ ap (λ (o : Option (List ℕ)). if is_some o then o else kept h b) was);
          }
      -- an older one did
      by_cases false fails None was before below is =
          let older = before is in
          let apart : i ≢ length h = (let lt = below is in λ same. omega (arith, lt, same)) in
          record {
            entry = older.entry;
            at = ap (λ (x : Bool). if x then Some e else entry_at h i) (ne_eqb i (length h) apart) ∙ older.at;
            bytes = older.bytes ∙ sym (ap (λ (x : Bool). if x then None else if is_some (stored e b) then stored e b else kept h b) fails
                ∙ ap (λ (o : Option (List ℕ)). if is_some o then o else kept h b) was);
          }

and_parts : (a b : Bool) → (a && b) ≡ true → (a ≡ true) × (b ≡ true)
and_parts true b is = (refl, is)
and_parts false b is = absurd (false≢true is)

and_both : (a b : Bool) → a ≡ true → b ≡ true → (a && b) ≡ true
and_both true b first second = second
and_both false b first second = absurd (false≢true first)

-- ---- slots

-- a block of a later piece has a later slot
slot_over : (w p k q j : ℕ) → k < w → p < q → slot w p k < slot w q j
slot_over w p k q j lk lt =
    let more : suc p * w ≤ q * w = mul-le-mul_right w (omega (arith, lt)) in
    let next = suc-mul p w in
    omega (arith, more, next, lk)

-- two blocks have one slot only where they are one
slot_same : (w p k q j : ℕ) → k < w → j < w → slot w p k ≡ slot w q j → (p ≡ q) × (k ≡ j)
slot_same w p k q j lk lj is =
    let least : p ≤ q = ⊎_elim (λ (lt : q < p). absurd (let over = slot_over w q j p k lj lt in omega (arith, over, is))) (λ (le : p ≤ q). le)
    (cases_lt q p) in
    let most : q ≤ p = ⊎_elim (λ (lt : p < q). absurd (let over = slot_over w p k q j lk lt in omega (arith, over, is))) (λ (le : q ≤ p). le)
    (cases_lt p q) in
    let same : p ≡ q = omega (arith, least, most) in
    let there = ap (λ (n : ℕ). n * w) same in
    (same, omega (arith, is, there))

-- each block has a slot
pub slot_within : (s : Setting) (h : History) (x : PlacesState) (p k : ℕ) → ArePlaces s h x → p < piece_count s.torrent → k < block_count s.torrent p
    → slot x.width p k < length x.places
slot_within s h x p k are lp lk =
    let wide = are.wide p lp in
    let over = slot_over x.width p k (piece_count s.torrent) 0 (omega (arith, wide, lk)) lp in
    omega (arith, over, are.long)

-- ---- the places of a history

-- no piece has more blocks than the first
first_widest : (t : Layout) (p : ℕ) → block_count t p ≤ block_count t 0
first_widest t p =
    let whole = min-le_left t.piece_length (t.total - p * t.piece_length) in
    let left = min-le_right t.piece_length (t.total - p * t.piece_length) in
    let none : 0 * t.piece_length ≡ 0 = zero-mul t.piece_length in
    let shorter : piece_len t p ≤ piece_len t 0 = le-min whole (omega (arith, left, none)) in
    omega (arith, shorter)

pub places_fresh : (s : Setting) → ArePlaces s [] (fresh_places s.torrent)
unfolding stored_place
places_fresh s = record {
  wide = λ p lp. first_widest s.torrent p;
  long = length-replicate (piece_count s.torrent * block_count s.torrent 0) 0;
  are = λ p k i lp lk is. absurd (cc is);
}

module _ (s : Setting) (h : History) (x : PlacesState) (are : ArePlaces s h x) where
  -- an entry that stores no block leaves each place
  still : (e : Event) → ((b : Block) → stored e b ≡ None) → ArePlaces s (e ∷ h) x
  unfolding stored_place
  still e none = record {
    wide = are.wide;
    long = are.long;
    are = λ p k i lp lk is. are.are p k i lp lk (older (freed e (block s.torrent p k))
        (ap (λ (o : Option (List ℕ)). if freed e (block s.torrent p k) then None else if is_some o then Some (length h) else stored_place h (block s.torrent p k))
        (sym (none (block s.torrent p k))) ∙ is));
  }
    where
      older : {o : Option ℕ} {i : ℕ} (y : Bool) → (if y then None else o) ≡ Some i → o ≡ Some i
      older true is = absurd (cc is)
      older false is = is

  -- the place of a block that the newest entry stored, and of another
  place_stored : (w p begin : ℕ) (bytes : List ℕ) (reply : Reply) (b : Block) → stores reply ≡ true
      → stored_place (record { worker = w; action = Arrived p begin bytes; reply = reply } ∷ h) b
      ≡ (if (p == b.piece) && (begin == b.begin) then Some (length h) else stored_place h b)
  unfolding stored_place
  place_stored w p begin bytes reply b is =
      let call = Arrived p begin bytes in
      ap (λ (y : Bool). if y && frees call b then None else if is_some (if stores reply then bytes_for b call else None) then
      Some (length h) else
      stored_place h b) (store_unfailed reply is).0
      ∙ (ap (λ (y : Bool). if is_some (if y then bytes_for b call else None) then Some (length h) else stored_place h b) is
      ∙ either ((p == b.piece) && (begin == b.begin))) where
        either : (y : Bool) → (if is_some (if y then Some bytes else None) then Some (length h) else stored_place h b)
            ≡ (if y then Some (length h) else stored_place h b)
        either true = refl
        either false = refl

  -- an entry that stores a block is noted as that block's
  stored_there : (w p k : ℕ) (bytes : List ℕ) (reply : Reply) → stores reply ≡ true → p < piece_count s.torrent → k < block_count s.torrent p
      → ArePlaces s (record { worker = w; action = Arrived p (block_size * k) bytes; reply = reply } ∷ h)
      (record x { places = set x.places (slot x.width p k) (length h) })
  stored_there w p k bytes reply storing lp lk = record {
    wide = are.wide;
    long = length-set x.places (slot x.width p k) (length h) ∙ are.long;
    are = λ q j i lq lj is. by_test q j i lq lj ((p == q) && (block_size * k == block_size * j)) refl
        (sym (place_stored w p (block_size * k) bytes reply (block s.torrent q j) storing) ∙ is);
  }
    where
      by_test : (q j i : ℕ) → q < piece_count s.torrent → j < block_count s.torrent q → (y : Bool)
          → ((p == q) && (block_size * k == block_size * j)) ≡ y
          → (if y then Some (length h) else stored_place h (block s.torrent q j)) ≡ Some i
          → slice_index_or (set x.places (slot x.width p k) (length h)) (slot x.width q j) 0 ≡ i
      by_test q j i lq lj true same is =
          let parts = and_parts (p == q) (block_size * k == block_size * j) same in
          let piece : p ≡ q = eqb-true p q parts.0 in
          let begins : block_size * k ≡ block_size * j = eqb-true (block_size * k) (block_size * j) parts.1 in
          let index : k ≡ j = omega (arith, begins) in
          let here : slot x.width q j ≡ slot x.width p k = (λ n. slot x.width (sym piece n) (sym index n)) in
          let newest : length h ≡ i = cc is in
          ap (λ (n : ℕ). slice_index_or (set x.places (slot x.width p k) (length h)) n 0) here
          ∙ get_or-set_same x.places (slot x.width p k) (length h) 0 (slot_within s h x p k are lp lk)
          ∙ newest
      by_test q j i lq lj false other is =
          let narrow = are.wide p lp in
          let wide = are.wide q lq in
          let apart : slot x.width q j ≢ slot x.width p k = λ same.
          let one = slot_same x.width q j p k (omega (arith, wide, lj)) (omega (arith, narrow, lk)) same in
          let begins : block_size * k ≡ block_size * j = ap (λ (m : ℕ). block_size * m) (sym one.1) in
          false≢true (sym other ∙ and_both (p == q) (block_size * k == block_size * j) (eq-eqb p q (sym one.0))
          (eq-eqb (block_size * k) (block_size * j) begins)) in
          get_or-set_other x.places (slot x.width p k) (slot x.width q j) (length h) 0 apart ∙ are.are q j i lq lj is

-- an arrival that is stored is of a block of the torrent
stored_block : (s : Setting) (h : History) (w p begin : ℕ) (bytes : List ℕ) (reply : Reply) → stores reply ≡ true
    → IsAllowed s h (record { worker = w; action = Arrived p begin bytes; reply = reply }) → ArrivalFacts s h w p begin bytes
stored_block s h w p begin bytes reply storing allowed =
    arrival_facts s h w p begin bytes (cause_none s h w (Arrived p begin bytes) reply allowed (store_kinds reply storing).0)

quotient : (k : ℕ) → block_size * k / block_size ≡ k
quotient k = omega arith

-- where an entry has stored a block, there is a slot to note it in
pub slot_there : (s : Setting) (h : History) (x : PlacesState) (w : ℕ) (call : Action) (reply : Reply) → ArePlaces s h x
    → IsAllowed s h (record { worker = w; action = call; reply = reply }) → (p begin : ℕ) (bytes : List ℕ) → call ≡ Arrived p begin bytes
    → stores reply ≡ true → slot x.width p (begin / block_size) < length x.places
slot_there s h x w call reply are allowed p begin bytes is storing =
    let facts = stored_block s h w p begin bytes reply storing
    (subst (λ (a : Action). IsAllowed s h (record { worker = w; action = a; reply = reply })) is allowed) in
    let index : begin / block_size ≡ facts.index = ap (λ (n : ℕ). n / block_size) facts.begins ∙ quotient facts.index in
    subst (λ (k : ℕ). slot x.width p k < length x.places) (sym index) (slot_within s h x p facts.index are facts.piece facts.within)

no_bytes : (y : Bool) (o : Option (List ℕ)) → o ≡ None → (if y then o else None) ≡ None
no_bytes true o none = none
no_bytes false o none = refl

-- the places after one entry more
pub places_more : (s : Setting) (h : History) (x : PlacesState) (w : ℕ) (call : Action) (reply : Reply) → ArePlaces s h x
    → IsAllowed s h (record { worker = w; action = call; reply = reply })
    → ArePlaces s (record { worker = w; action = call; reply = reply } ∷ h) (placed x call reply (length h))
places_more s h x w (Arrived p begin bytes) reply are allowed = by_reply (stores reply) refl where
  e : ℕ → Event
  e n = record { worker = w; action = Arrived p n bytes; reply = reply }

  by_reply : (y : Bool) → stores reply ≡ y
      → ArePlaces s (e begin ∷ h) (if y then record x { places = set x.places (slot x.width p (begin / block_size)) (length h) } else x)
  by_reply false storing =
      still s h x are (e begin) (λ b. ap (λ (y : Bool). if y then bytes_for b (Arrived p begin bytes) else None) storing)
  by_reply true storing =
      let facts = stored_block s h w p begin bytes reply storing allowed in
      let index : begin / block_size ≡ facts.index = ap (λ (n : ℕ). n / block_size) facts.begins ∙ quotient facts.index in
      subst (λ (n : ℕ). ArePlaces s (e n ∷ h) (record x { places = set x.places (slot x.width p (n / block_size)) (length h) })) (sym facts.begins)
      (subst (λ (k : ℕ). ArePlaces s (e (block_size * facts.index) ∷ h) (record x { places = set x.places (slot x.width p k) (length h) }))
      (sym (quotient facts.index))
      (stored_there s h x are w p facts.index bytes reply storing facts.piece facts.within))
places_more s h x w call reply are allowed = still s h x are _ (λ b. no_bytes (stores reply) None refl)

-- ---- what is found

-- the place of a held block is noted
pub place_found : (s : Setting) (h : History) (x : PlacesState) (p k : ℕ) → ArePlaces s h x → p < piece_count s.torrent → k < block_count s.torrent p
    → held h (block s.torrent p k) ≡ true → Some (place_noted x p k) ≡ stored_place h (block s.torrent p k)
place_found s h x p k are lp lk holds = by_place (stored_place h b) refl (place_kept h b ∙ holds) where
  b : Block
  b = block s.torrent p k

  by_place : (o : Option ℕ) → stored_place h b ≡ o → is_some o ≡ true → Some (place_noted x p k) ≡ stored_place h b
  by_place None is some = absurd (false≢true some)
  by_place (Some i) is some = ap Some (are.are p k i lp lk is) ∙ sym is

-- a block that isn't held has no place
pub place_lacks : (h : History) (b : Block) → held h b ≡ false → None ≡ stored_place h b
place_lacks h b lacking = by_place (stored_place h b) (place_kept h b ∙ lacking) where
  by_place : (o : Option ℕ) → is_some o ≡ false → None ≡ o
  by_place None none = refl
  by_place (Some n) none = absurd (false≢true (sym none))

-- a torrent has a piece
pub some_piece : (t : Layout) → IsLayout t → 0 < piece_count t
some_piece t layout =
    let one : 1 * t.piece_length ≡ t.piece_length = one-mul t.piece_length in
    let low = layout.total_low in
    let some : 1 ≤ (t.total + t.piece_length - 1) / t.piece_length =
    (le-div_iff_mul-le {k = t.piece_length} {x = 1} {y = t.total + t.piece_length - 1} layout.piece_length_low).1 (omega (arith, one, low)) in
    omega (arith, some, layout.count)
