-- What is kept of pieces that aren't had yet stays what is held of them, entry by entry.
use Rattle.std.proofs.Common.{◌≡◌, ◌≢◌, ◌==◌, ℕ, zero, suc, ◌*◌, ◌/◌, ◌<◌, ◌≤◌, Bool, true, false, ◌||◌, ◌&&◌, List, [], ◌∷◌, Option, None, Some, length}
use Rattle.std.proofs.Common.{replicate, get_or, set, refl, ap, sym, ◌∙◌, subst, arith, ⊎_elim, length-set}
use Rattle.std.specs.Prelude.{if◌then◌else◌, slice_index_or}
use Rattle.std.proofs.lemmas.Bool.{cases_eq, cases_lt, eq-eqb, ne_eqb, false≢true}
use Rattle.std.proofs.lemmas.List.{get_or-replicate, get_or-set_other, get_or-set_same, length-replicate}
use Rattle.std.proofs.Math.ListN.{get_or-eq_default}
use Rattle.bt_meta.specs.declared.block.Block.{Block}
use Rattle.bt_meta.specs.Layout.{block, block_count, block_size, piece_count}
use Rattle.bt_history.specs.declared.call.Reason.{Reason}
use Rattle.bt_history.specs.declared.call.Reply.{Reply}
use Rattle.bt_history.specs.declared.call.Reply.TheVariants.{Refused}
use Rattle.bt_history.specs.declared.event.Action.{Action}
use Rattle.bt_history.specs.declared.event.Action.TheVariants.{Arrived, Settle, Lose, Discard}
use Rattle.bt_history.specs.declared.event.Event.{Event}
use Rattle.bt_history.specs.History.{History, bytes_for, freed, frees, is_failed, is_had, lost, loses, stored, stores}
use Rattle.bt_history.specs.Legal.{IsAllowed}
use Rattle.bt_history.specs.Pieces.{content_of_block, had, kept}
use Rattle.bt_history.specs.Setting.{Setting}
use Rattle.bt_history.proofs.Allowed.{failed_reply, no_cause}
use Rattle.bt_history.proofs.Arrivals.{ArrivalFacts, arrival_facts}
use Rattle.bt_picker.specs.Tables.{edit}
use Rattle.bt_picker.proofs.Tabled.{get_or_edit_other, get_or_edit_same, length_edit}
use Rattle.bt_picker.proofs.Entered.{discard_facts}
use Rattle.bt_picker.proofs.BlockBytes.{lost_after, not_had, not_passed, same_after, stored_after}
use Rattle.bt_picker.specs.Stashes.{IsStash, Rows, restashed, stashed, with_room}

-- ---- the rows

pub read_room : (n k : ℕ) (row : List (List ℕ)) → k < n → slice_index_or (with_room n row) k [] ≡ slice_index_or row k []
read_room n k [] lk = get_or-replicate n k [] [] lk ∙ sym (get_or-eq_default [] [] {n = k} (omega arith))
read_room n k (x ∷ xs) lk = refl

-- the row has a place for each block of piece p, once it has room
abbrev IsWide : Setting → ℕ → List (List ℕ) → Type 0
IsWide s p row = length (with_room (block_count s.torrent p) row) ≡ block_count s.torrent p

pub wide_empty : (n : ℕ) → length (with_room n []) ≡ n
wide_empty n = length-replicate n []

pub storing_counts : (r : Reply) → stores r ≡ true → (reason : Reason) → r ≢ Refused reason
storing_counts r is reason refused = absurd (cc (is, refused))

-- an entry after which nothing is kept otherwise
unchanged : (s : Setting) (h : History) (rows : Rows) (e : Event) → ((b : Block) → freed e b ≡ false) → ((p : ℕ) → lost e p ≡ false)
    → ((b : Block) → stored e b ≡ None) → IsStash s h rows → IsStash s (e ∷ h) rows
unchanged s h rows e lasts keeps none is = record {
  len = is.len;
  wide = is.wide;
  bytes = λ p k lp lk lacking. is.bytes p k lp lk (not_had h e p (keeps p) lacking)
      ∙ sym (same_after h e (block s.torrent p k) (lasts (block s.torrent p k)) (none (block s.torrent p k)));
}

off : (x : Bool) → (x && false) ≡ false
off true = refl
off false = refl

off_left : (x y : Bool) → x ≡ false → (x && y) ≡ false
off_left false y is = refl
off_left true y is = absurd (false≢true (sym is))

abbrev no_bytes : Option (List ℕ)
no_bytes = None

nothing_if : (x : Bool) → (if x then no_bytes else None) ≡ no_bytes
nothing_if true = refl
nothing_if false = refl

-- ---- one more entry

module _ (s : Setting) (h : History) (rows : Rows) (w : ℕ) (is : IsStash s h rows) where
  abbrev entry : Action → Reply → Event
  entry action reply = record { worker = w; action = action; reply = reply }

  -- a block came, and is held now
  module _ (p0 begin : ℕ) (came : List ℕ) (reply : Reply) (allowed : IsAllowed s h (entry (Arrived p0 begin came) reply))
      (storing : stores reply ≡ true) where
    abbrev e : Event
    e = entry (Arrived p0 begin came) reply

    abbrev n : ℕ
    n = block_count s.torrent p0

    abbrev put : List (List ℕ) → List (List ℕ)
    put row = set (with_room n row) (begin / block_size) came

    abbrev old_row : List (List ℕ)
    old_row = get_or rows p0 []

    facts : ArrivalFacts s h w p0 begin came
    facts = arrival_facts s h w p0 begin came (no_cause s h e (storing_counts reply storing) allowed)

    index : begin / block_size ≡ facts.index
    index = ap (λ (m : ℕ). m / block_size) facts.begins ∙ quotient facts.index where
      quotient : (k : ℕ) → block_size * k / block_size ≡ k
      quotient k = omega arith

    lasts : (b : Block) → freed e b ≡ false
    lasts b = off (is_failed reply)

    inside : p0 < length rows
    inside = subst (λ (m : ℕ). p0 < m) (sym is.len) facts.piece

    own_row : get_or (edit rows p0 put) p0 [] ≡ put old_row
    own_row = get_or_edit_same rows p0 put [] inside

    brought : (b : Block) → stored e b ≡ bytes_for b (Arrived p0 begin came)
    brought b = ap (λ (x : Bool). if x then bytes_for b (Arrived p0 begin came) else None) storing

    not_here : (b : Block) → ((p0 == b.piece) && (begin == b.begin)) ≡ false → stored e b ≡ None
    not_here b apart = brought b ∙ ap (λ (x : Bool). if x then Some came else None) apart

    at_own : (k : ℕ) → k < n → had (e ∷ h) p0 ≡ false → stashed (edit rows p0 put) p0 k ≡ content_of_block (e ∷ h) (block s.torrent p0 k)
    at_own k lk lacking =
        ap (λ (row : List (List ℕ)). get_or row k []) own_row
        ∙ (ap (λ (j : ℕ). get_or (set (with_room n old_row) j came) k []) index
        ∙ ⊎_elim
        (λ (same : k ≡ facts.index).
        subst (λ (j : ℕ). get_or (set (with_room n old_row) facts.index came) j [] ≡ content_of_block (e ∷ h) (block s.torrent p0 j)) (sym same)
        (get_or-set_same (with_room n old_row) facts.index came [] (subst (λ (m : ℕ). facts.index < m) (sym (is.wide p0)) facts.within)
        ∙ sym (stored_after h e (block s.torrent p0 facts.index) came (lasts (block s.torrent p0 facts.index))
        (brought (block s.torrent p0 facts.index) ∙ ap (λ (x : Bool). if x then Some came else None)
        (both (p0 == p0) (begin == block_size * facts.index) (eq-eqb p0 p0 refl) (eq-eqb begin (block_size * facts.index) facts.begins))))))
        (λ (apart : k ≡ facts.index → ⊥).
        get_or-set_other (with_room n old_row) facts.index k came [] apart
        ∙ (read_room n k old_row lk ∙ (is.bytes p0 k facts.piece lk (not_had h e p0 (off (is_failed reply)) lacking)
        ∙ sym (same_after h e (block s.torrent p0 k) (lasts (block s.torrent p0 k)) (not_here (block s.torrent p0 k)
        (off_right (p0 == p0) (begin == block_size * k)
        (ne_eqb begin (block_size * k) (λ (at : begin ≡ block_size * k). apart (let there = facts.begins in omega (arith, at, there))))))))))
        (cases_eq k facts.index))
      where
        both : (a b : Bool) → a ≡ true → b ≡ true → (a && b) ≡ true
        both true b first second = second
        both false b first second = absurd (false≢true first)

        off_right : (a b : Bool) → b ≡ false → (a && b) ≡ false
        off_right true b off = off
        off_right false b off = refl

    at_other : (p k : ℕ) → p ≢ p0 → p < piece_count s.torrent → k < block_count s.torrent p → had (e ∷ h) p ≡ false
        → stashed (edit rows p0 put) p k ≡ content_of_block (e ∷ h) (block s.torrent p k)
    at_other p k apart lp lk lacking =
        ap (λ (row : List (List ℕ)). get_or row k []) (get_or_edit_other rows p0 p put [] apart)
        ∙ (is.bytes p k lp lk (not_had h e p (off (is_failed reply)) lacking)
        ∙ sym (same_after h e (block s.torrent p k) (lasts (block s.torrent p k)) (not_here (block s.torrent p k)
        (off_left (p0 == p) (begin == block_size * k) (ne_eqb p0 p (λ (same : p0 ≡ p). apart (sym same)))))))

    wide_own : (ys : List (List ℕ)) → length ys ≡ n → length (with_room n ys) ≡ n
    wide_own [] long = wide_empty n
    wide_own (y ∷ ys) long = long

    stashes : IsStash s (e ∷ h) (edit rows p0 put)
    stashes = record {
      len = length_edit rows p0 put ∙ is.len;
      wide = λ p. ⊎_elim
          (λ (same : p ≡ p0). subst (λ (q : ℕ). IsWide s q (get_or (edit rows p0 put) q [])) (sym same)
          (ap (λ (row : List (List ℕ)). length (with_room n row)) own_row
          ∙ wide_own (put old_row) (length-set (with_room n old_row) (begin / block_size) came ∙ is.wide p0)))
          (λ (apart : p ≡ p0 → ⊥).
          ap (λ (row : List (List ℕ)). length (with_room (block_count s.torrent p) row)) (get_or_edit_other rows p0 p put [] apart)
          ∙ is.wide p)
          (cases_eq p p0);
      bytes = λ p k lp lk lacking. ⊎_elim
          (λ (same : p ≡ p0). subst (λ (q : ℕ). stashed (edit rows p0 put) q k ≡ content_of_block (e ∷ h) (block s.torrent q k)) (sym same)
          (at_own k (subst (λ (q : ℕ). k < block_count s.torrent q) same lk) (subst (λ (q : ℕ). had (e ∷ h) q ≡ false) same lacking)))
          (λ (apart : p ≡ p0 → ⊥). at_other p k apart lp lk lacking)
          (cases_eq p p0);
    }

  -- an entry after which nothing is kept of one piece, since its blocks are free or it is had
  module _ (p0 : ℕ) (call : Action) (reply : Reply) (none_stored : (b : Block) → stored (entry call reply) b ≡ None)
      (own_lost : (k : ℕ) → had (entry call reply ∷ h) p0 ≡ false → content_of_block (entry call reply ∷ h) (block s.torrent p0 k) ≡ [])
      (spares : (b : Block) → p0 ≢ b.piece → freed (entry call reply) b ≡ false) (keeps : (p : ℕ) → p0 ≢ p → lost (entry call reply) p ≡ false) where
    abbrev gone : List (List ℕ) → List (List ℕ)
    gone row = []

    cleared : IsStash s (entry call reply ∷ h) (edit rows p0 gone)
    cleared = record {
      len = length_edit rows p0 gone ∙ is.len;
      wide = λ p. ⊎_elim
          (λ (same : p ≡ p0). ⊎_elim
          (λ (lt : p0 < length rows). subst (λ (q : ℕ). IsWide s q (get_or (edit rows p0 gone) q [])) (sym same)
          (ap (λ (row : List (List ℕ)). length (with_room (block_count s.torrent p0) row)) (get_or_edit_same rows p0 gone [] lt)
          ∙ wide_empty (block_count s.torrent p0)))
          (λ (ge : length rows ≤ p0). ap (λ (row : List (List ℕ)). length (with_room (block_count s.torrent p) row))
          (get_or-eq_default (edit rows p0 gone) [] (let long = length_edit rows p0 gone in omega (arith, ge, long, same)))
          ∙ wide_empty (block_count s.torrent p))
          (cases_lt p0 (length rows)))
          (λ (apart : p ≡ p0 → ⊥).
          ap (λ (row : List (List ℕ)). length (with_room (block_count s.torrent p) row)) (get_or_edit_other rows p0 p gone [] apart)
          ∙ is.wide p)
          (cases_eq p p0);
      bytes = λ p k lp lk lacking. ⊎_elim
          (λ (same : p ≡ p0). subst (λ (q : ℕ). stashed (edit rows p0 gone) q k ≡ content_of_block (entry call reply ∷ h) (block s.torrent q k)) (sym same)
          (let lp0 : p0 < piece_count s.torrent = subst (λ (q : ℕ). q < piece_count s.torrent) same lp in
          ap (λ (row : List (List ℕ)). get_or row k []) (get_or_edit_same rows p0 gone [] (subst (λ (m : ℕ). p0 < m) (sym is.len) lp0))
          ∙ (get_or-eq_default [] [] {n = k} (omega arith)
          ∙ sym (own_lost k (subst (λ (q : ℕ). had (entry call reply ∷ h) q ≡ false) same lacking)))))
          (λ (apart : p ≡ p0 → ⊥).
          let other : p0 ≢ p = λ (same : p0 ≡ p). apart (sym same) in
          ap (λ (row : List (List ℕ)). get_or row k []) (get_or_edit_other rows p0 p gone [] apart)
          ∙ (is.bytes p k lp lk (not_had h (entry call reply) p (keeps p other) lacking)
          ∙ sym (same_after h (entry call reply) (block s.torrent p k) (spares (block s.torrent p k) other) (none_stored (block s.torrent p k)))))
          (cases_eq p p0);
    }

  off_second : (a b : Bool) → b ≡ false → (a && b) ≡ false
  off_second true b off = off
  off_second false b off = refl

  -- a piece was checked: nothing of it is kept
  checked : (p0 : ℕ) (bytes : List ℕ) (reply : Reply) → (is_had reply || is_failed reply) ≡ true
      → IsStash s (entry (Settle p0 bytes) reply ∷ h) (edit rows p0 (λ row. []))
  checked p0 bytes reply told = cleared p0 (Settle p0 bytes) reply (λ b. nothing_if (stores reply)) own_lost
      (λ b apart. off_second (is_failed reply) (p0 == b.piece) (ne_eqb p0 b.piece apart)) (λ p apart. off (is_failed reply))
    where
      check : Event
      check = entry (Settle p0 bytes) reply

      own_lost : (k : ℕ) → had (check ∷ h) p0 ≡ false → content_of_block (check ∷ h) (block s.torrent p0 k) ≡ []
      own_lost k lacking = by_reply (is_had reply) (is_failed reply) told refl refl where
        by_reply : (x y : Bool) → (x || y) ≡ true → is_had reply ≡ x → is_failed reply ≡ y → content_of_block (check ∷ h) (block s.torrent p0 k) ≡ []
        by_reply true y either passing failing =
            absurd (false≢true (sym (not_passed h check p0 lacking) ∙ (ap (λ (x : Bool). x && (p0 == p0)) passing ∙ eq-eqb p0 p0 refl)))
        by_reply false true either passing failing =
            lost_after h check (block s.torrent p0 k) (ap (λ (x : Bool). x && (p0 == p0)) failing ∙ eq-eqb p0 p0 refl)
        by_reply false false either passing failing = absurd (false≢true either)

  -- a piece was lost: nothing of it is kept
  lost_piece : (p0 : ℕ) (reply : Reply) → is_failed reply ≡ true → IsStash s (entry (Lose p0) reply ∷ h) (edit rows p0 (λ row. []))
  lost_piece p0 reply fails = cleared p0 (Lose p0) reply (λ b. nothing_if (stores reply))
      (λ k lacking. lost_after h (entry (Lose p0) reply) (block s.torrent p0 k) (ap (λ (x : Bool). x && (p0 == p0)) fails ∙ eq-eqb p0 p0 refl))
      (λ b apart. off_second (is_failed reply) (p0 == b.piece) (ne_eqb p0 b.piece apart))
      (λ p apart. off_second (is_failed reply) (p0 == p) (ne_eqb p0 p apart))

  -- a block was discarded: its bytes are kept no more
  module _ (p0 begin : ℕ) (reply : Reply) (allowed : IsAllowed s h (entry (Discard p0 begin) reply)) (fails : is_failed reply ≡ true) where
    abbrev bad : Event
    bad = entry (Discard p0 begin) reply

    abbrev without : List (List ℕ) → List (List ℕ)
    without row = set row (begin / block_size) []

    at : (p0 < piece_count s.torrent) × ((k : ℕ) × (k < block_count s.torrent p0) × (begin ≡ block_size * k))
    at = discard_facts s h w p0 begin (no_cause s h bad (λ reason refused. absurd (cc (failed_reply reply fails, refused))) allowed)

    index_at : begin / block_size ≡ at.1.0
    index_at = ap (λ (m : ℕ). m / block_size) at.1.2 ∙ quotient at.1.0 where
      quotient : (k : ℕ) → block_size * k / block_size ≡ k
      quotient k = omega arith

    spared : (b : Block) → ((p0 == b.piece) && (begin == b.begin)) ≡ false → freed bad b ≡ false
    spared b other = off_second (is_failed reply) _ other

    no_store : (b : Block) → stored bad b ≡ None
    no_store b = nothing_if (stores reply)

    keeps_all : (p : ℕ) → lost bad p ≡ false
    keeps_all p = off (is_failed reply)

    -- nothing stands there
    none_there : (row : List (List ℕ)) (i : ℕ) → get_or (set row i []) i [] ≡ []
    none_there row i = ⊎_elim
        (λ (lt : i < length row). get_or-set_same row i [] [] lt)
        (λ (ge : length row ≤ i). get_or-eq_default (set row i []) [] (let long = length-set row i [] in omega (arith, ge, long)))
        (cases_lt i (length row))

    wide_on : (n : ℕ) (row : List (List ℕ)) (i : ℕ) → length (with_room n (set row i [])) ≡ length (with_room n row)
    wide_on n [] i = refl
    wide_on n (x ∷ xs) zero = refl
    wide_on n (x ∷ xs) (suc i) = length-set (x ∷ xs) (suc i) []

    in_own : (k : ℕ) → k < block_count s.torrent p0 → had (bad ∷ h) p0 ≡ false
        → stashed (edit rows p0 without) p0 k ≡ content_of_block (bad ∷ h) (block s.torrent p0 k)
    in_own k lk lacking =
        ap (λ (row : List (List ℕ)). get_or row k []) (get_or_edit_same rows p0 without [] (subst (λ (m : ℕ). p0 < m) (sym is.len) at.0))
        ∙ ⊎_elim
        (λ (same : k ≡ at.1.0).
        let here : k ≡ begin / block_size = same ∙ sym index_at in
        ap (λ (j : ℕ). get_or (set (get_or rows p0 []) (begin / block_size) []) j []) here
        ∙ (none_there (get_or rows p0 []) (begin / block_size)
        ∙ sym (lost_after h bad (block s.torrent p0 k)
        ((λ i. fails i && (eq-eqb p0 p0 refl i && eq-eqb begin (block_size * k) (at.1.2 ∙ ap (λ (j : ℕ). block_size * j) (sym same)) i))))))
        (λ (apart : k ≡ at.1.0 → ⊥).
        get_or-set_other (get_or rows p0 []) (begin / block_size) k [] [] (λ same. apart (same ∙ index_at))
        ∙ (is.bytes p0 k at.0 lk (not_had h bad p0 (keeps_all p0) lacking)
        ∙ sym (same_after h bad (block s.torrent p0 k) (spared (block s.torrent p0 k) (off_second (p0 == p0) (begin == block_size * k)
        (ne_eqb begin (block_size * k) (λ there. apart (let begins = at.1.2 in omega (arith, there, begins)))))) (no_store (block s.torrent p0 k)))))
        (cases_eq k at.1.0)

    in_other : (p k : ℕ) → p ≢ p0 → p < piece_count s.torrent → k < block_count s.torrent p → had (bad ∷ h) p ≡ false
        → stashed (edit rows p0 without) p k ≡ content_of_block (bad ∷ h) (block s.torrent p k)
    in_other p k apart lp lk lacking =
        ap (λ (row : List (List ℕ)). get_or row k []) (get_or_edit_other rows p0 p without [] apart)
        ∙ (is.bytes p k lp lk (not_had h bad p (keeps_all p) lacking)
        ∙ sym (same_after h bad (block s.torrent p k) (spared (block s.torrent p k)
        (off_left (p0 == p) (begin == block_size * k) (ne_eqb p0 p (λ (same : p0 ≡ p). apart (sym same))))) (no_store (block s.torrent p k))))

    dropped : IsStash s (bad ∷ h) (edit rows p0 without)
    dropped = record {
      len = length_edit rows p0 without ∙ is.len;
      wide = λ p. ⊎_elim
          (λ (same : p ≡ p0). subst (λ (q : ℕ). IsWide s q (get_or (edit rows p0 without) q [])) (sym same)
          (ap (λ (row : List (List ℕ)). length (with_room (block_count s.torrent p0) row))
          (get_or_edit_same rows p0 without [] (subst (λ (m : ℕ). p0 < m) (sym is.len) at.0))
          ∙ (wide_on (block_count s.torrent p0) (get_or rows p0 []) (begin / block_size) ∙ is.wide p0)))
          (λ (apart : p ≡ p0 → ⊥).
          ap (λ (row : List (List ℕ)). length (with_room (block_count s.torrent p) row)) (get_or_edit_other rows p0 p without [] apart)
          ∙ is.wide p)
          (cases_eq p p0);
      bytes = λ p k lp lk lacking. ⊎_elim
          (λ (same : p ≡ p0). subst (λ (q : ℕ). stashed (edit rows p0 without) q k ≡ content_of_block (bad ∷ h) (block s.torrent q k)) (sym same)
          (in_own k (subst (λ (q : ℕ). k < block_count s.torrent q) same lk) (subst (λ (q : ℕ). had (bad ∷ h) q ≡ false) same lacking)))
          (λ (apart : p ≡ p0 → ⊥). in_other p k apart lp lk lacking)
          (cases_eq p p0);
    }

  -- a call that brings no block and frees none
  quiet : (action : Action) (reply : Reply) → ((b : Block) → bytes_for b action ≡ None) → ((b : Block) → frees action b ≡ false)
      → ((p : ℕ) → loses action p ≡ false) → IsStash s (entry action reply ∷ h) rows
  quiet action reply brings_none frees_none loses_none = unchanged s h rows (entry action reply)
      (λ b. off_second (is_failed reply) (frees action b) (frees_none b))
      (λ p. off_second (is_failed reply) (loses action p) (loses_none p))
      (λ b. ap (λ (o : Option (List ℕ)). if stores reply then o else None) (brings_none b) ∙ nothing_if (stores reply)) is

  -- what is kept stays what is held, whatever entry comes
  pub restash : (action : Action) (reply : Reply) → IsAllowed s h (entry action reply)
      → IsStash s (entry action reply ∷ h) (restashed s rows (entry action reply))
  restash (Arrived p begin came) reply allowed = by_reply (stores reply) refl where
    by_reply : (x : Bool) → stores reply ≡ x → IsStash s (entry (Arrived p begin came) reply ∷ h)
        (if x then edit rows p (λ row. set (with_room (block_count s.torrent p) row) (begin / block_size) came) else rows)
    by_reply true storing = stashes p begin came reply allowed storing
    by_reply false dropping = unchanged s h rows (entry (Arrived p begin came) reply) (λ b. off (is_failed reply)) (λ q. off (is_failed reply))
        (λ b. ap (λ (x : Bool). if x then bytes_for b (Arrived p begin came) else None) dropping) is
  restash (Settle p bytes) reply allowed = by_reply (is_had reply || is_failed reply) refl where
    by_reply : (x : Bool) → (is_had reply || is_failed reply) ≡ x → IsStash s (entry (Settle p bytes) reply ∷ h)
        (if x then edit rows p (λ row. []) else rows)
    by_reply true told = checked p bytes reply told
    by_reply false told = unchanged s h rows (entry (Settle p bytes) reply)
        (λ b. off_left (is_failed reply) (p == b.piece) (second (is_had reply) (is_failed reply) told)) (λ q. off (is_failed reply))
        (λ b. nothing_if (stores reply)) is
      where
        second : (a b : Bool) → (a || b) ≡ false → b ≡ false
        second true b none = absurd (false≢true (sym none))
        second false b none = none
  restash (Lose p) reply allowed = by_reply (is_failed reply) refl where
    by_reply : (x : Bool) → is_failed reply ≡ x → IsStash s (entry (Lose p) reply ∷ h) (if x then edit rows p (λ row. []) else rows)
    by_reply true fails = lost_piece p reply fails
    by_reply false passes = unchanged s h rows (entry (Lose p) reply) (λ b. off_left (is_failed reply) (p == b.piece) passes)
        (λ q. off_left (is_failed reply) (p == q) passes) (λ b. nothing_if (stores reply)) is
  restash (Discard p begin) reply allowed = by_reply (is_failed reply) refl where
    by_reply : (x : Bool) → is_failed reply ≡ x
        → IsStash s (entry (Discard p begin) reply ∷ h) (if x then edit rows p (λ row. set row (begin / block_size) []) else rows)
    by_reply true fails = dropped p begin reply allowed fails
    by_reply false passes = unchanged s h rows (entry (Discard p begin) reply)
        (λ b. off_left (is_failed reply) ((p == b.piece) && (begin == b.begin)) passes) (λ q. off (is_failed reply)) (λ b. nothing_if (stores reply)) is
  restash action reply allowed = quiet action reply (λ b. refl) (λ b. refl) (λ p. refl)

abbrev no_blocks : List (List ℕ)
no_blocks = []

empty_row : (n p : ℕ) → get_or (replicate n no_blocks) p no_blocks ≡ no_blocks
empty_row n p = ⊎_elim
    (λ (lt : p < n). get_or-replicate n p no_blocks no_blocks lt)
    (λ (ge : n ≤ p). get_or-eq_default (replicate n no_blocks) no_blocks (let long = length-replicate n no_blocks in omega (arith, ge, long)))
    (cases_lt p n)

-- nothing is kept and nothing is held at first
pub stash_empty : (s : Setting) → IsStash s [] (replicate (piece_count s.torrent) [])
unfolding kept
stash_empty s = record {
  len = length-replicate (piece_count s.torrent) no_blocks;
  wide = λ p. ap (λ (row : List (List ℕ)). length (with_room (block_count s.torrent p) row)) (empty_row (piece_count s.torrent) p)
      ∙ wide_empty (block_count s.torrent p);
  bytes = λ p k lp lk lacking. ap (λ (row : List (List ℕ)). get_or row k []) (empty_row (piece_count s.torrent) p)
      ∙ get_or-eq_default [] [] {n = k} (omega arith);
}
