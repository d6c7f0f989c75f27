-- What a closed table tells of the desk in its slot, and of the seats that were joined before.
use Rattle.std.proofs.Common.{◌≡◌, ◌≢◌, ◌⊎◌, ℕ, ◌≤◌, ◌==◌, true, false, List, [], ◌∷◌, ◌++◌, Option, None, Some, length, refl, sym, ap, ◌∙◌, subst}
use Rattle.std.proofs.Common.{arith, ne_eqb, inl, inr, ⊎_elim}
use Rattle.std.proofs.lemmas.List.{length-map}
use Rattle.std.specs.Prelude.{IfNone, IfSome, IsSome, IsSomeAnd, slice_index}
use mathlib.Core.Logic.{dite}
use mathlib.Core.Option.{some, some-injective}
use native.Mathlib.Decide.{ℕ_discrete}
use lib.ListN.{get_elem?}
use Rattle.atomic_table.specs.Seated.{TableId}
use Rattle.atomic_table.specs.Table.{Final, Seen}
use Rattle.atomic_table.specs.declared.shared.Seat.{Seat}
use Rattle.bt_history.specs.History.{History}
use Rattle.bt_history.specs.Legal.{IsLegal}
use Rattle.bt_history.specs.Setting.{Setting}
use Rattle.bt_picker.specs.Positions.{DeskState}
use Rattle.bt_shared.specs.declared.view.Part.{Part}
use Rattle.bt_shared.specs.declared.view.DeskView.{DeskView}
use Rattle.bt_shared.specs.Closing.{AreCounted, EachKnows, EachOwn, IsEntered, IsEveryone, IsJoined, parts_of, slot_if_free, workers_of}
use Rattle.bt_shared.specs.Guard.{Guards, IsIdle, IsTaken, Sat, Saw, Slot, Table, desk, part}
use Rattle.bt_shared.specs.Passes.{IsSeatOf, PassState}
use Rattle.bt_shared.specs.Seen.{Each}
use Rattle.bt_shared.proofs.Counting.{all_marks, everyone}

first_word : (ws : List ℕ) → length ws ≡ 1 → get_elem? ws 0 ≡ some (slice_index ws 0)
first_word [] one = absurd (omega (arith, one))
first_word (x ∷ xs) one = refl

first_of : {A : Type 0} (xs : List A) → length xs ≡ 1 → (x : A) × (get_elem? xs 0 ≡ some x)
first_of [] one = absurd (omega (arith, one))
first_of (x ∷ xs) one = (x, refl)

-- the table's last state, and the value that was taken out of its slot if the word was free
module _ (setting : Setting) (ws : List ℕ) (xs : List Slot) (result : Slot)
    (is : (word : ℕ) (slot : Slot) → get_elem? ws 0 ≡ some word → get_elem? xs 0 ≡ some slot → result ≡ slot_if_free word slot) where
  module _ (s : Table) (r : Guards setting s) (same : s.words ≡ ws) (wide : length s.homes ≡ length xs)
      (home : (k : ℕ) (y : Slot) → get_elem? s.homes k ≡ some (some y) → get_elem? xs k ≡ some y) where
    found : ((slice_index s.words 0 ≡ 0) × (result ≡ Some (desk setting r.journal))) ⊎ ((slice_index s.words 0 ≢ 0) × (result ≡ None))
    found =
        let word = slice_index s.words 0 in
        let at : get_elem? ws 0 ≡ some word = subst (λ (l : List ℕ). get_elem? l 0 ≡ some word) same (first_word s.words r.words) in
        dite (ℕ_discrete word 0)
        (λ free. inl (
          free,
          is word (Some (desk setting r.journal)) at (home 0 (Some (desk setting r.journal)) (r.free free).home)
              ∙ ap (λ (n : ℕ). slot_if_free n (Some (desk setting r.journal))) free,
        ))
        (λ taken.
        let slot = first_of xs (sym wide ∙ r.slots) in
        let off : (word == 0) ≡ false = ne_eqb word 0 taken in
        inr (taken, is word slot.0 at slot.1 ∙ rw off refl))

    setting_found : IfSome result (λ (d : DeskState). d.setting ≡ setting)
    setting_found = ⊎_elim
        (λ there. subst (λ (o : Slot). IfSome o (λ (d : DeskState). d.setting ≡ setting)) (sym there.1) refl)
        (λ away. subst (λ (o : Slot). IfSome o (λ (d : DeskState). d.setting ≡ setting)) (sym away.1) tt)
        found

    module _ (id : ℕ) (m : Sat) (at : get_elem? s.views id ≡ some m.0) (idle : m.0.taken ≡ false) where
      saw_found : IfSome result (λ (d : DeskState). Each (Saw d.history m.0.part.workers) m.0.parts)
      saw_found = ⊎_elim
          (λ there. subst (λ (o : Slot). IfSome o (λ (d : DeskState). Each (Saw d.history m.0.part.workers) m.0.parts)) (sym there.1)
          (r.each id m.0 at).parts)
          (λ away. subst (λ (o : Slot). IfSome o (λ (d : DeskState). Each (Saw d.history m.0.part.workers) m.0.parts)) (sym away.1) tt)
          found

      -- who has taken the word speaks for a worker, and so would be this seat
      not_taken : IsEveryone setting m.0.part.workers → IsTaken r.journal s → ⊥
      not_taken all t =
          let below = (r.each t.seat t.view t.at).below t.worker t.speaks in
          let here : t.seat ≡ id = r.apart.workers t.seat id t.view m.0 t.worker t.at at t.speaks (all t.worker below) in
          let view-is : t.view ≡ m.0 = some-injective t.view m.0 (sym t.at ∙ (ap (get_elem? s.views) here ∙ at)) in
          let on : m.0.taken ≡ true = ap (λ (v : DeskView). v.taken) (sym view-is) ∙ t.says in
          absurd cc

      free_found : IsEveryone setting m.0.part.workers → IsSome result
      free_found all = ⊎_elim
          (λ there. subst (λ (o : Slot). IsSome o) (sym there.1) refl)
          (λ away. absurd (not_taken all (r.taken away.0)))
          found

  pub found_setting : Final (Guards setting) ws xs → IfSome result (λ (d : DeskState). d.setting ≡ setting)
  found_setting last = setting_found last.0 last.1 last.2 last.3 last.4

  module _ (id : ℕ) (m : Sat) (idle : m.0.taken ≡ false) (last : Final (Seen (Guards setting) id m.0) ws xs) where
    pub seat_setting : IfSome result (λ (d : DeskState). d.setting ≡ setting)
    seat_setting = setting_found last.0 last.1.0 last.2 last.3 last.4

    pub seat_saw : IfSome result (λ (d : DeskState). Each (Saw d.history m.0.part.workers) m.0.parts)
    seat_saw = saw_found last.0 last.1.0 last.2 last.3 last.4 id m last.1.1 idle

    pub seat_counted : AreCounted setting m.0.part.workers
    seat_counted = let f = last.1.0.each id m.0 last.1.1 in record { below = f.below; once = f.once }

    pub seat_free : IsEveryone setting m.0.part.workers → IsSome result
    seat_free = free_found last.0 last.1.0 last.2 last.3 last.4 id m last.1.1 idle

-- ---- passes whose seats were joined

known : (h : History) (workers : List ℕ) (passes : List PassState) → Each (Saw h workers) (parts_of passes) → EachKnows h passes
known h workers [] saw = tt
known h workers (p ∷ ps) saw = (saw.0.knows, known h workers ps saw.1)

-- one more pass's seat, into which the others were joined
pub joined_more : (others : Option (Seat Slot DeskView)) (seat result : Seat Slot DeskView) (rest : List PassState) (p : PassState) (w : ℕ) →
    IsSeatOf w seat.me
    → w ≡ p.worker → seat.me.0.part.seen ≡ p.seen → IsIdle result.me → IfNone others (result ≡ seat)
    → IfSome others (λ (s : Seat Slot DeskView). result.me.0.part.workers ≡ seat.me.0.part.workers ++ s.me.0.part.workers)
    → IfSome others (λ (s : Seat Slot DeskView). result.me.0.parts ≡ seat.me.0.parts ++ s.me.0.parts)
    → IfNone others (rest ≡ []) → (T : TableId) → IfSome others (λ (s : Seat Slot DeskView). (s.table_id ≡ T) × IsJoined rest s.me) →
    IsJoined (p ∷ rest) result.me
joined_more None seat result rest p w is worker seen idle none workers parts empty T joined = record {
  idle = idle;
  workers = ap (λ (s : Seat Slot DeskView). s.me.0.part.workers) none ∙ (is.alone ∙ (λ k. worker k ∷ workers_of (sym empty k)));
  parts = ap (λ (s : Seat Slot DeskView). s.me.0.parts) none ∙ (is.whole ∙ (λ k. part (worker k ∷ []) (seen k) ∷ parts_of (sym empty k)));
}
joined_more (Some s) seat result rest p w is worker seen idle none workers parts empty T joined = record {
  idle = idle;
  workers = workers ∙ (ap (λ (ws : List ℕ). ws ++ s.me.0.part.workers) is.alone ∙ (λ k. worker k ∷ joined.1.workers k));
  parts = parts ∙ (ap (λ (ps : List Part). ps ++ s.me.0.parts) is.whole ∙ (λ k. part (worker k ∷ []) (seen k) ∷ joined.1.parts k));
}

module _ (s : Setting) (passes : List PassState) (m : Sat) (joined : IsJoined passes m) where
  pub joined_knows : (result : Slot) → IfSome result (λ (d : DeskState). Each (Saw d.history m.0.part.workers) m.0.parts) →
      IfSome result (λ (d : DeskState). EachKnows d.history passes)
  joined_knows None saw = tt
  joined_knows (Some d) saw = known d.history m.0.part.workers passes (subst (Each (Saw d.history m.0.part.workers)) joined.parts saw)

  -- with a pass of each worker all speak for themselves
  joined_everyone : AreCounted s m.0.part.workers → length passes ≡ s.workers → IsEveryone s m.0.part.workers
  joined_everyone counted all =
      everyone s m.0.part.workers counted (ap length joined.workers ∙ (length-map passes (λ (p : PassState). p.worker) ∙ all))

  -- and what is shared is there
  pub joined_some : (result : Slot) → AreCounted s m.0.part.workers → (IsEveryone s m.0.part.workers → IsSome result) → length passes ≡ s.workers
      → IsSome result
  joined_some result counted free all = free (joined_everyone counted all)

  -- and no entry is missing
  pub joined_all : (result : Slot) → IfSome result (λ (d : DeskState). d.setting ≡ s) → IfSome result (λ (d : DeskState). IsLegal d.setting d.history)
      → IfSome result (λ (d : DeskState). EachKnows d.history passes) → AreCounted s m.0.part.workers →
      (IsEveryone s m.0.part.workers → IsSome result)
      → EachOwn passes → length passes ≡ s.workers → IsSomeAnd result (λ (d : DeskState). IsEntered d passes)
  joined_all result setting legal knows counted free own all =
      let each = joined_everyone counted all in
      go result setting legal knows (free each) each
    where
      go : (result : Slot) → IfSome result (λ (d : DeskState). d.setting ≡ s) → IfSome result (λ (d : DeskState). IsLegal d.setting d.history)
          → IfSome result (λ (d : DeskState). EachKnows d.history passes) → IsSome result → IsEveryone s m.0.part.workers →
          IsSomeAnd result (λ (d : DeskState). IsEntered d passes)
      go None setting legal knows is each = absurd cc
      go (Some d) setting legal knows is each =
          all_marks s d.history passes (subst (λ (t : Setting). IsLegal t d.history) setting legal) knows own
          (subst (AreCounted s) joined.workers counted) (subst (IsEveryone s) joined.workers each)

-- the same, where the seats of the passes were joined into one, if there are passes
module _ (s : Setting) (passes : List PassState) (T : TableId) (result : Slot) where
  pub closed_knows : (all : Option (Seat Slot DeskView)) → IfNone all (passes ≡ []) →
      IfSome all (λ (seat : Seat Slot DeskView). (seat.table_id ≡ T) × IsJoined passes seat.me)
      → IfSome all (λ (seat : Seat Slot DeskView). IfSome result (λ (d : DeskState). Each (Saw d.history seat.me.0.part.workers) seat.me.0.parts))
      → IfSome result (λ (d : DeskState). EachKnows d.history passes)
  closed_knows None empty joined saw = go result
    where
      go : (o : Slot) → IfSome o (λ (d : DeskState). EachKnows d.history passes)
      go None = tt
      go (Some d) = rw empty tt
  closed_knows (Some seat) empty joined saw = joined_knows s passes seat.me joined.1 result saw

  pub closed_all : (all : Option (Seat Slot DeskView)) → 1 ≤ s.workers → IfNone all (passes ≡ []) →
      IfSome all (λ (seat : Seat Slot DeskView). (seat.table_id ≡ T) × IsJoined passes seat.me)
      → IfSome result (λ (d : DeskState). d.setting ≡ s) → IfSome result (λ (d : DeskState). IsLegal d.setting d.history)
      → IfSome result (λ (d : DeskState). EachKnows d.history passes) →
      IfSome all (λ (seat : Seat Slot DeskView). AreCounted s seat.me.0.part.workers)
      → IfSome all (λ (seat : Seat Slot DeskView). IsEveryone s seat.me.0.part.workers → IsSome result) → EachOwn passes
      → length passes ≡ s.workers → IsSomeAnd result (λ (d : DeskState). IsEntered d passes)
  closed_all None one empty joined setting legal knows counted free own full = let none : length passes ≡ 0 = ap length empty in
      absurd (omega (arith, none, full, one))
  closed_all (Some seat) one empty joined setting legal knows counted free own full =
      joined_all s passes seat.me joined.1 result setting legal knows counted free own full

  pub closed_some : (all : Option (Seat Slot DeskView)) → 1 ≤ s.workers → IfNone all (passes ≡ []) →
      IfSome all (λ (seat : Seat Slot DeskView). (seat.table_id ≡ T) × IsJoined passes seat.me)
      → IfSome all (λ (seat : Seat Slot DeskView). AreCounted s seat.me.0.part.workers)
      → IfSome all (λ (seat : Seat Slot DeskView). IsEveryone s seat.me.0.part.workers → IsSome result) → length passes ≡ s.workers → IsSome result
  closed_some None one empty joined counted free full = let none : length passes ≡ 0 = ap length empty in absurd (omega (arith, none, full, one))
  closed_some (Some seat) one empty joined counted free full = joined_some s passes seat.me joined.1 result counted free full
