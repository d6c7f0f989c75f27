-- Each step of the word lock keeps its rule.
use Rattle.std.proofs.Common.{◌≡◌, ◌≢◌, ℕ, ◌≤◌, ◌==◌, Bool, true, false, Some, None, zero, suc, List, [], ◌∷◌, ◌++◌, get_or, set, refl, sym, ap, ◌∙◌}
use Rattle.std.proofs.Common.{subst, ⊎_elim, arith, length-set, get_or-set_same, le_refl}
use mathlib.Core.Logic.{dite}
use mathlib.Core.Option.{none, some, some-injective, some-ne-none}
use native.Mathlib.Decide.{ℕ_discrete}
use lib.ListN.{get_elem?}
use prog.Atomic.{either}
use Rattle.atomic_table.specs.Table.{Step, step, keeps, takes, gives, rest, stepped, Allows}
use Rattle.atomic_table.proofs.Lists.{at_set, set_here, set_again, exchanged}
use Rattle.bt_history.specs.Setting.{Setting}
use Rattle.bt_history.specs.declared.event.Event.{Event}
use Rattle.bt_picker.specs.Positions.{DeskState}
use Rattle.bt_shared.specs.declared.view.DeskView.{DeskView}
use Rattle.bt_shared.specs.Seen.{Each, GoesOn, IsAmong, own}
use Rattle.bt_shared.specs.Guard.{Slot, Table, Sat, desk, Fits, Apart, Guards, Saw, seeing, Takes, Frees, MayGive, MayTake}
use Rattle.bt_shared.proofs.Histories.{each_map, own_other, knows_all, knows_more}

-- a fact of each seat, where one has a new view
pub each_set : (P : ℕ → DeskView → Type 0) (vs : List DeskView) (me : ℕ) (w : DeskView) → P me w →
    ((i : ℕ) (u : DeskView) → i ≢ me → get_elem? vs i ≡ some u → P i u)
    → (i : ℕ) (u : DeskView) → get_elem? (set vs me w) i ≡ some u → P i u
each_set P vs me w mine others i u at =
    ⊎_elim
    (λ (t : (i ≡ me) × (w ≡ u)). subst (λ (x : ℕ × DeskView). P x.0 x.1) (λ k. (sym t.0 k, t.1 k)) mine)
    (λ (t : (i ≢ me) × (get_elem? vs i ≡ some u)). others i u t.0 t.1)
    (at_set vs me i w u at)

-- the seat's view before, which speaks for the same workers
pub record Was (vs : List DeskView) (i : ℕ) (u : DeskView) : Type 0 where
  pub old : DeskView
  pub at : get_elem? vs i ≡ some old
  pub workers : old.part.workers ≡ u.part.workers
  pub maker : old.maker ≡ u.maker
  pub next : old.next ≤ u.next

-- the seats stay apart where a view speaks for the same workers
pub apart_same : (vs us : List DeskView) → ((i : ℕ) (u : DeskView) → get_elem? us i ≡ some u → Was vs i u) → Apart vs → Apart us
apart_same vs us was a = record {
  workers = λ i j v u w av au mv mu.
      let x = was i v av in let y = was j u au in
      a.workers i j x.old y.old w x.at y.at (subst (IsAmong w) (sym x.workers) mv) (subst (IsAmong w) (sym y.workers) mu);
  makers = λ i j v u av au mv mu.
      let x = was i v av in let y = was j u au in
      a.makers i j x.old y.old x.at y.at (x.maker ∙ mv) (y.maker ∙ mu);
  made = λ i j v u w av au mv mu.
      let x = was i v av in let y = was j u au in
      let below = a.made i j x.old y.old w x.at y.at (x.maker ∙ mv) (subst (IsAmong w) (sym y.workers) mu) in
      omega (arith, below, x.next);
}

pub apart_set : (vs : List DeskView) (me : ℕ) (v w : DeskView) → get_elem? vs me ≡ some v → v.part.workers ≡ w.part.workers → v.maker ≡ w.maker →
    v.next ≤ w.next → Apart vs → Apart (set vs me w)
apart_set vs me v w at same-workers same-maker same-next a =
    apart_same vs (set vs me w)
    (each_set (Was vs) vs me w
    (record { old = v; at = at; workers = same-workers; maker = same-maker; next = same-next })
    (λ i u _ here. record { old = u; at = here; workers = refl; maker = refl; next = le_refl u.next }))
    a

-- a seat that has seen the whole journal
fits_all : (setting : Setting) (h h' : List Event) (taken : Bool) (v : DeskView) → v.spent ≡ false → Fits setting h v →
    Fits setting h' (seeing taken v h')
fits_all setting h h' taken v live f =
    let knows = knows_all h' v.part.workers in
    record { same = λ _. f.same live; part = knows; parts = (record { knows = knows; among = λ w x. x }, tt); below = f.below; once = f.once }

first_of_all : List (ℕ × Slot) → Slot
first_of_all [] = None
first_of_all (x ∷ xs) = x.1

carries_one : (d x : DeskState) → ◌≡◌ {A = List (ℕ × Slot)} ((0, Some d) ∷ []) ((0, Some x) ∷ []) → d ≡ x
unfolding first_of_all
carries_one d x is = let same : Some d ≡ Some x = ap first_of_all is in cc

pub set_at : {A : Type 0} (l : List A) (i : ℕ) (a b : A) → get_elem? l i ≡ some a → get_elem? (set l i b) i ≡ some b
set_at [] i a b e = absurd (some-ne-none a (sym e))
set_at (x ∷ xs) zero a b e = refl
set_at (x ∷ xs) (suc i) a b e = set_at xs i a b e

not_true : (b : Bool) → (b ≡ true → ⊥) → b ≡ false
not_true true h = absurd (h refl)
not_true false h = refl

-- workers that have no seat yet have made no call
module _ (h : List Event) (makers : List ℕ) (w : ℕ) (away : IsAmong w makers → ⊥) (clean : own w h ≡ []) where
  fresh_newer : (newer : List Event) → Each (λ (e : Event). IsAmong e.worker makers) newer → own w (newer ++ h) ≡ []
  fresh_newer [] theirs = clean
  fresh_newer (e ∷ newer) theirs =
      own_other w (newer ++ h) e (λ is. away (subst (λ (x : ℕ). IsAmong x makers) is theirs.0)) ∙ fresh_newer newer theirs.1

fresh_more : (h h' : List Event) (makers : List ℕ) (w : ℕ) → GoesOn makers h h' → (IsAmong w makers → ⊥) → own w h ≡ [] → own w h' ≡ []
fresh_more h h' makers w goes away clean = ap (own w) goes.is ∙ fresh_newer h makers w away clean goes.newer goes.theirs

-- a step that takes the word leaves no 0
pub exchange_marks : (x : ℕ) → either (x == 0) 1 x ≢ 0
exchange_marks x = exchanged x 0 1 (λ y. y ≢ 0) (λ _ e. absurd (omega (arith, e))) (λ taken. taken)

module _ (setting : Setting) (n me worker : ℕ) (v : DeskView) (live : v.spent ≡ false) (speaks : IsAmong worker v.part.workers) where
  -- the word was free: the seat takes it, with the desk
  take_free : (mark : ℕ) → mark ≢ 0 → (s : Table) (r : Guards setting s) → get_elem? s.views me ≡ some v → get_or s.words 0 0 ≡ 0
      → Guards setting (stepped s 0 mark me [] (seeing true v r.journal) (takes 0 (Some (desk setting r.journal))))
  take_free mark marks s r at is-free =
      let h = r.journal in
      let w : DeskView = seeing true v h in
      let free = r.free is-free in
      let wide = r.words in
      let word : get_or (set s.words 0 mark) 0 0 ≡ mark = get_or-set_same s.words 0 mark 0 (omega arith) in
      record {
        journal = h;
        words = length-set s.words 0 mark ∙ r.words;
        slots = length-set s.homes 0 none ∙ r.slots;
        free = λ e. absurd (marks (sym word ∙ e));
        taken = λ _. record {
          away = set_here s.homes 0 none (omega (arith, r.slots));
          seat = me;
          view = w;
          at = set_at s.views me v w at;
          says = refl;
          found = refl;
          worker = worker;
          speaks = speaks;
          only = each_set (λ i u. u.taken ≡ true → i ≡ me) s.views me w (λ _. refl)
              (λ i u _ there is. let no = free.none_taken i u there in absurd cc);
        };
        fresh = each_set (λ i u. (x : ℕ) → u.maker ≡ true → u.next ≤ x → own x h ≡ []) s.views me w (r.fresh me v at)
            (λ i u _ there. r.fresh i u there);
        each = each_set (λ _ u. Fits setting h u) s.views me w (fits_all setting h h true v live (r.each me v at)) (λ i u _ there. r.each i u there);
        apart = apart_set s.views me v w at refl refl (le_refl v.next) r.apart;
      }

  -- a failed try, which may leave another mark
  take_failed : (mark : ℕ) → mark ≢ 0 → (s : Table) → Guards setting s → get_elem? s.views me ≡ some v → get_or s.words 0 0 ≢ 0
      → Guards setting (stepped s 0 mark me [] v keeps)
  take_failed mark marks s r at is-taken =
      let wide = r.words in
      let word : get_or (set s.words 0 mark) 0 0 ≡ mark = get_or-set_same s.words 0 mark 0 (omega arith) in
      let t = r.taken is-taken in
      let P : List DeskView → Type 0 = λ vs. Guards setting record { words = set s.words 0 mark; homes = s.homes; views = vs } in
      subst P (sym (set_again s.views me v at)) record {
        journal = r.journal;
        words = length-set s.words 0 mark ∙ r.words;
        slots = r.slots;
        free = λ e. absurd (marks (sym word ∙ e));
        taken = λ _. record {
          away = t.away;
          seat = t.seat;
          view = t.view;
          at = t.at;
          says = t.says;
          found = t.found;
          worker = t.worker;
          speaks = t.speaks;
          only = t.only;
        };
        fresh = r.fresh;
        each = r.each;
        apart = r.apart;
      }

  -- a step that puts a number into the word which isn't 0
  pub may_take : v.taken ≡ false → (f : ℕ → ℕ) → ((x : ℕ) → f x ≢ 0) → (st : Step Slot) →
      Allows (Guards setting) n me (v, []) 0 f (Takes st (v, []))
  may_take idle f marks st s r slots at fits =
      let x : ℕ = get_or s.words 0 0 in
      dite (ℕ_discrete x 0)
      (λ is-free.
      let h = r.journal in (
        seeing true v h,
        takes 0 (Some (desk setting h)),
        (r.free is-free).home,
        take_free (f x) (marks x) s r at is-free,
        ((λ _. (desk setting h, (r.each me v at).same live, r.each me v at, refl)), λ taken. absurd (taken is-free)),
      ))
      (λ is-taken. (v, keeps, tt, take_failed (f x) (marks x) s r at is-taken, ((λ e. absurd (is-taken e)), λ _. refl)))

module _ (setting : Setting) (n me : ℕ) (v : DeskView) (live : v.spent ≡ false) where
  -- the word is taken, by this seat, which gives the desk back
  free_taken : (d : DeskState) → MayGive v d → (s : Table) (r : Guards setting s) → get_elem? s.views me ≡ some v
      → Guards setting (stepped s 0 0 me ((0, Some d) ∷ []) (seeing false v d.history) gives)
  free_taken d m s r at =
      let w : DeskView = seeing false v d.history in
      let not-free : get_or s.words 0 0 ≢ 0 = λ e. let no = (r.free e).none_taken me v at in let yes = m.taken in absurd cc in
      let t = r.taken not-free in
      let mine : me ≡ t.seat = t.only me v at m.taken in
      let view-is : t.view ≡ v = some-injective t.view v (sym t.at ∙ (ap (get_elem? s.views) (sym mine) ∙ at)) in
      let journal-is : v.part.seen ≡ r.journal = ap (λ (u : DeskView). u.part.seen) (sym view-is) ∙ t.found in
      let goes : GoesOn v.part.workers r.journal d.history = subst (λ h. GoesOn v.part.workers h d.history) journal-is m.goes in
      let same : d.setting ≡ setting = m.same ∙ (r.each me v at).same live in
      let word : get_or (set s.words 0 0) 0 0 ≡ 0 = get_or-set_same s.words 0 0 0 (omega (arith, r.words)) in
      record {
        journal = d.history;
        words = length-set s.words 0 0 ∙ r.words;
        slots = length-set s.homes 0 (some (Some d)) ∙ r.slots;
        free = λ _. record {
          home = set_here s.homes 0 (some (Some d)) (omega (arith, r.slots)) ∙ ap (λ a. some (some (Some (desk a d.history)))) same;
          none_taken = each_set (λ i u. u.taken ≡ false) s.views me w refl
              (λ i u other there. not_true u.taken (λ is. other (t.only i u there is ∙ sym mine)));
        };
        taken = λ no. absurd (no word);
        fresh = each_set (λ i u. (x : ℕ) → u.maker ≡ true → u.next ≤ x → own x d.history ≡ []) s.views me w
            (λ x makes le. fresh_more r.journal d.history v.part.workers x goes
            (λ among. let below = r.apart.made me me v v x at at makes among in absurd (omega arith)) (r.fresh me v at x makes le))
            (λ i u _ there x makes le. fresh_more r.journal d.history v.part.workers x goes
            (λ among. let below = r.apart.made i me u v x there at makes among in absurd (omega arith)) (r.fresh i u there x makes le));
        each = each_set (λ _ u. Fits setting d.history u) s.views me w (fits_all setting r.journal d.history false v live (r.each me v at))
            (λ i u other there.
            let f = r.each i u there in
            let away : (x : ℕ) → IsAmong x u.part.workers → IsAmong x v.part.workers → ⊥ = λ x a b. other (r.apart.workers i me u v x there at a b) in
            record {
              same = f.same;
              part = knows_more r.journal d.history v.part.workers u.part.workers u.part.seen goes away f.part;
              parts = each_map (Saw r.journal u.part.workers) (Saw d.history u.part.workers) u.parts
                  (λ p saw. record {
                    knows = knows_more r.journal d.history v.part.workers p.workers p.seen goes (λ x a. away x (saw.among x a))
                        saw.knows;
                    among = saw.among;
                  })
                  f.parts;
              below = f.below;
              once = f.once;
            });
        apart = apart_set s.views me v w at refl refl (le_refl v.next) r.apart;
      }

  pub may_free : (d : DeskState) → MayGive v d → Allows (Guards setting) n me (v, (0, Some d) ∷ []) 0 (λ _. 0)
      (λ _. Frees (step n 0 0 0 none) (v, (0, Some d) ∷ []) 0)
  may_free d m s r slots at fits = (
    seeing false v d.history,
    gives,
    tt,
    free_taken d m s r at,
    λ x is. let same = carries_one d x is in let F : DeskState → Sat = λ y. (seeing false v y.history, []) in ap F same,
  )

-- The same for a seat with its slots.
pub seat_may_take : (setting : Setting) (n id : ℕ) (m : Sat) → MayTake m → (f : ℕ → ℕ) → ((x : ℕ) → f x ≢ 0) → (st : Step Slot) →
    Allows (Guards setting) n id m 0 f (Takes st m)
seat_may_take setting n id m may f marks st =
    let P : List (ℕ × Slot) → Type 0 = λ cs. Allows (Guards setting) n id (m.0, cs) 0 f (Takes st (m.0, cs)) in
    subst P (sym may.idle.empty) (may_take setting n id may.worker m.0 may.idle.live may.speaks may.idle.idle f marks st)

pub seat_may_free : (setting : Setting) (n id : ℕ) (m : Sat) (d : DeskState) → m.1 ≡ (0, Some d) ∷ [] → m.0.spent ≡ false → MayGive m.0 d →
    Allows (Guards setting) n id m 0 (λ _. 0) (λ _. Frees (step n 0 0 0 none) m 0)
seat_may_free setting n id m d carries live free =
    let P : List (ℕ × Slot) → Type 0 = λ cs. Allows (Guards setting) n id (m.0, cs) 0 (λ _. 0) (λ _. Frees (step n 0 0 0 none) (m.0, cs) 0) in
    subst P (sym carries) (may_free setting n id m.0 live d free)

-- a seat that has taken a slot may exchange its value
pub has_slot : (m : Sat) (x : Slot) (cs : List (ℕ × Slot)) → m.1 ≡ (0, x) ∷ cs → (old : Slot) × (m.1 ≡ (0, old) ∷ rest m.1)
has_slot m x cs e = (x, e ∙ ap (λ (l : List (ℕ × Slot)). (0, x) ∷ l) (sym (ap rest e)))

-- the slot that it holds once it put a value there
pub put_there : (m m' : Sat) (x : Slot) → m.1 ≡ (0, None) ∷ [] → m' ≡ (m.0, (0, x) ∷ rest m.1) → m' ≡ (m.0, (0, x) ∷ [])
put_there m m' x away is = let P : List (ℕ × Slot) → Type 0 = λ cs. m' ≡ (m.0, (0, x) ∷ cs) in subst P (ap rest away) is
