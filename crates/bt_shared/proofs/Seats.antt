-- Seats that are made, copied and joined keep the rule of the word lock.
use Rattle.std.proofs.Common.{◌≡◌, ◌≢◌, ℕ, ◌<◌, ◌≤◌, ◌⊎◌, Bool, true, false, Some, zero, suc, List, [], ◌∷◌, ◌++◌, length, set, nat_lt}
use Rattle.std.proofs.Common.{if◌then◌else◌, refl, sym, ap, ◌∙◌, subst, inl, inr, ⊎_elim, arith, le_refl}
use mathlib.Core.Logic.{dite}
use mathlib.Core.Option.{some, some-injective, some-ne-none}
use native.Mathlib.Decide.{ℕ_discrete}
use lib.ListN.{get_elem?}
use Rattle.atomic_table.specs.Table.{Splits, Joins, opening}
use Rattle.atomic_table.proofs.Lists.{set_else, at_longer}
use Rattle.std.proofs.lemmas.Bool.{ltb-true, ltb-false}
use Rattle.bt_history.specs.Setting.{Setting}
use Rattle.bt_history.specs.declared.event.Event.{Event}
use Rattle.bt_shared.specs.declared.view.Part.{Part}
use Rattle.bt_shared.specs.declared.view.DeskView.{DeskView}
use Rattle.bt_shared.specs.Seen.{Knows, IsAmong, own}
use Rattle.bt_shared.specs.Guard.{Table, desk, Fits, Apart, Guards, Saw, maker, making, newcomer_view, witness, longer, meeting, spent_view}
use Rattle.bt_shared.proofs.Histories.{apart_append, each_append, each_map, knows_nothing, knows_longer, starts_empty, starts_shorter, among_append}
use Rattle.bt_shared.proofs.Histories.{among_left, among_right}
use Rattle.bt_shared.proofs.Keeps.{Was, each_set, apart_same, set_at}

-- an entry of a longer list, with its place
at_end : {A : Type 0} (l : List A) (a b : A) (j : ℕ) → get_elem? (l ++ a ∷ []) j ≡ some b → (get_elem? l j ≡ some b) ⊎ ((j ≡ length l) × (a ≡ b))
at_end [] a b zero e = inr (refl, some-injective a b e)
at_end [] a b (suc j) e = absurd (some-ne-none b (sym e))
at_end (x ∷ xs) a b zero e = inl e
at_end (x ∷ xs) a b (suc j) e = ⊎_elim inl (λ t. inr (ap suc t.0, t.1)) (at_end xs a b j e)

-- what a step on the views alone leaves of a seat that was there
record Stays (s : Table) (i : ℕ) (u : DeskView) : Type 0 where
  old : DeskView
  at : get_elem? s.views i ≡ some old
  taken : old.taken ≡ u.taken

-- the rule after a step that changes views alone
reviewed : (setting : Setting) (s : Table) (r : Guards setting s) (us : List DeskView)
    → ((i : ℕ) (u : DeskView) → get_elem? us i ≡ some u → Stays s i u ⊎ (u.taken ≡ false))
    → ((i : ℕ) (v : DeskView) → get_elem? s.views i ≡ some v → v.taken ≡ true →
    (u : DeskView) × (get_elem? us i ≡ some u) × (u.taken ≡ true) × (u.part ≡ v.part))
    → ((i : ℕ) (u : DeskView) → get_elem? us i ≡ some u → (w : ℕ) → u.maker ≡ true → u.next ≤ w → own w r.journal ≡ [])
    → ((i : ℕ) (u : DeskView) → get_elem? us i ≡ some u → Fits setting r.journal u)
    → Apart us
    → Guards setting record { words = s.words; homes = s.homes; views = us }
reviewed setting s r us back forth fresh fits apart = record {
  journal = r.journal;
  words = r.words;
  slots = r.slots;
  free = λ is-free. let f = r.free is-free in record {
    home = f.home;
    none_taken = λ i u at. ⊎_elim (λ (t : Stays s i u). sym t.taken ∙ f.none_taken i t.old t.at) (λ off. off) (back i u at);
  };
  taken = λ is-taken. let t = r.taken is-taken in let new = forth t.seat t.view t.at t.says in record {
    away = t.away;
    seat = t.seat;
    view = new.0;
    at = new.1;
    says = new.2;
    found = ap (λ (p : Part). p.seen) new.3 ∙ t.found;
    worker = t.worker;
    speaks = subst (λ (p : Part). IsAmong t.worker p.workers) (sym new.3) t.speaks;
    only = λ i u at on. ⊎_elim (λ (o : Stays s i u). t.only i o.old o.at (o.taken ∙ on)) (λ off. absurd cc) (back i u at);
  };
  fresh = fresh;
  each = fits;
  apart = apart;
}

apart_more : (vs : List DeskView) (x : DeskView) → Apart vs → x.maker ≡ false
    → ((w i : ℕ) (u : DeskView) → IsAmong w x.part.workers → get_elem? vs i ≡ some u → IsAmong w u.part.workers → ⊥)
    → ((w i : ℕ) (u : DeskView) → IsAmong w x.part.workers → get_elem? vs i ≡ some u → u.maker ≡ true → w < u.next)
    → Apart (vs ++ x ∷ [])
apart_more vs x a plain others below = record {
  workers = λ i j v u w av au mv mu.
      ⊎_elim
      (λ ov. ⊎_elim (λ ou. a.workers i j v u w ov ou mv mu) (λ nu.
      absurd (others w i v (subst (λ (y : DeskView). IsAmong w y.part.workers) (sym nu.1) mu) ov mv)) (at_end vs x u j au))
      (λ nv. ⊎_elim (λ ou. absurd (others w j u (subst (λ (y : DeskView). IsAmong w y.part.workers) (sym nv.1) mv) ou mu)) (λ nu. nv.0 ∙ sym nu.0)
      (at_end vs x u j au))
      (at_end vs x v i av);
  makers = λ i j v u av au mv mu.
      ⊎_elim
      (λ ov. ⊎_elim (λ ou. a.makers i j v u ov ou mv mu) (λ nu. let is = ap (λ (y : DeskView). y.maker) nu.1 in absurd cc) (at_end vs x u j au))
      (λ nv. let is = ap (λ (y : DeskView). y.maker) nv.1 in absurd cc)
      (at_end vs x v i av);
  made = λ i j v u w av au mv mu.
      ⊎_elim
      (λ ov. ⊎_elim (λ ou. a.made i j v u w ov ou mv mu) (λ nu. below w i v (subst (λ (y : DeskView). IsAmong w y.part.workers) (sym nu.1) mu) ov mv)
      (at_end vs x u j au))
      (λ nv. let is = ap (λ (y : DeskView). y.maker) nv.1 in absurd cc)
      (at_end vs x v i av);
}

-- a table with one seat
one_seat : {A : Type 0} (x y : A) (i : ℕ) → get_elem? (x ∷ []) i ≡ some y → (i ≡ 0) × (x ≡ y)
one_seat x y zero e = (refl, some-injective x y e)
one_seat x y (suc i) e = absurd (some-ne-none y (sym e))

pub opens : (setting : Setting) → Guards setting (opening (0 ∷ []) (Some (desk setting []) ∷ []) (maker setting))
opens setting =
    let P : (DeskView → Type 0) → Type 0 = λ Q. (i : ℕ) (v : DeskView) → get_elem? (maker setting ∷ []) i ≡ some v → Q v in
    record {
      journal = [];
      words = refl;
      slots = refl;
      free = λ _. record { home = refl; none_taken = λ i v at. subst (λ (u : DeskView). u.taken ≡ false) (one_seat (maker setting) v i at).1 refl };
      taken = λ e. absurd (e refl);
      fresh = λ i v at w _ _. refl;
      each = λ i v at. subst (Fits setting []) (one_seat (maker setting) v i at).1 record {
        same = λ _. refl;
        part = knows_nothing [];
        parts =
            (record { knows = knows_nothing []; among = λ w x. x }, tt);
        below = λ w. absurd;
        once = tt;
      };
      apart = record {
        workers = λ i j v u w av au mv mu. (one_seat (maker setting) v i av).0 ∙ sym (one_seat (maker setting) u j au).0;
        makers = λ i j v u av au mv mu. (one_seat (maker setting) v i av).0 ∙ sym (one_seat (maker setting) u j au).0;
        made = λ i j v u w av au mv mu. absurd (subst (λ (y : DeskView). IsAmong w y.part.workers) (sym (one_seat (maker setting) u j au).1) mu);
      };
    }

-- a seat with a new view beside a new seat
module _ (setting : Setting) (me : ℕ) (v left x : DeskView) (live : v.spent ≡ false) (s : Table) (r : Guards setting s)
    (at : get_elem? s.views me ≡ some v)
    (same-taken : v.taken ≡ left.taken) (same-part : v.part ≡ left.part) (same-maker : v.maker ≡ left.maker) (more : v.next ≤ left.next)
    (fits-left : Fits setting r.journal left)
    (off : x.taken ≡ false) (plain : x.maker ≡ false) (fits-x : Fits setting r.journal x)
    (others : (w i : ℕ) (u : DeskView) → IsAmong w x.part.workers → get_elem? s.views i ≡ some u → IsAmong w u.part.workers → ⊥)
    (below : (w : ℕ) → IsAmong w x.part.workers → v.maker ≡ true × (w < left.next)) where
  vs : List DeskView
  vs = set s.views me left

  was : (i : ℕ) (u : DeskView) → get_elem? vs i ≡ some u → Was s.views i u
  unfolding vs
  was = each_set (Was s.views) s.views me left
      (record { old = v; at = at; workers = ap (λ p. p.workers) same-part; maker = same-maker; next = more })
      (λ i u _ there. record { old = u; at = there; workers = refl; maker = refl; next = le_refl u.next })

  stays : (i : ℕ) (u : DeskView) → get_elem? vs i ≡ some u → Stays s i u
  unfolding vs
  stays = each_set (Stays s) s.views me left (record { old = v; at = at; taken = same-taken })
      (λ i u _ there. record { old = u; at = there; taken = refl })

  there : (i : ℕ) (u : DeskView) → get_elem? s.views i ≡ some u → u.taken ≡ true →
      (u' : DeskView) × (get_elem? (vs ++ x ∷ []) i ≡ some u') × (u'.taken ≡ true) × (u'.part ≡ u.part)
  unfolding vs
  there i u here on =
      dite (ℕ_discrete i me)
      (λ e.
      let u-is : v ≡ u = some-injective v u (sym at ∙ (ap (get_elem? s.views) (sym e) ∙ here)) in (
        left,
        at_longer vs (x ∷ []) i left (ap (get_elem? vs) e ∙ set_at s.views me v left at),
        sym same-taken ∙ (ap (λ (y : DeskView). y.taken) u-is ∙ on),
        sym same-part ∙ ap (λ (y : DeskView). y.part) u-is,
      ))
      (λ ne. (u, at_longer vs (x ∷ []) i u (set_else s.views me i left ne ∙ here), on, refl))

  fits : (i : ℕ) (u : DeskView) → get_elem? vs i ≡ some u → Fits setting r.journal u
  unfolding vs
  fits = each_set (λ _ u. Fits setting r.journal u) s.views me left fits-left (λ i u _ here. r.each i u here)

  pub beside : Guards setting record { words = s.words; homes = s.homes; views = set s.views me left ++ x ∷ [] }
  unfolding vs
  beside = reviewed setting s r (vs ++ x ∷ [])
      (λ i u here. ⊎_elim (λ o. inl (stays i u o)) (λ t. inr (ap (λ (y : DeskView). y.taken) (sym t.1) ∙ off)) (at_end vs x u i here))
      there
      (λ i u here w makes le. ⊎_elim
      (λ o. let old = was i u o in r.fresh i old.old old.at w (old.maker ∙ makes) (omega (arith, old.next, le)))
      (λ t. let is = ap (λ (y : DeskView). y.maker) t.1 in absurd cc)
      (at_end vs x u i here))
      (λ i u here. ⊎_elim (λ o. fits i u o) (λ t. subst (Fits setting r.journal) t.1 fits-x) (at_end vs x u i here))
      (apart_more vs x (apart_same s.views vs was r.apart) plain
      (λ w i u among here mine. let old = was i u here in others w i old.old among old.at (subst (IsAmong w) (sym old.workers) mine))
      (λ w i u among here makes.
      let old = was i u here in
      let b = below w among in
      let me-is : i ≡ me = r.apart.makers i me old.old v old.at at (old.maker ∙ makes) b.0 in
      let left-is : left ≡ u = some-injective left u (sym (set_at s.views me v left at) ∙ (ap (get_elem? vs) (sym me-is) ∙ here)) in
      subst (λ (y : DeskView). w < y.next) left-is b.1))

pub makes_newcomer : (setting : Setting) (me : ℕ) (v : DeskView) → v.spent ≡ false → v.maker ≡ true → v.next < v.setting.workers →
    Splits (Guards setting) me v (making v) (newcomer_view v)
makes_newcomer setting me v live makes below s r at =
    let f = r.each me v at in
    let new : Knows r.journal (v.next ∷ []) [] = record {
      begins = starts_empty r.journal;
      complete = λ w among. ⊎_elim (λ e. r.fresh me v at w makes (omega arith)) absurd among;
    } in
    beside setting me v (making v) (newcomer_view v) live s r at refl refl refl (omega arith)
    (record { same = f.same; part = f.part; parts = f.parts; below = f.below; once = f.once })
    refl refl
    (record {
      same = λ _. f.same live;
      part = new;
      parts = (record { knows = new; among = λ w x. x }, tt);
      below = λ w among. ⊎_elim (λ e. subst (λ (t : Setting). w < t.workers) (f.same live) (subst (λ (x : ℕ). x < v.setting.workers) e below)) absurd
          among;
      once = (absurd, tt);
    })
    (λ w i u among here mine. ⊎_elim (λ e. let below = r.apart.made me i v u w at here makes mine in absurd (omega arith)) absurd among)
    (λ w among. (makes, ⊎_elim (λ e. omega arith) absurd among))

pub makes_witness : (setting : Setting) (me : ℕ) (v : DeskView) → v.spent ≡ false → Splits (Guards setting) me v v (witness v)
makes_witness setting me v live s r at =
    let f = r.each me v at in
    let new : Knows r.journal [] v.part.seen = record { begins = f.part.begins; complete = λ w. absurd } in
    beside setting me v v (witness v) live s r at refl refl refl (le_refl v.next) f refl refl
    (record { same = λ _. f.same live; part = new; parts = (record { knows = new; among = λ w x. x }, tt); below = λ w. absurd; once = tt })
    (λ w i u among. absurd among)
    (λ w. absurd)

-- the old seat of a worker after a join, whose place is the joined seat's if it was the other
record Source (vs : List DeskView) (id other w i : ℕ) : Type 0 where
  k : ℕ
  old : DeskView
  at : get_elem? vs k ≡ some old
  among : IsAmong w old.part.workers
  moved : k ≡ other → i ≡ id
  kept : k ≢ other → i ≡ k

knows_meeting : (setting : Setting) (h : List Event) (v u : DeskView) → Fits setting h v → Fits setting h u →
    Knows h (v.part.workers ++ u.part.workers) (longer v.part.seen u.part.seen)
knows_meeting setting h v u f g = go (nat_lt (length v.part.seen) (length u.part.seen)) refl
  where
    both : (seen : List Event) → Knows h v.part.workers seen → Knows h u.part.workers seen → Knows h (v.part.workers ++ u.part.workers) seen
    both seen a b = record {
      begins = a.begins;
      complete = λ w among.
          ⊎_elim (a.complete w) (b.complete w) (among_append w v.part.workers u.part.workers among);
    }

    go : (b : Bool) → nat_lt (length v.part.seen) (length u.part.seen) ≡ b →
        Knows h (v.part.workers ++ u.part.workers) (if b then u.part.seen else v.part.seen)
    go true is = both u.part.seen (knows_longer h v.part.workers v.part.seen u.part.seen g.part.begins
        (starts_shorter h v.part.seen u.part.seen f.part.begins g.part.begins (omega (arith, ltb-true (length v.part.seen) (length u.part.seen) is)))
        f.part) g.part
    go false is = both v.part.seen f.part (knows_longer h u.part.workers u.part.seen v.part.seen f.part.begins
        (starts_shorter h u.part.seen v.part.seen g.part.begins f.part.begins (ltb-false (length v.part.seen) (length u.part.seen) is)) g.part)

saw_more : (h : List Event) (few many : List ℕ) → ((w : ℕ) → IsAmong w few → IsAmong w many) → (p : Part) → Saw h few p → Saw h many p
saw_more h few many more p saw = record { knows = saw.knows; among = λ w x. more w (saw.among w x) }

fits_meeting : (setting : Setting) (h : List Event) (v u : DeskView) → Fits setting h v → Fits setting h u →
    ((w : ℕ) → IsAmong w v.part.workers → IsAmong w u.part.workers → ⊥)
    → Fits setting h (meeting v u)
fits_meeting setting h v u f g apart =
    let both = v.part.workers ++ u.part.workers in
    record {
      same = f.same;
      part = knows_meeting setting h v u f g;
      parts = each_append (Saw h both) v.parts u.parts
          (each_map (Saw h v.part.workers) (Saw h both) v.parts (saw_more h v.part.workers both (λ w. among_left w v.part.workers u.part.workers))
          f.parts)
          (each_map (Saw h u.part.workers) (Saw h both) u.parts (saw_more h u.part.workers both (λ w. among_right w v.part.workers u.part.workers))
          g.parts);
      below = λ w among. ⊎_elim (f.below w) (g.below w) (among_append w v.part.workers u.part.workers among);
      once = apart_append v.part.workers u.part.workers f.once g.once apart;
    }

module _ (setting : Setting) (id other : ℕ) (v u : DeskView) (live : v.spent ≡ false) (idle : v.taken ≡ false) (other-idle : u.taken ≡ false)
    (s : Table)
    (r : Guards setting s)
    (at : get_elem? s.views id ≡ some v) (apart : ¬ (other ≡ id)) (there' : get_elem? (set s.views id (meeting v u)) other ≡ some u) where
  joined : List DeskView
  joined = set (set s.views id (meeting v u)) other spent_view

  other-at : get_elem? s.views other ≡ some u
  other-at = sym (set_else s.views id other (meeting v u) apart) ∙ there'

  -- a fact of each seat after the join
  each_joined : (P : ℕ → DeskView → Type 0) → P other spent_view → P id (meeting v u) →
      ((i : ℕ) (x : DeskView) → i ≢ other → i ≢ id → get_elem? s.views i ≡ some x → P i x)
      → (i : ℕ) (x : DeskView) → get_elem? joined i ≡ some x → P i x
  unfolding joined
  each_joined P of-spent of-both of-others =
      each_set P (set s.views id (meeting v u)) other spent_view of-spent
      (λ i x away here. each_set (λ j y. j ≢ other → P j y) s.views id (meeting v u) (λ _. of-both)
      (λ j y off here' away'. of-others j y away' off here') i x here away)

  stays-joined : (i : ℕ) (x : DeskView) → get_elem? joined i ≡ some x → Stays s i x ⊎ (x.taken ≡ false)
  stays-joined = each_joined (λ i x. Stays s i x ⊎ (x.taken ≡ false)) (inr refl) (inl record { old = v; at = at; taken = refl })
      (λ i x _ _ here. inl record { old = x; at = here; taken = refl })

  taken-joined : (i : ℕ) (x : DeskView) → get_elem? s.views i ≡ some x → x.taken ≡ true →
      (y : DeskView) × (get_elem? joined i ≡ some y) × (y.taken ≡ true) × (y.part ≡ x.part)
  unfolding joined
  taken-joined i x here on =
      let not-other : i ≢ other = λ e. let same : u ≡ x = some-injective u x (sym other-at ∙ (ap (get_elem? s.views) (sym e) ∙ here)) in let off =
      sym other-idle ∙ (ap (λ (y : DeskView). y.taken) same ∙ on) in absurd cc in
      let not-id : i ≢ id = λ e. let same : v ≡ x = some-injective v x (sym at ∙ (ap (get_elem? s.views) (sym e) ∙ here)) in let off =
      sym idle ∙ (ap (λ (y : DeskView). y.taken) same ∙ on) in absurd cc in
      (x, set_else (set s.views id (meeting v u)) other i spent_view not-other ∙ (set_else s.views id i (meeting v u) not-id ∙ here), on, refl)

  source : (i : ℕ) (x : DeskView) → get_elem? joined i ≡ some x → (w : ℕ) → IsAmong w x.part.workers → Source s.views id other w i
  source = each_joined (λ i x. (w : ℕ) → IsAmong w x.part.workers → Source s.views id other w i)
      (λ w. absurd)
      (λ w among. ⊎_elim
      (λ mine. record { k = id; old = v; at = at; among = mine; moved = λ e. absurd (apart (sym e)); kept = λ _. refl })
      (λ theirs. record { k = other; old = u; at = other-at; among = theirs; moved = λ _. refl; kept = λ ne. absurd (ne refl) })
      (among_append w v.part.workers u.part.workers among))
      (λ i x away off here w among. record { k = i; old = x; at = here; among = among; moved = λ e. absurd (away e); kept = λ _. refl })

  -- a maker was one before, at its place
  maker-joined : (i : ℕ) (x : DeskView) → get_elem? joined i ≡ some x → x.maker ≡ true →
      (y : DeskView) × (get_elem? s.views i ≡ some y) × (y.maker ≡ true) × (y.next ≡ x.next)
  maker-joined = each_joined (λ i x. x.maker ≡ true → (y : DeskView) × (get_elem? s.views i ≡ some y) × (y.maker ≡ true) × (y.next ≡ x.next))
      (λ no-maker. absurd cc)
      (λ makes. (v, at, makes, refl))
      (λ i x _ _ here makes. (x, here, makes, refl))

  apart-joined : Apart joined
  apart-joined = record {
    workers = λ i j x y w ax ay mx my.
        let p = source i x ax w mx in let q = source j y ay w my in
        let same : p.k ≡ q.k = r.apart.workers p.k q.k p.old q.old w p.at q.at p.among q.among in
        dite (ℕ_discrete p.k other) (λ e. p.moved e ∙ sym (q.moved (sym same ∙ e))) (λ ne. p.kept ne ∙ (same ∙ sym (q.kept (λ e. ne (same ∙ e)))));
    makers = λ i j x y ax ay mx my.
        let p = maker-joined i x ax mx in let q = maker-joined j y ay my in r.apart.makers i j p.0 q.0 p.1 q.1 p.2 q.2;
    made = λ i j x y w ax ay mx my.
        let p = maker-joined i x ax mx in let q = source j y ay w my in
        let below = r.apart.made i q.k p.0 q.old w p.1 q.at p.2 q.among in omega (arith, below, p.3);
  }

  pub meets-here : Guards setting record { words = s.words; homes = s.homes; views = set (set s.views id (meeting v u)) other spent_view }
  unfolding joined
  meets-here =
      let f = r.each id v at in
      let g = r.each other u other-at in
      let nothing = knows_nothing r.journal in
      reviewed setting s r joined stays-joined taken-joined
      (each_joined (λ i x. (w : ℕ) → x.maker ≡ true → x.next ≤ w → own w r.journal ≡ []) (λ w no-maker. absurd cc) (r.fresh id v at)
      (λ i x _ _ here. r.fresh i x here))
      (each_joined (λ _ x. Fits setting r.journal x)
      (record { same = λ no-live. absurd cc; part = nothing; parts = tt; below = λ w. absurd; once = tt })
      (fits_meeting setting r.journal v u f g (λ w mine theirs. apart (sym (r.apart.workers id other v u w at other-at mine theirs))))
      (λ i x _ _ here. r.each i x here))
      apart-joined

pub meets : (setting : Setting) (id other : ℕ) (v u : DeskView) → v.spent ≡ false → v.taken ≡ false → u.taken ≡ false →
    Joins (Guards setting) id v other u (meeting v u) spent_view
meets setting id other v u live idle other-idle s r at apart there' = meets-here setting id other v u live idle other-idle s r at apart there'
