-- Each atomic step keeps the story.
use Rattle.std.proofs.Common.{◌≡◌, ◌≢◌, ◌⊎◌, ◌↔◌, Bool, true, false, lt_of_not-le, ℕ, zero, suc, ◌+◌, ◌-◌, ◌/◌, ◌%◌, ◌<◌, ◌≤◌, List, [], ◌∷◌, ◌++◌}
use Rattle.std.proofs.Common.{length, get_or, set, replicate, sym, refl, ap, subst, ◌∙◌, inl, inr, ⊎_elim, bit_or, arith, length-set}
use Rattle.std.proofs.lemmas.List.{set-get_or, length-replicate, get_or-set_same, get_or-set_other}
use Rattle.std.specs.Prelude.{slice_index}
use Rattle.std.specs.Int.{bit_at}
use Rattle.std.specs.List.{range_with_len}
use mathlib.Core.Logic.{dite}
use mathlib.Core.Option.{some, none, some-injective, some-ne-none}
use native.Mathlib.Decide.{dec_le, ℕ_discrete}
use lib.ListN.{get_elem?}
use Rattle.atomic_table.specs.Seated.{TableId}
use Rattle.atomic_table.specs.Table.{State, step, keeps, Allows, Splits, Joins}
use Rattle.atomic_table.proofs.Lists.{at_set, at_longer, set_else}
use Rattle.bt_meta.specs.Layout.{Layout, piece_count}
use Rattle.bt_board.specs.declared.view.Mark.{Mark}
use Rattle.bt_board.specs.declared.view.Load.{Load}
use Rattle.bt_board.specs.declared.view.BoardView.{BoardView}
use Rattle.bt_board.specs.Story.{Has, Each, IsSet, words_of, view, load, fresh, without_first, first_of, with_mark, with_load, both, spent, Marked}
use Rattle.bt_board.specs.Story.{Seen, StandsFor, IsProven, Story}
use Rattle.bt_board.specs.Seats.{IsTable}
use Rattle.bt_board.specs.Steps.{Looks, Announces}
use Rattle.bt_board.proofs.Lists.{same_item, set_at, has_front, has_back, has_parts, has_last, has_snoc, each_append, each_at, at_appended}
use Rattle.bt_board.proofs.Lists.{in_range, append_nil_left}
use Rattle.bt_board.proofs.BitRows.{bit_of, with_bit, set_here as bit_set, still_set, newly_set, none_set, word_below}

-- a view that changes and still stands for its seats, with words in which just the bits that it has marked are new
changed : (t : Layout) (n : ℕ) (words words' : List ℕ) (views : List BoardView) (id : ℕ) (v w : BoardView) → Story t n words views →
    get_elem? views id ≡ some v
    → length words' ≡ length words → w.seats ≡ v.seats → v.seats ≢ []
    → ((p : ℕ) → Marked v p → Marked w p)
    → ((p : ℕ) → IsSet words p → IsSet words' p)
    → ((p : ℕ) → IsSet words' p → IsSet words p ⊎ Marked w p)
    → ((p : ℕ) → Seen w p → IsSet words' p)
    → Each (IsProven t) w.marks
    → Story t n words' (set views id w)
changed t n words words' views id v w s at same_length same_seats stands more stays comes shown right =
    let Old : ℕ → BoardView → Type 0 = λ j u. (get_elem? views j ≡ some u) ⊎ ((j ≡ id) × (w ≡ u)) in
    let old : (j : ℕ) (u : BoardView) → get_elem? (set views id w) j ≡ some u → Old j u =
    λ j u e. ⊎_elim (λ x. inr x) (λ x. inl x.1) (at_set views id j w u e) in
    let was : (j : ℕ) (u : BoardView) → get_elem? (set views id w) j ≡ some u → (o : BoardView) × (get_elem? views j ≡ some o) × (u.seats ≡ o.seats)
    = λ j u e. ⊎_elim (λ o. (u, o, refl)) (λ x. (
      v,
      subst (λ (k : ℕ). get_elem? views k ≡ some v) (sym x.0) at,
      ap (λ (y : BoardView). y.seats) (sym x.1) ∙
          same_seats,
    )) (old j u e) in
    record {
      wide = same_length ∙ s.wide;
      marked = λ p is. ⊎_elim
          (λ before. let m = s.marked p before in dite (ℕ_discrete m.0 id)
          (λ e. (
            id,
            w,
            set_at views id v w at,
            more p (subst (λ (u : BoardView). Marked u p)
                (same_item views m.0 m.1 v m.2 (subst (λ (k : ℕ). get_elem? views k ≡ some v) (sym e) at)) m.3),
          ))
          (λ ne. (m.0, m.1, set_else views id m.0 w ne ∙ m.2, m.3)))
          (λ new. (id, w, set_at views id v w at, new)) (comes p is);
      seen = λ j u e p h. ⊎_elim (λ o. stays p (s.seen j u o p h)) (λ x. shown p (subst (λ (y : BoardView). Seen y p) (sym x.1) h)) (old j u e);
      proven = λ j u e. ⊎_elim (λ o. s.proven j u o) (λ x. subst (λ (y : BoardView). Each (IsProven t) y.marks) x.1 right) (old j u e);
      apart = λ i j a b q ei ej ha hb. let x = was i a ei in let y = was j b ej in
          s.apart i j x.0 y.0 q x.1 y.1 (subst (λ (l : List ℕ). Has (λ r. r ≡ q) l) x.2 ha) (subst (λ (l : List ℕ). Has (λ r. r ≡ q) l) y.2 hb);
      below = λ i a ei q h. let x = was i a ei in s.below i x.0 x.1 q (subst (λ (l : List ℕ). Has (λ r. r ≡ q) l) x.2 h);
      idle = λ i a ei no. ⊎_elim (λ o. s.idle i a o no) (λ x. absurd (stands (sym same_seats ∙ ap (λ (y : BoardView). y.seats) x.1 ∙ no)))
          (old i a ei);
    }

-- a view stands for no seat or for some seat
first_seat : (seats : List ℕ) (P : Type 0) → (seats ≡ [] → P) → ((q : ℕ) → Has (λ r. r ≡ q) seats → P) → P
first_seat [] P no_seat some_seat = no_seat refl
first_seat (x ∷ xs) P no_seat some_seat = some_seat x (inl refl)

-- what is set is a piece of the torrent
pub set_piece : (t : Layout) (n : ℕ) (words : List ℕ) (views : List BoardView) → Story t n words views → (p : ℕ) → IsSet words p → p < piece_count t
set_piece t n words views h p is =
    let m = h.marked p is in
    let x = each_at (IsProven t) m.1.marks (λ (y : Mark). y.piece ≡ p) (h.proven m.0 m.1 m.2) m.3 in
    subst (λ (k : ℕ). k < piece_count t) x.2 x.1.0

-- the rule, as the table has it
abbrev pub Holds : Layout → ℕ → State (Unit {0}) BoardView → Type 0
Holds t n s = Story t n s.words s.views

pub looks : (t : Layout) (n slots id word : ℕ) (v : BoardView) (cs : List (ℕ × Unit {0})) → v.seats ≢ [] → (pieces : ℕ) → pieces ≡ piece_count t
    → Allows (Holds t n) slots id (v, cs) word (λ k. k) (Looks pieces (step slots word 0 0 none) (v, cs))
looks t n slots id word v cs stands pieces are s h len at bound =
    let found = slice_index s.words word in
    let w = with_load v (load word found) in
    let same : set s.words word found ≡ s.words = set-get_or s.words word 0 in
    let shown : (p : ℕ) → Seen w p → IsSet s.words p = λ p seen. ⊎_elim (λ m. h.seen id v at p (inl m))
    (λ l. ⊎_elim (λ old. h.seen id v at p (inr old)) (λ (new : (word ≡ p / 64) × (bit_at found (p % 64) ≡ 1)).
    subst (λ (k : ℕ). bit_at (slice_index s.words k) (p % 64) ≡ 1) new.0 new.1)
    (has_snoc (λ (l : Load). (l.word ≡ p / 64) × (bit_at l.found (p % 64) ≡ 1)) v.loads (load word found) l)) seen in (
      w,
      keeps,
      tt,
      rw same (changed t n s.words s.words s.views id v w h at refl refl stands (λ p m. m) (λ p m. m) (λ p m. inl m) shown (h.proven id v at)),
      (
        record {
          lists = refl;
          known = λ p e seen. subst (λ (k : ℕ). bit_at (slice_index s.words k) (p % 64) ≡ 1) e (h.seen id v at p seen);
          below = λ p e is. rw are (set_piece t n s.words s.views h p (subst (λ (k : ℕ). bit_at (slice_index s.words k) (p % 64) ≡ 1) (sym e) is));
        },
        refl,
      ),
    )

pub announces : (t : Layout) (n slots id : ℕ) (m : Mark) (v : BoardView) (cs : List (ℕ × Unit {0})) → v.seats ≢ [] → IsProven t m
    → Allows (Holds t n) slots id (v, cs) (m.piece / 64) (λ k. bit_or k (bit_of m.piece))
    (Announces m (step slots (m.piece / 64) (bit_of m.piece) 0 none) (v, cs))
announces t n slots id m v cs stands proven s h len at bound =
    let w = with_mark v m in
    let words' = with_bit s.words m.piece in
    let lt : m.piece / 64 < length s.words = rw h.wide (word_below m.piece (piece_count t) proven.0) in
    let stays : (q : ℕ) → IsSet s.words q → IsSet words' q = λ q is. still_set s.words m.piece q lt is in
    let shown : (q : ℕ) → Seen w q → IsSet words' q = λ q seen. ⊎_elim
    (λ marked. ⊎_elim (λ old. stays q (h.seen id v at q (inl old)))
    (λ (e : m.piece ≡ q). subst (λ (k : ℕ). IsSet words' k) e (bit_set s.words m.piece lt))
    (has_snoc (λ (x : Mark). x.piece ≡ q) v.marks m marked))
    (λ loaded. stays q (h.seen id v at q (inr loaded))) seen in (
      w,
      keeps,
      tt,
      changed t n s.words words' s.views id v w h at (length-set s.words (m.piece / 64)
          (bit_or (slice_index s.words (m.piece / 64)) (bit_of m.piece))) refl stands
          (λ q marked. has_front (λ (x : Mark). x.piece ≡ q) v.marks (m ∷ []) marked) stays
          (λ q is. ⊎_elim (λ old. inl old) (λ (e : m.piece ≡ q). inr (has_last (λ (x : Mark). x.piece ≡ q) v.marks m e))
          (newly_set s.words m.piece q lt is))
          shown (each_append (IsProven t) v.marks (m ∷ []) (h.proven id v at) (proven, tt)),
      (refl, refl),
    )

-- the same, where the word and the bit are written by another name of the piece
pub announces_as : (t : Layout) (n slots id : ℕ) (m : Mark) (p : ℕ) (v : BoardView) (cs : List (ℕ × Unit {0})) → v.seats ≢ [] → IsProven t m →
    m.piece ≡ p
    → Allows (Holds t n) slots id (v, cs) (p / 64) (λ k. bit_or k (bit_of p)) (Announces m (step slots (p / 64) (bit_of p) 0 none) (v, cs))
announces_as t n slots id m p v cs stands proven e =
    let P : ℕ → Type 0 = λ q. Allows (Holds t n) slots id (v, cs) (q / 64) (λ k. bit_or k (bit_of q))
    (Announces m (step slots (q / 64) (bit_of q) 0 none) (v, cs)) in
    subst P e (announces t n slots id m v cs stands proven)

alone : (v u : BoardView) (j : ℕ) → get_elem? (v ∷ []) j ≡ some u → (j ≡ 0) × (v ≡ u)
alone v u zero e = (refl, some-injective v u e)
alone v u (suc j) e = absurd (some-ne-none u (sym e))

pub begins : (t : Layout) (n : ℕ) → Story t n (replicate (words_of (piece_count t)) 0) (view [] [] (range_with_len 0 n) ∷ [])
begins t n =
    let v = view [] [] (range_with_len 0 n) in
    let is : (j : ℕ) (u : BoardView) → get_elem? (v ∷ []) j ≡ some u → (j ≡ 0) × (v ≡ u) = λ j u e. alone v u j e in
    record {
      wide = length-replicate (words_of (piece_count t)) 0;
      marked = λ p h. absurd (none_set (words_of (piece_count t)) p h);
      seen = λ j u e p h. absurd (⊎_elim (λ m. m) (λ l. l) (subst (λ (y : BoardView). Seen y p) (sym (is j u e).1) h));
      proven = λ j u e. subst (λ (y : BoardView). Each (IsProven t) y.marks) (is j u e).1 tt;
      apart = λ i j a b q ei ej ha hb. (is i a ei).0 ∙ sym (is j b ej).0;
      below = λ j u e q h. let high = (in_range 0 n q (subst (λ (y : BoardView). StandsFor y q) (sym (is j u e).1) h)).1 in omega arith;
      idle = λ j u e no. sym (is j u e).1 ∙ ap (λ (l : List ℕ). view [] [] l) (ap (λ (y : BoardView). y.seats) (is j u e).1 ∙ no);
    }

-- a seat that has seen and marked nothing gives its first seat away
pub splits : (t : Layout) (n id first : ℕ) (rest : List ℕ) → ¬ Has (λ r. r ≡ first) rest
    → Splits (Holds t n) id (view [] [] (first ∷ rest)) (view [] [] rest) (view [] [] (first ∷ []))
splits t n id first rest new s h at =
    let v = view [] [] (first ∷ rest) in
    let left = view [] [] rest in
    let right = view [] [] (first ∷ []) in
    let views = set s.views id left in
    let Was : ℕ → BoardView →
    Type 0 = λ j u. ((get_elem? s.views j ≡ some u) × (j ≢ id)) ⊎ (((j ≡ id) × (left ≡ u)) ⊎ ((j ≡ length views) × (right ≡ u)))
    in
    let was : (j : ℕ) (u : BoardView) → get_elem? (views ++ right ∷ []) j ≡ some u → Was j u = λ j u e. ⊎_elim
    (λ x. ⊎_elim (λ y. inr (inl y)) (λ y. inl (y.1, y.0)) (at_set s.views id j left u x.0)) (λ x. inr (inr x)) (at_appended views right u j e) in
    let bare : (j : ℕ) (u : BoardView) (P : BoardView → Type 0) → Was j u → ((get_elem? s.views j ≡ some u) → P u) → P left → P right → P u =
    λ j u P w old a b. ⊎_elim
    (λ x. old x.0) (λ y. ⊎_elim (λ (z : (j ≡ id) × (left ≡ u)). subst P z.1 a) (λ (z : (j ≡ length views) × (right ≡ u)). subst P z.1 b) y) w in
    record {
      wide = h.wide;
      marked = λ p is. let m = h.marked p is in dite (ℕ_discrete m.0 id)
          (λ e. absurd (subst (λ (u : BoardView). Marked u p) (same_item s.views m.0 m.1 v m.2
          (subst (λ (k : ℕ). get_elem? s.views k ≡ some v) (sym e) at)) m.3))
          (λ ne. (m.0, m.1, at_longer views (right ∷ []) m.0 m.1 (set_else s.views id m.0 left ne ∙ m.2), m.3));
      seen = λ j u e p seen. bare j u (λ y. Seen y p → IsSet s.words p) (was j u e) (λ o. h.seen j u o p) (λ x. absurd (⊎_elim (λ m. m) (λ l. l) x))
          (λ x. absurd (⊎_elim (λ m. m) (λ l. l) x)) seen;
      proven = λ j u e. bare j u (λ y. Each (IsProven t) y.marks) (was j u e) (λ o. h.proven j u o) tt tt;
      apart = λ i j a b q ei ej ha hb. let Old : ℕ → BoardView → Type 0 = λ k u. (get_elem? s.views k ≡ some u) × (k ≢ id) in
          let New : ℕ → Type 0 = λ k. ((k ≡ id) × Has (λ r. r ≡ q) rest) ⊎ ((k ≡ length views) × (first ≡ q)) in
          let place : (k : ℕ) (u : BoardView) → get_elem? (views ++ right ∷ []) k ≡ some u → StandsFor u q → Old k u ⊎ New k =
          λ k u e stands. ⊎_elim (λ o. inl o)
          (λ (y : ((k ≡ id) × (left ≡ u)) ⊎ ((k ≡ length views) × (right ≡ u))).
          ⊎_elim (λ (z : (k ≡ id) × (left ≡ u)). inr (inl (z.0, subst (λ (y : BoardView). StandsFor y q) (sym z.1) stands)))
          (λ (z : (k ≡ length views) × (right ≡ u)). let only : StandsFor right q = subst (λ (y : BoardView). StandsFor y q) (sym z.1) stands in
          inr (inr (z.0, ⊎_elim (λ here. here) (λ no. absurd no) only))) y) (was k u e) in
          let mine : (k : ℕ) → New k → StandsFor v q = λ k y. ⊎_elim (λ r. inr r.1) (λ f. inl f.1) y in
          let clash : (k : ℕ) (u : BoardView) (l : ℕ) → Old k u → StandsFor u q → New l → ⊥ =
          λ k u l o stands y. o.1 (h.apart k id u v q o.0 at stands (mine l y)) in
          let fresh_twice : Has (λ r. r ≡ q) rest → first ≡ q → ⊥ = λ there here. new (subst (λ (k : ℕ). Has (λ r. r ≡ k) rest) (sym here) there) in
          let both_new : New i → New j → i ≡ j = λ x y. ⊎_elim
          (λ (x' : (i ≡ id) × Has (λ r. r ≡ q) rest). ⊎_elim (λ (y' : (j ≡ id) × Has (λ r. r ≡ q) rest). x'.0 ∙ sym y'.0)
          (λ (y' : (j ≡ length views) × (first ≡ q)). absurd (fresh_twice x'.1 y'.1)) y)
          (λ (x' : (i ≡ length views) × (first ≡ q)). ⊎_elim (λ (y' : (j ≡ id) × Has (λ r. r ≡ q) rest). absurd (fresh_twice y'.1 x'.1))
          (λ (y' : (j ≡ length views) × (first ≡ q)). x'.0 ∙ sym y'.0) y) x in
          ⊎_elim (λ (x : Old i a). ⊎_elim (λ (y : Old j b). h.apart i j a b q x.0 y.0 ha hb) (λ (y : New j). absurd (clash i a j x ha y))
          (place j b ej hb))
          (λ (x : New i). ⊎_elim (λ (y : Old j b). absurd (clash j b i y hb x)) (λ (y : New j). both_new x y) (place j b ej hb)) (place i a ei ha);
      below = λ j u e q. bare j u (λ y. StandsFor y q → q < n) (was j u e) (λ o. h.below j u o q) (λ x. h.below id v at q (inr x))
          (λ x. h.below id v at q (⊎_elim (λ (here : first ≡ q). inl here) (λ no. absurd no) x));
      idle = λ j u e. bare j u (λ y. y.seats ≡ [] → y ≡ spent) (was j u e) (λ o. h.idle j u o) (λ no. ap (λ (l : List ℕ). view [] [] l) no)
          (λ no. ap (λ (l : List ℕ). view [] [] l) no);
    }

-- the joined seat has what either had, and the other is spent
pub joins : (t : Layout) (n id other : ℕ) (v w : BoardView) → v.seats ≢ [] → Joins (Holds t n) id v other w (both v w) spent
joins t n id other v w stands s h at ne at_other =
    let u' = both v w in
    let views = set s.views id u' in
    let at_w : get_elem? s.views other ≡ some w = sym (set_else s.views id other u' ne) ∙ at_other in
    let Old : ℕ → BoardView → Type 0 = λ j u. (get_elem? s.views j ≡ some u) × (j ≢ id) × (j ≢ other) in
    let Was : ℕ → BoardView → Type 0 = λ j u. Old j u ⊎ (((j ≡ id) × (u' ≡ u)) ⊎ (spent ≡ u)) in
    let was : (j : ℕ) (u : BoardView) → get_elem? (set views other spent) j ≡ some u → Was j u = λ j u e. ⊎_elim (λ x. inr (inr x.1))
    (λ (x : (j ≢ other) × (get_elem? views j ≡ some u)). ⊎_elim (λ y. inr (inl y))
    (λ (y : (j ≢ id) × (get_elem? s.views j ≡ some u)). inl (y.1, y.0, x.0)) (at_set s.views id j u' u x.1)) (at_set views other j spent u e) in
    let here : get_elem? (set views other spent) id ≡ some u' = set_else views other id spent (λ e. ne (sym e)) ∙ set_at s.views id v u' at in
    let each : (j : ℕ) (u : BoardView) (P : BoardView → Type 0) → Was j u → ((get_elem? s.views j ≡ some u) → P u) → P u' → P spent → P u =
    λ j u P x old a b. ⊎_elim
    (λ (o : Old j u). old o.0) (λ y. ⊎_elim (λ (z : (j ≡ id) × (u' ≡ u)). subst P z.1 a) (λ (z : spent ≡ u). subst P z b) y) x in
    record {
      wide = h.wide;
      marked = λ p is. let m = h.marked p is in
          let same_view : (k : ℕ) (x : BoardView) → get_elem? s.views k ≡ some x → m.0 ≡ k → Marked x p =
          λ k x there e. subst (λ (y : BoardView). Marked y p)
          (same_item s.views m.0 m.1 x m.2 (subst (λ (l : ℕ). get_elem? s.views l ≡ some x) (sym e) there)) m.3 in
          dite (ℕ_discrete m.0 id) (λ e. (id, u', here, has_front (λ (x : Mark). x.piece ≡ p) v.marks w.marks (same_view id v at e)))
          (λ a. dite (ℕ_discrete m.0 other) (λ e. (id, u', here, has_back (λ (x : Mark). x.piece ≡ p) v.marks w.marks (same_view other w at_w e)))
          (λ b. (m.0, m.1, set_else views other m.0 spent b ∙ (set_else s.views id m.0 u' a ∙ m.2), m.3)));
      seen = λ j u e p. each j u (λ y. Seen y p → IsSet s.words p) (was j u e) (λ o. h.seen j u o p)
          (λ x. ⊎_elim (λ m. ⊎_elim (λ a. h.seen id v at p (inl a)) (λ b. h.seen other w at_w p (inl b))
          (has_parts (λ (y : Mark). y.piece ≡ p) v.marks w.marks m))
          (λ l. ⊎_elim (λ a. h.seen id v at p (inr a)) (λ b. h.seen other w at_w p (inr b))
          (has_parts (λ (y : Load). (y.word ≡ p / 64) × (bit_at y.found (p % 64) ≡ 1)) v.loads w.loads l)) x)
          (λ x. absurd (⊎_elim (λ m. m) (λ l. l) x));
      proven = λ j u e. each j u (λ y. Each (IsProven t) y.marks) (was j u e) (λ o. h.proven j u o)
          (each_append (IsProven t) v.marks w.marks (h.proven id v at) (h.proven other w at_w)) tt;
      apart = λ i j a b q ei ej ha hb.
          let New : ℕ → Type 0 = λ k. (k ≡ id) × StandsFor u' q in
          let place : (k : ℕ) (u : BoardView) → get_elem? (set views other spent) k ≡ some u → StandsFor u q → Old k u ⊎ New k =
          λ k u e owns. ⊎_elim (λ o. inl o)
          (λ (y : ((k ≡ id) × (u' ≡ u)) ⊎ (spent ≡ u)). ⊎_elim
          (λ (z : (k ≡ id) × (u' ≡ u)). inr (z.0, subst (λ (y : BoardView). StandsFor y q) (sym z.1) owns))
          (λ (z : spent ≡ u). absurd (subst (λ (y : BoardView). StandsFor y q) (sym z) owns)) y) (was k u e) in
          let clash : (k : ℕ) (u : BoardView) (l : ℕ) → Old k u → StandsFor u q → New l → ⊥ = λ k u l o owns y.
          ⊎_elim (λ c. o.1 (h.apart k id u v q o.0 at owns c)) (λ c. o.2 (h.apart k other u w q o.0 at_w owns c))
          (has_parts (λ r. r ≡ q) v.seats w.seats y.1) in
          ⊎_elim (λ (x : Old i a). ⊎_elim (λ (y : Old j b). h.apart i j a b q x.0 y.0 ha hb) (λ (y : New j). absurd (clash i a j x ha y))
          (place j b ej hb))
          (λ (x : New i). ⊎_elim (λ (y : Old j b). absurd (clash j b i y hb x)) (λ (y : New j). x.0 ∙ sym y.0) (place j b ej hb)) (place i a ei ha);
      below = λ j u e q. each j u (λ y. StandsFor y q → q < n) (was j u e) (λ o. h.below j u o q)
          (λ x. ⊎_elim (λ a. h.below id v at q a) (λ b. h.below other w at_w q b) (has_parts (λ r. r ≡ q) v.seats w.seats x)) (λ no. absurd no);
      idle = λ j u e. each j u (λ y. y.seats ≡ [] → y ≡ spent) (was j u e) (λ o. h.idle j u o)
          (λ no. absurd (stands (append_nil_left v.seats w.seats no))) (λ _. refl);
    }

-- where one view stands for each seat, the set bits are the pieces that it has marked
pub ends : (t : Layout) (n : ℕ) (words : List ℕ) (views : List BoardView) (id : ℕ) (v : BoardView) → Story t n words views →
    get_elem? views id ≡ some v
    → ((q : ℕ) → q < n → StandsFor v q) → (p : ℕ) → IsSet words p → Marked v p
ends t n words views id v h at all p is =
    let m = h.marked p is in
    let own : m.0 ≡ id → Marked v p = λ e. subst (λ (y : BoardView). Marked y p)
    (same_item views m.0 m.1 v m.2 (subst (λ (l : ℕ). get_elem? views l ≡ some v) (sym e) at)) m.3 in
    let no_seat : m.1.seats ≡ [] → Marked v p = λ none. absurd (subst (λ (y : BoardView). Marked y p) (h.idle m.0 m.1 m.2 none) m.3) in
    let a_seat : (q : ℕ) → StandsFor m.1 q → Marked v p = λ q stands.
    own (h.apart m.0 id m.1 v q m.2 at stands (all q (h.below m.0 m.1 m.2 q stands))) in
    first_seat m.1.seats (Marked v p) no_seat a_seat

range_step : (k n : ℕ) → k < n → range_with_len k (n - k) ≡ k ∷ range_with_len (k + 1) (n - (k + 1))
range_step k n lt = let e : n - k ≡ suc (n - (k + 1)) = omega arith in ap (range_with_len k) e

-- of the seats from k on, the first is split off
pub deals : (t : Layout) (n id k m : ℕ) (v : BoardView) → k < m → v ≡ view [] [] (range_with_len k (m - k)) →
    Splits (Holds t n) id v (without_first v) (first_of v)
deals t n id k m v lt is =
    let P : BoardView → Type 0 = λ u. Splits (Holds t n) id u (without_first u) (first_of u) in
    subst P (sym (is ∙ ap (view [] []) (range_step k m lt)))
    (splits t n id k (range_with_len (k + 1) (m - (k + 1))) (λ has. let low = (in_range (k + 1) (m - (k + 1)) k has).0 in omega arith))

pub dealt_rest : (k m : ℕ) (v : BoardView) → k < m → v ≡ view [] [] (range_with_len k (m - k)) →
    without_first v ≡ view [] [] (range_with_len (k + 1) (m - (k + 1)))
dealt_rest k m v lt is = ap without_first (is ∙ ap (view [] []) (range_step k m lt))

pub dealt_first : (k m : ℕ) (v : BoardView) → k < m → v ≡ view [] [] (range_with_len k (m - k)) → first_of v ≡ fresh k
dealt_first k m v lt is = ap first_of (is ∙ ap (view [] []) (range_step k m lt))

pub dealt_stands : (k m : ℕ) (v : BoardView) → k < m → v ≡ view [] [] (range_with_len k (m - k)) → (first_of v).seats ≢ []
dealt_stands k m v lt is no_seat =
    let one : k ∷ [] ≡ [] = sym (ap (λ (u : BoardView). u.seats) (dealt_first k m v lt is)) ∙ no_seat in cc

-- a board's table has a bit for each piece of its torrent, also where an equal layout names that
pub table_words : {A : Type 0} {told about : A} {table : TableId} {layout torrent : Layout} → IsTable told about table (piece_count layout) →
    layout ≡ torrent → table.words ≡ words_of (piece_count torrent)
table_words is same = is.words ∙ ap (λ (t : Layout). words_of (piece_count t)) same

-- the bits so far are those of the words, and the others are not set
pub record Copied (words : List ℕ) (pieces n : ℕ) (bits : List Bool) : Type 0 where
  pub long : length bits ≡ pieces
  pub done : (p : ℕ) → p < n → (get_or bits p false ≡ true) ↔ IsSet words p
  pub rest : (p : ℕ) → n ≤ p → get_or bits p false ≡ false

pub closes : (t : Layout) (n : ℕ) (words : List ℕ) (views : List BoardView) (id : ℕ) (v : BoardView) (bits : List Bool) → Story t n words views →
    get_elem? views id ≡ some v
    → ((q : ℕ) → q < n → StandsFor v q) → Copied words (piece_count t) (piece_count t) bits
    → ((p : ℕ) → (get_or bits p false ≡ true) ↔ Marked v p) × ((p : ℕ) → Seen v p → get_or bits p false ≡ true)
closes t n words views id v bits h at all copied =
    let shown : (p : ℕ) → IsSet words p → get_or bits p false ≡ true = λ p is. (copied.done p (set_piece t n words views h p is)).1 is in (
      (λ p. (
        (λ on. dite (dec_le (piece_count t) p) (λ high. absurd (let off = copied.rest p high in cc))
            (λ low. ends t n words views id v h at all p ((copied.done p (lt_of_not-le low)).0 on))),
        (λ marked. shown p (h.seen id v at p (inl marked))),
      )),
      (λ p seen. shown p (h.seen id v at p seen)),
    )

pub copied_set : (words : List ℕ) (pieces n : ℕ) (bits : List Bool) → Copied words pieces n bits → n < pieces → IsSet words n →
    Copied words pieces (n + 1) (set bits n true)
copied_set words pieces n bits so_far lt is = record {
  long = length-set bits n true ∙ so_far.long;
  done = λ p below. dite (ℕ_discrete p n)
      (λ e. (
        (λ _. subst (IsSet words) (sym e) is),
        (λ _. ap (λ (k : ℕ). get_or (set bits n true) k false) e ∙
            get_or-set_same bits n true false (let long = so_far.long in omega arith)),
      ))
      (λ ne. subst (λ (b : Bool). (b ≡ true) ↔ IsSet words p) (sym (get_or-set_other bits n p true false ne)) (so_far.done p (omega arith)));
  rest = λ p above. get_or-set_other bits n p true false (λ e. omega arith) ∙ so_far.rest p (omega arith);
}

pub copied_unset : (words : List ℕ) (pieces n : ℕ) (bits : List Bool) → Copied words pieces n bits → ¬ IsSet words n →
    Copied words pieces (n + 1) bits
copied_unset words pieces n bits so_far not_set = record {
  long = so_far.long;
  done = λ p below. dite (ℕ_discrete p n)
      (λ e. ((λ on. absurd (let off = so_far.rest p (omega arith) in cc)), (λ is. absurd (not_set (subst (IsSet words) e is)))))
      (λ ne. so_far.done p (omega arith));
  rest = λ p above. so_far.rest p (omega arith);
}
