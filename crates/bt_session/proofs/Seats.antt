-- What belongs to one run, and the seat that all its seats are joined to.
use Rattle.std.proofs.Common.{◌≡◌, ◌<◌, ◌≤◌, ℕ, zero, suc, Bool, true, false, List, [], ◌∷◌, ◌++◌, length, map, get_or, Option}
use Rattle.std.proofs.Common.{Some, refl, sym, ap, subst, ◌∙◌, inl, inr, ⊎_elim, arith, append_assoc}
use Rattle.std.proofs.lemmas.List.{append-nil, map-append}
use Rattle.std.proofs.lemmas.Option.{same_Some}
use Rattle.std.proofs.lemmas.List.Elements.{All-append, All-cons}
use Rattle.std.specs.List.{All}
use Rattle.atomic_table.specs.Seated.{TableId}
use Rattle.bt_board.proofs.Knowing.{seen_decides}
use Rattle.bt_board.proofs.Lists.{has_back, has_front}
use Rattle.bt_board.specs.Seats.{SeatState}
use Rattle.bt_board.specs.Story.{Has, Seen, StandsFor, both}
use Rattle.bt_board.specs.declared.view.Mark.{Mark}
use Rattle.bt_board.specs.declared.view.BoardView.{BoardView}
use Rattle.bt_check.specs.Queues.{Queue, TicketPassState}
use Rattle.bt_history.specs.History.{History}
use Rattle.bt_history.specs.Pieces.{had}
use Rattle.bt_history.specs.Setting.{Setting}
use Rattle.bt_meta.specs.Layout.{piece_count}
use Rattle.bt_session.specs.Workers.{Belongs, AreNamed, IsNamed, StandInOrder, Takes, WorkerState, knows}
use Rattle.bt_shared.specs.Gathering.{AreHad}
use Rattle.bt_shared.specs.Passes.{AreOf, IsSame, PassState, SharedState}

-- ---- names

-- what has one name is one
pub same_table : (name : Option TableId) (a b : TableId) → name ≡ Some a → name ≡ Some b → a ≡ b
same_table name a b is_a is_b = same_Some a b (sym is_a ∙ is_b)

-- the passes of a run's desk
pub are_of : (desk : SharedState) (name : Option TableId) (setting : Setting) (ps : List PassState) → name ≡ Some desk.table →
    desk.setting ≡ setting →
    AreNamed name setting ps → AreOf desk ps
are_of desk name setting ps desk_is same named k p at =
    let is = named k p at in
    record { table = same_table name p.table desk.table is.desk_is desk_is; setting = is.setting_is ∙ sym same }

-- ---- joined seats

-- what either has seen
seen_left : (v w : BoardView) (p : ℕ) → Seen v p → Seen (both v w) p
seen_left v w p seen =
    ⊎_elim (λ m. inl (has_front (λ (x : Mark). x.piece ≡ p) v.marks w.marks m)) (λ l. inr (has_front _ v.loads w.loads l)) seen

seen_right : (v w : BoardView) (p : ℕ) → Seen w p → Seen (both v w) p
seen_right v w p seen =
    ⊎_elim (λ m. inl (has_back (λ (x : Mark). x.piece ≡ p) v.marks w.marks m)) (λ l. inr (has_back _ v.loads w.loads l)) seen

abbrev own : WorkerState → Type 0
own worker = worker.seat.view.seats ≡ worker.pass.worker ∷ []

takes_own : (worker : WorkerState) → own worker → Takes worker.seat.view worker
takes_own worker is = record {
  stands = subst (λ (seats : List ℕ). Has (λ s. s ≡ worker.pass.worker) seats) (sym is) (inl refl);
  seen = λ piece seen. seen;
}

takes_left : (v w : BoardView) (worker : WorkerState) → Takes v worker → Takes (both v w) worker
takes_left v w worker takes = record {
  stands = has_front (λ s. s ≡ worker.pass.worker) v.seats w.seats takes.stands;
  seen = λ piece seen. seen_left v w piece (takes.seen piece seen);
}

takes_right : (v w : BoardView) (worker : WorkerState) → Takes w worker → Takes (both v w) worker
takes_right v w worker takes = record {
  stands = has_back (λ s. s ≡ worker.pass.worker) v.seats w.seats takes.stands;
  seen = λ piece seen. seen_right v w piece (takes.seen piece seen);
}

-- The first of the workers were parted into these passes and this seat
pub record Joins (setting : Setting) (desk : Option TableId) (table : TableId) (workers rest : List WorkerState) (passes : List PassState)
    (all : SeatState) : Type 0 where
  pub done : List WorkerState
  pub split : done ++ rest ≡ workers
  pub passes_are : passes ≡ map (λ w. w.pass) done
  pub named : AreNamed desk setting passes
  pub takes : All (Takes all.view) done
  pub table_is : all.table ≡ table

one : (P : WorkerState → Type 0) (w : WorkerState) → P w → All P (w ∷ [])
one P w is = All-cons P w [] is (λ i d below. absurd (omega (arith, below)))

named_more : (setting : Setting) (desk : Option TableId) (passes passes' : List PassState) (pass : PassState) → AreNamed desk setting passes →
    IsNamed desk setting pass →
    passes' ≡ passes ++ pass ∷ [] → AreNamed desk setting passes'
named_more setting desk passes passes' pass old new more = subst (AreNamed desk setting) (sym more) (go passes old)
  where
    go : (ps : List PassState) → AreNamed desk setting ps → AreNamed desk setting (ps ++ pass ∷ [])
    go [] named zero p at = subst (IsNamed desk setting) (same_Some pass p at) new
    go [] named (suc k) p at = absurd cc
    go (q ∷ ps) named zero p at = named zero p at
    go (q ∷ ps) named (suc k) p at = go ps (λ i. named (suc i)) k p at

pub joins_first : (setting : Setting) (desk : Option TableId) (table : TableId) (workers rest : List WorkerState) (w : WorkerState)
    (passes : List PassState) → workers ≡ w ∷ rest → own w → IsNamed desk setting w.pass →
    passes ≡ w.pass ∷ [] → w.seat.table ≡ table → Joins setting desk table workers rest passes w.seat
joins_first setting desk table workers rest w passes is mine named passes_are table_is = record {
  done = w ∷ [];
  split = sym is;
  passes_are = passes_are;
  named = named_more setting desk [] passes w.pass (λ k p none. absurd cc) named passes_are;
  takes = one (Takes w.seat.view) w (takes_own w mine);
  table_is = table_is;
}

pub joins_more : (setting : Setting) (desk : Option TableId) (table : TableId) (workers rest rest' : List WorkerState) (w : WorkerState)
    (passes passes' : List PassState) (all all' : SeatState) →
    Joins setting desk table workers rest passes all → rest ≡ w ∷ rest' → own w → IsNamed desk setting w.pass → passes' ≡ passes ++ w.pass ∷ [] →
    all'.view ≡ both all.view w.seat.view → all'.table ≡ table → Joins setting desk table workers rest' passes' all'
joins_more setting desk table workers rest rest' w passes passes' all all' was is mine named more view table_is = record {
  done = was.done ++ w ∷ [];
  split = append_assoc was.done (w ∷ []) rest' ∙ (ap (λ (l : List WorkerState). was.done ++ l) (sym is) ∙ was.split);
  passes_are = more ∙ (ap (λ (l : List PassState). l ++ w.pass ∷ []) was.passes_are ∙ sym (map-append (λ w. w.pass) was.done (w ∷ [])));
  named = named_more setting desk passes passes' w.pass was.named named more;
  takes = subst (λ (v : BoardView). All (Takes v) (was.done ++ w ∷ [])) (sym view)
      (All-append (Takes (both all.view w.seat.view)) was.done (w ∷ [])
      (λ i d below. takes_left all.view w.seat.view (get_or was.done i d) (was.takes i d below))
      (one (Takes (both all.view w.seat.view)) w (takes_right all.view w.seat.view w (takes_own w mine))));
  table_is = table_is;
}

nothing_left : {X : Type 0} (xs : List X) → length xs ≡ 0 → xs ≡ []
nothing_left [] none = refl
nothing_left (x ∷ xs) none = absurd (omega (arith, none))

pub all_taken : {setting : Setting} {desk : Option TableId} {table : TableId} {workers rest : List WorkerState} {passes : List PassState}
    {all : SeatState} → Joins setting desk table workers rest passes all →
    length rest ≡ 0 → All (Takes all.view) workers
all_taken {setting} {desk} {table} {workers} {rest} {passes} {all} was none =
    let is : was.done ≡ workers = sym (append-nil was.done) ∙
    (ap (λ (l : List WorkerState). was.done ++ l) (sym (nothing_left rest none)) ∙ was.split) in
    subst (All (Takes all.view)) is was.takes

-- ---- all seats in one

some_of : {X : Type 0} (xs : List X) → 1 ≤ length xs → X
some_of [] some = absurd (omega (arith, some))
some_of (x ∷ xs) some = x

module _ (workers : List WorkerState) (all : BoardView) (takes : All (Takes all) workers) where
  -- it stands for each seat
  pub all_stand : (n : ℕ) → length workers ≡ n → 1 ≤ length workers → StandInOrder workers → (s : ℕ) → s < n → StandsFor all s
  all_stand n count some order s below =
      let any = some_of workers some in
      let less : s < length workers = omega (arith, below, count) in
      let at : (get_or workers s any).pass.worker ≡ s = order s any less ∙ omega arith in
      subst (StandsFor all) at (takes s any less).stands

  -- what a worker's seat has seen is had
  pub all_had : (setting : Setting) (h : History) (bits : List Bool) → length bits ≡ piece_count setting.torrent →
      ((p : ℕ) → Seen all p → get_or bits p false ≡ true) → AreHad bits h →
      All (λ w. (piece : ℕ) → knows setting w.seat piece ≡ true → had h piece ≡ true) workers
  all_had setting h bits wide seen are i d below piece known =
      let knew = (seen_decides (piece_count setting.torrent) (get_or workers i d).seat.view piece).0 known in
      sym (are piece (omega (arith, knew.0, wide))) ∙ seen piece ((takes i d below).seen piece knew.1)
