-- The history that a journal tells, entry by entry, and the marks that its entries leave.
use Rattle.std.proofs.Common.{◌≡◌, ◌≢◌, ℕ, ◌+◌, ◌==◌, true, false, List, [], ◌∷◌, ◌++◌, length, map, reverse, take, drop, get_or, Some, slice_get}
use Rattle.std.proofs.Common.{refl, ap, sym, ◌∙◌, arith, append_assoc, eq-eqb, ne_eqb, append-nil, subst}
use Rattle.std.specs.Prelude.{if◌then◌else◌}
use Rattle.std.proofs.lemmas.List.{length-map, length-reverse, length-take-le, map-append, reverse-append, take-append-drop, take_more}
use Rattle.std.proofs.lemmas.Option.{slice_get_within, get_or_from_slice_get}
use Rattle.bt_history.specs.declared.call.Entry.{Entry}
use Rattle.bt_history.specs.declared.mark.Mark.{Mark}
use Rattle.bt_history.specs.Entries.{event_of, history_of}
use Rattle.bt_history.specs.History.{History}
use Rattle.bt_history.specs.Logs.{mark_of, marks_of}

-- a journal tells as many entries as it has
pub history_length : (journal : List Entry) → length (history_of journal) ≡ length journal
history_length journal = length-reverse (map event_of journal) ∙ length-map journal event_of

-- entries behind a journal come before its history
pub history_append : (older newer : List Entry) → history_of (older ++ newer) ≡ history_of newer ++ history_of older
history_append older newer = ap reverse (map-append event_of older newer) ∙ reverse-append (map event_of older) (map event_of newer)

-- the first k entries and the next one
pub take_step : {A : Type 0} (xs : List A) (k : ℕ) (x : A) → slice_get xs k ≡ Some x → take (k + 1) xs ≡ take k xs ++ x ∷ []
take_step xs k x at =
    let here : get_or xs k x ≡ x = get_or_from_slice_get xs k x x at in
    rw (take_more xs k x (slice_get_within xs k x at), here) refl

module _ (journal : List Entry) (worker k : ℕ) (e : Entry) (at : slice_get journal k ≡ Some e) where
  -- how many entries stand before it
  before : length (history_of (take k journal)) ≡ k
  before = history_length (take k journal) ∙ length-take-le k journal (omega (arith, slice_get_within journal k e at))

  step : history_of (take (k + 1) journal) ≡ event_of e ∷ history_of (take k journal)
  step = ap history_of (take_step journal k e at) ∙ history_append (take k journal) (e ∷ [])

  -- an entry of the worker leaves its mark
  pub mark_next : e.worker ≡ worker
      → marks_of (history_of (take (k + 1) journal)) worker ≡ marks_of (history_of (take k journal)) worker ++ mark_of k (event_of e) ∷ []
  mark_next own =
      let b : (e.worker == worker) ≡ true = eq-eqb e.worker worker own in
      rw (step, b, before) refl

  -- an entry of another worker leaves none
  pub mark_skip : e.worker ≢ worker
      → marks_of (history_of (take (k + 1) journal)) worker ≡ marks_of (history_of (take k journal)) worker
  mark_skip other =
      let b : (e.worker == worker) ≡ false = ne_eqb e.worker worker other in
      rw (step, b) (append-nil (marks_of (history_of (take k journal)) worker))

-- newer entries leave their marks behind those of the older ones
later_marks : (newer h : History) (w : ℕ) → (rest : List Mark) × (marks_of (newer ++ h) w ≡ marks_of h w ++ rest)
later_marks [] h w = ([], sym (append-nil (marks_of h w)))
later_marks (e ∷ newer) h w =
    let older = later_marks newer h w in
    let last : List Mark = if e.worker == w then mark_of (length (newer ++ h)) e ∷ [] else [] in
    (older.0 ++ last, ap (λ (marks : List Mark). marks ++ last) older.1 ∙ append_assoc (marks_of h w) older.0 last)

-- the marks of a journal begin with those of its first entries
pub marks_take : (journal : List Entry) (k w : ℕ)
    → (rest : List Mark) × (marks_of (history_of journal) w ≡ marks_of (history_of (take k journal)) w ++ rest)
marks_take journal k w =
    let first = history_of (take k journal) in
    let whole : history_of (drop k journal) ++ first ≡ history_of journal =
    sym (history_append (take k journal) (drop k journal)) ∙ ap history_of (take-append-drop k journal) in
    subst (λ (h : History). (rest : List Mark) × (marks_of h w ≡ marks_of first w ++ rest)) whole
    (later_marks (history_of (drop k journal)) first w)
