-- The lines of a journal, one by one.
use Rattle.std.proofs.Common.{◌≡◌, ◌<◌, ◌+◌, ℕ, List, [], ◌∷◌, ◌++◌, length, map, take, slice_index_or, refl, sym, ap, ◌∙◌, subst, append_assoc}
use Rattle.std.proofs.Common.{append-nil}
use Rattle.std.specs.Prelude.{codes}
use Rattle.std.proofs.lemmas.List.{take_more, map-append}
use Rattle.bt_history.specs.declared.call.Entry.{Entry}
use Rattle.bt_history.specs.declared.event.Event.{Event}
use Rattle.bt_history.specs.Entries.{event_of}
use Rattle.bt_text.specs.Journals.{AreJournalLines, IsJournalLine}

lines_more : (events : List Event) (e : Event) (text line : List ℕ) → AreJournalLines events text → IsJournalLine e line
    → AreJournalLines (events ++ e ∷ []) (text ++ (line ++ codes "\n"))
lines_more [] e text line are is =
    (line, ([], (is, refl, ap (λ (xs : List ℕ). xs ++ (line ++ codes "\n")) are ∙ sym (append-nil (line ++ codes "\n")))))
lines_more (first ∷ events) e text line are is =
    let more = line ++ codes "\n" in (
      are.0,
      (
        are.1.0 ++ more,
        (
          are.1.1.0,
          lines_more events e are.1.0 line are.1.1.1 is,
          ap (λ (xs : List ℕ). xs ++ more) are.1.1.2 ∙ append_assoc (are.0 ++ codes "\n") are.1.0 more,
        ),
      ),
    )

-- the line of one more entry
pub entries_more : (entries : List Entry) (i : ℕ) (d : Entry) (text line : List ℕ) → i < length entries
    → AreJournalLines (map event_of (take i entries)) text → IsJournalLine (event_of (slice_index_or entries i d)) line
    → AreJournalLines (map event_of (take (i + 1) entries)) (text ++ (line ++ codes "\n"))
entries_more entries i d text line lt are is =
    let e = slice_index_or entries i d in
    let same : map event_of (take (i + 1) entries) ≡ map event_of (take i entries) ++ event_of e ∷ [] =
    ap (map event_of) (take_more entries i d lt) ∙ map-append event_of (take i entries) (e ∷ []) in
    subst (λ (events : List Event). AreJournalLines events (text ++ (line ++ codes "\n"))) (sym same)
    (lines_more (map event_of (take i entries)) (event_of e) text line are is)
