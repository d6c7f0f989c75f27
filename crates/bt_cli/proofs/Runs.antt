-- What is told of a run.
use Rattle.std.proofs.Common.{true, ◌≡◌, ◌<◌, ◌+◌, ℕ, Bool, false, List, [], ◌∷◌, ◌++◌, length, map, take, drop, slice_index_or, refl, sym, ap, ◌∙◌}
use Rattle.std.proofs.Common.{subst, arith, inl, inr, Ok, Err, Result}
use Rattle.std.specs.Prelude.{reverse, IsOk, IfOk, IfErr}
use Rattle.std.proofs.lemmas.List.{take_more, map-append, reverse-append, take-append-drop}
use Rattle.bt_picker.specs.Audits.{IsFirstWrong}
use Rattle.bt_picker.specs.Contents.{has_wanted}
use Rattle.bt_picker.specs.Positions.{DeskState}
use Rattle.bt_history.specs.declared.call.Entry.{Entry}
use Rattle.bt_history.specs.Entries.{event_of, history_of}
use Rattle.bt_history.specs.History.{History}
use Rattle.bt_history.specs.Legal.{IsLegal, IsAllowed}
use Rattle.bt_history.specs.Setting.{Setting}
use Rattle.bt_meta.specs.Layout.{Metainfo}
use Rattle.bt_meta.specs.declared.fault.MetaFault.{MetaFault}
use Rattle.bt_text.specs.declared.fault.Fault.{Fault}
use Rattle.bt_text.specs.Statuses.{status_of}
use Rattle.bt_cli.specs.Runs.{IsEndStatus, IsRunFault, run_status}

-- ---- a legal journal has no wrong entry

legal_back : (s : Setting) (newer h : History) → IsLegal s (newer ++ h) → IsLegal s h
legal_back s [] h legal = legal
legal_back s (e ∷ newer) h legal = legal_back s newer h legal.0

history-append : (xs ys : List Entry) → history_of (xs ++ ys) ≡ history_of ys ++ history_of xs
history-append xs ys = ap reverse (map-append event_of xs ys) ∙ reverse-append (map event_of xs) (map event_of ys)

pub legal_at : (s : Setting) (entries : List Entry) (i : ℕ) (d : Entry) → i < length entries → IsLegal s (history_of entries)
    → IsAllowed s (history_of (take i entries)) (event_of (slice_index_or entries i d))
legal_at s entries i d lt legal =
    let before = take i entries in
    let e = slice_index_or entries i d in
    let front : history_of (take (i + 1) entries) ≡ event_of e ∷ history_of before =
    ap history_of (take_more entries i d lt) ∙ history-append before (e ∷ []) in
    let whole : history_of entries ≡ history_of (drop (i + 1) entries) ++ (event_of e ∷ history_of before) =
    ap history_of (sym (take-append-drop (i + 1) entries)) ∙ (history-append (take (i + 1) entries) (drop (i + 1) entries)
    ∙ ap (λ (h : History). history_of (drop (i + 1) entries) ++ h) front) in
    (legal_back s (history_of (drop (i + 1) entries)) (event_of e ∷ history_of before) (subst (λ (h : History). IsLegal s h) whole legal)).1

-- an audit doesn't find a legal journal wrong
pub not_wrong : (s : Setting) (entries : List Entry) (place : ℕ) → IsLegal s (history_of entries) → IsFirstWrong s entries place → ⊥
not_wrong s [] place legal wrong = absurd (omega (arith, wrong.0))
not_wrong s (e ∷ entries) place legal wrong = wrong.2 e (legal_at s (e ∷ entries) place e wrong.0 legal)

-- the status of a run by how it ended
pub end_status : (read : Result Metainfo MetaFault) (ended : Result Bool Fault) (status : ℕ) (desk : DeskState) → IsOk read →
    status ≡ run_status ended →
    ((t : Metainfo) → read ≡ Ok t → IfOk ended (λ all. all ≡ has_wanted desk.setting desk.history) × IfErr ended IsRunFault) →
    IsEndStatus read status desk
end_status (Err fault) ended status desk ok is facts = absurd (cc ok)
end_status (Ok t) (Ok true) status desk ok is facts = inl (is, sym (facts t refl).0)
end_status (Ok t) (Ok false) status desk ok is facts = inr (inl (is, sym (facts t refl).0))
end_status (Ok t) (Err fault) status desk ok is facts =
    elim (facts t refl).1 [
      | inl file ↦ inr (inr (inl (is ∙ ap status_of file)))
      | inr memory ↦ inr (inr (inr (is ∙ ap status_of memory)))
    ]
