-- A legal journal passes its audit: no entry of it isn't allowed.
use Rattle.std.proofs.Common.{◌≡◌, ◌+◌, ◌<◌, ◌∷◌, [], ◌++◌, ◌∙◌, ℕ, List, ap, sym, arith, subst, length, take, drop, get_or}
use Rattle.std.proofs.lemmas.Grind.{common_steps}
use Rattle.std.proofs.lemmas.List.{take_more, map-append, take-append-drop}
use Rattle.bt_history.specs.declared.call.Entry.{Entry}
use Rattle.bt_history.specs.declared.event.Event.{Event}
use Rattle.bt_history.specs.Entries.{event_of, history_of}
use Rattle.bt_history.specs.Legal.{IsAllowed, IsLegal}
use Rattle.bt_history.specs.Setting.{Setting, setting_of}
use Rattle.bt_history.specs.declared.rules.Rules.{Rules}
use Rattle.bt_history.specs.declared.call.Call.TheVariants as calls
use Rattle.bt_history.specs.declared.call.Reply.TheVariants.{Joined}
use Rattle.bt_meta.specs.Layout.{Layout}
use Rattle.bt_picker.specs.Audits.{IsFirstWrong}

-- what came before is legal too
legal_before : (s : Setting) (newer older : List Event) → IsLegal s (newer ++ older) → IsLegal s older
legal_before s [] older legal = legal
legal_before s (e ∷ newer) older legal = legal_before s newer older legal.0

-- the journal up to an entry, that entry, and what came behind it
parted : (xs : List Entry) (i : ℕ) (d : Entry) → i < length xs
    → history_of xs ≡ history_of (drop (i + 1) xs) ++ event_of (get_or xs i d) ∷ history_of (take i xs)
parted xs i d lt =
    let more : take (i + 1) xs ≡ take i xs ++ get_or xs i d ∷ [] = take_more xs i d lt in
    let whole : xs ≡ (take i xs ++ get_or xs i d ∷ []) ++ drop (i + 1) xs =
    sym (take-append-drop (i + 1) xs) ∙ ap (λ (ys : List Entry). ys ++ drop (i + 1) xs) more in
    ap history_of whole ∙ grind (arith, common_steps, map-append)

-- each entry is allowed after those before it
allowed_at : (s : Setting) (xs : List Entry) (i : ℕ) (d : Entry) → i < length xs → IsLegal s (history_of xs)
    → IsAllowed s (history_of (take i xs)) (event_of (get_or xs i d))
allowed_at s xs i d lt legal =
    let newer = history_of (drop (i + 1) xs) in let older = event_of (get_or xs i d) ∷ history_of (take i xs) in
    (legal_before s newer older (subst (IsLegal s) (parted xs i d lt) legal)).1

-- so none is the first wrong one
pub not_wrong : (s t : Setting) (xs : List Entry) (i : ℕ) → s ≡ t → IsLegal t (history_of xs) → IsFirstWrong s xs i → ⊥
not_wrong s t xs i same legal wrong =
    let d : Entry = record { worker = 0; call = calls.Join; reply = Joined } in
    wrong.2 d (allowed_at s xs i d wrong.0 (subst (λ (u : Setting). IsLegal u (history_of xs)) (sym same) legal))

-- a setting is told by its torrent, its workers and its rules
pub setting_is : (s : Setting) (t : Layout) (w : ℕ) (rules : Rules) → t ≡ s.torrent → w ≡ s.workers
    → rules.depth ≡ s.depth → rules.random ≡ s.random → rules.askers ≡ s.askers → rules.deepest ≡ s.deepest → rules.«open» ≡ s.most_open
    → rules.rush ≡ s.rush → rules.shown ≡ s.shown → setting_of t w rules ≡ s
setting_is s t w rules a b c d e f g h j = λ i. record {
  torrent = a i;
  workers = b i;
  depth = c i;
  random = d i;
  askers = e i;
  deepest = f i;
  most_open = g i;
  rush = h i;
  shown = j i;
}
