use Rattle.std.proofs.Common.{rules, ◌≡◌, ◌+◌, ◌<◌, ◌∷◌, [], ◌++◌, ◌∙◌, ℕ, List, ap, sym, arith, subst, length, take, get_or}
use Rattle.std.proofs.lemmas.Grind.{common_steps}
use Rattle.std.proofs.lemmas.Bool.{false≢true}
use Rattle.std.proofs.lemmas.List.{get_or_default, length-take, take_more, map-append}
use Rattle.bt_history.specs.declared.call.Entry.{Entry}
use Rattle.bt_history.specs.Entries.{action_of, event_of, history_of}
use Rattle.bt_history.specs.History.{History}
use Rattle.bt_history.specs.Legal.{IsAllowed, IsLegal}
use Rattle.bt_history.specs.Setting.{Setting}
use Rattle.bt_picker.specs.Tables.{AreTables}
use Rattle.bt_history.proofs.Journals.{history_length}
use Rattle.bt_picker.proofs.Placing.{places_more, slot_there}
use Rattle.bt_picker.proofs.auditing.judge.Goals as goal

-- the history that one entry more tells
history_more : (xs : List Entry) (i : ℕ) (e : Entry) → i < length xs → e ≡ get_or xs i e →
    history_of (take (i + 1) xs) ≡ event_of e ∷ history_of (take i xs)
history_more xs i e lt is =
    let more : take (i + 1) xs ≡ take i xs ++ e ∷ [] = take_more xs i e lt ∙ ap (λ (x : Entry). take i xs ++ x ∷ []) (sym is) in
    ap history_of more ∙ grind (arith, common_steps, map-append)

pub is_next-requires-clause-places : goal.is_next-requires-clause-places
is_next-requires-clause-places c = c.loop-place.invariant.places

pub note-requires : goal.note-requires
note-requires c piece begin bytes is storing =
    let inv = c.loop-place.invariant in
    let e = c.index-entries-place.result in
    slot_there c.loop-place.tables.setting c.loop-place.past.entries c.loop-place.places e.worker (action_of e.call) e.reply inv.places
    (c.is_next.ensures.yes c.if-not-is_next.false) piece begin bytes is storing

pub loop-place-preserved : goal.loop-place-preserved
loop-place-preserved c =
    let inv = c.loop-place.invariant in
    let more = history_more c.args.entries.now c.loop-place.place c.index-entries-place.result c.loop-place-test.true c.index-entries-place.is in
    let step = ap (λ (h : History). event_of c.index-entries-place.result ∷ h) inv.past ∙ sym more in
    let e = c.index-entries-place.result in
    let front = take c.loop-place.place c.args.entries.now in
    let long : c.loop-place.place ≡ length c.loop-place.past.entries =
    (let counted = length-take c.loop-place.place c.args.entries.now in
    let told = ap (λ (h : History). length h) inv.past ∙ history_length front in
    omega (arith, counted, told, c.loop-place-test.true)) in
    let noted = places_more c.loop-place.tables.setting c.loop-place.past.entries c.loop-place.places e.worker (action_of e.call) e.reply inv.places
    (c.is_next.ensures.yes c.if-not-is_next.false) in
    record {
      setting = c.follow-past.ensures.setting ∙ inv.setting;
      are = subst (AreTables c.follow-past.new.tables) (c.follow-past.ensures.past ∙ step) c.follow-past.ensures.are;
      past = c.follow-past.ensures.past ∙ step;
      places = rw (c.follow-past.ensures.setting, c.follow-past.ensures.past, c.note.ensures, long) noted;
    }

pub returns-then-not-is_next-clause-ok : goal.returns-then-not-is_next-clause-ok
returns-then-not-is_next-clause-ok c = search rules fits 100

pub returns-then-not-is_next-clause-err : goal.returns-then-not-is_next-clause-err
returns-then-not-is_next-clause-err c =
    let inv = c.loop-place.invariant in
    let before = history_of (take c.loop-place.place c.args.entries.now) in (
      c.loop-place-test.true,
      subst (λ (s : Setting). IsLegal s before) inv.setting inv.are.legal,
      λ d allowed.
          let same : get_or c.args.entries.now c.loop-place.place d ≡ c.index-entries-place.result =
          get_or_default c.args.entries.now c.loop-place.place d c.index-entries-place.result c.loop-place-test.true
          ∙ sym c.index-entries-place.is in
          let here = subst (λ (e : Entry). IsAllowed c.args.tables.now.setting before (event_of e)) same allowed in
          let there = subst (λ (s : Setting). IsAllowed s before (event_of c.index-entries-place.result)) (sym inv.setting) here in
          let last = subst (λ (h : History). IsAllowed c.loop-place.tables.setting h (event_of c.index-entries-place.result)) (sym inv.past) there in
          absurd (false≢true (sym c.if-not-is_next.true ∙ c.is_next.ensures.no last)),
    )
