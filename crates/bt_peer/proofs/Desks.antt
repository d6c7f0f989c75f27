-- What a place at a desk gains by an entry of its worker, and by news.
use Rattle.std.proofs.Common.{◌≡◌, ◌≢◌, ℕ, Bool, true, false, List, [], ◌∷◌, ◌++◌, length, refl, sym, ap, subst, ◌∙◌, inl, inr, ◌==◌, ◌<◌, eq-eqb}
use Rattle.std.proofs.Common.{arith}
use Rattle.std.specs.Prelude.{if◌then◌else◌, ◌||◌, ◌&&◌, nat_lt, not, slice_index_or, slice_set}
use Rattle.std.proofs.lemmas.List.{append-nil, get_or-set_other}
use Rattle.std.proofs.lemmas.Grind.{get_or-set_at}
use Rattle.std.proofs.lemmas.Bool.Decides.{nat_tests}
use Rattle.std.specs.Borrow.{GName}
use Rattle.bt_meta.specs.Layout.{piece_count}
use Rattle.bt_history.specs.declared.call.Reply.{Reply}
use Rattle.bt_history.specs.declared.event.Action.{Action, Action}
use Rattle.bt_history.specs.declared.event.Event.{Event as Entry}
use Rattle.bt_history.specs.declared.event.Action.TheVariants as actions
use Rattle.bt_history.specs.Before.{is_loss}
use Rattle.bt_history.specs.History.{History, passed}
use Rattle.bt_history.proofs.Losing.{lost_none}
use Rattle.bt_history.specs.Logs.{answers}
use Rattle.bt_history.specs.declared.mark.CallMark.TheVariants as marks
use Rattle.bt_history.specs.Pieces.{content, had}
use Rattle.bt_history.specs.Finished.{finished, finished_by}
use Rattle.bt_peer.specs.Acts.{Act, Called, News}
use Rattle.bt_peer.specs.Places.{Extends, Gains}
use Rattle.bt_history.proofs.Allowed.{allowed_answers}
use Rattle.bt_picker.specs.Checks.{waits, settling, SettlesIf, SettlesNow}
use Rattle.bt_picker.specs.Positions.{DeskState, Gains as Enters}
use Rattle.bt_peer.specs.Desks.{calls_in, desk_record}
use Rattle.bt_history.specs.Setting.{Setting}
use Rattle.bt_peer.specs.Turns.{ChecksAtMost}
use Rattle.bt_peer.proofs.Stretches.{Extends-refl, Gains-none}

-- an entry's own worker made one call more
pub calls_in-own : (h : History) (e : Entry) (worker : ℕ) → (e.worker == worker) ≡ true →
    calls_in (e ∷ h) worker ≡ calls_in h worker ++ (e.action, e.reply) ∷ []
calls_in-own h e worker own =
    let nothing : List (Action × Reply) = [] in
    ap (λ (b : Bool). calls_in h worker ++ (if b then (e.action, e.reply) ∷ [] else nothing)) own

-- another worker made none
pub calls_in-other : (h : History) (e : Entry) (worker : ℕ) → (e.worker == worker) ≡ false → calls_in (e ∷ h) worker ≡ calls_in h worker
calls_in-other h e worker other =
    let nothing : List (Action × Reply) = [] in
    ap (λ (b : Bool). calls_in h worker ++ (if b then (e.action, e.reply) ∷ [] else nothing)) other
    ∙ append-nil (calls_in h worker)

pub and-more : (a b c : Bool) → (b ≡ true → c ≡ true) → (a && b) ≡ true → (a && c) ≡ true
and-more true b c more is = more is
and-more false b c more is = is

or-true : (a b : Bool) → b ≡ true → (a || b) ≡ true
or-true true b is = refl
or-true false b is = is

-- a piece that is had stays so, where none is lost
pub had-more : (h : History) (e : Entry) (piece : ℕ) → is_loss e.action ≡ false → had h piece ≡ true → had (e ∷ h) piece ≡ true
unfolding had
had-more h e piece keeps is = or-true (passed e piece) _ (ap (λ (x : Bool). not x && had h piece) (lost_none e piece keeps) ∙ is)

kept_by : (same : Bool) (h : History) (e : Entry) (worker other : ℕ) → (other == worker) ≡ same → (e.worker == worker) ≡ true →
    (if other == worker then [] else calls_in (e ∷ h) other) ≡ (if other == worker then [] else calls_in h other)
kept_by true h e worker other is own =
    let nothing : List (Action × Reply) = [] in
    ap (λ (b : Bool). if b then nothing else calls_in (e ∷ h) other) is ∙ sym (ap (λ (b : Bool). if b then nothing else calls_in h other) is)
kept_by false h e worker other is own =
    let apart : (e.worker == other) ≡ false = grind (arith, nat_tests) in
    let nothing : List (Action × Reply) = [] in
    ap (λ (b : Bool). if b then nothing else calls_in (e ∷ h) other) is ∙ calls_in-other h e other apart
    ∙ sym (ap (λ (b : Bool). if b then nothing else calls_in h other) is)

others-kept : (h : History) (e : Entry) (worker other : ℕ) → (e.worker == worker) ≡ true →
    (if other == worker then [] else calls_in (e ∷ h) other) ≡ (if other == worker then [] else calls_in h other)
others-kept h e worker other own =
    kept_by (other == worker) h e worker other refl own

abbrev desk_of : Setting → History → DeskState
desk_of setting history = record { setting = setting; history = history }

-- an entry only adds to the finished pieces
pub finished_on : (h : History) (e : Entry) → Extends (finished h) (finished (e ∷ h))
unfolding finished
finished_on h e = (finished_by e, refl)

-- a call of the worker is entered
pub called : (lent : List GName) (old new : DeskState) (worker : ℕ) (action : Action) (reply : Reply) (told : List Bool) (lacked : Bool) →
    is_loss action ≡ false → Enters old new (record { worker = worker; action = action; reply = reply }) →
    Gains (desk_record lent old worker told lacked) (Called action reply ∷ []) (desk_record lent new worker told lacked)
called lent old new worker action reply told lacked keeps enters =
    let h = old.history in
    let e : Entry = record { worker = worker; action = action; reply = reply } in
    let is : new ≡ record { setting = old.setting; history = e ∷ h } =
    ap (λ (setting : Setting). desk_of setting new.history) enters.setting ∙ ap (λ (history : History). desk_of old.setting history) enters.entered in
    let own : (e.worker == worker) ≡ true = eq-eqb worker worker refl in
    let gained : Gains (desk_record lent old worker told lacked) (Called action reply ∷ [])
    (desk_record lent (record old { history = e ∷ h }) worker told lacked) =
    record {
      up_to = record {
        lent = refl;
        worker = refl;
        setting = refl;
        calls = calls_in-own h e worker own;
        others = λ other. others-kept h e worker other own;
        had = λ piece. and-more (nat_lt piece (piece_count old.setting.torrent)) (had h piece) (had (e ∷ h) piece) (had-more h e piece keeps);
        in_order = finished_on h e;
        told = λ piece. refl;
        finished = tt;
      };
      lacked = refl;
    } in
    subst (λ (desk : DeskState). Gains (desk_record lent old worker told lacked) (Called action reply ∷ [])
    (desk_record lent desk worker told lacked)) (sym is) gained

pub told_by : (same : Bool) (piece other : ℕ) (told : List Bool) → (other == piece) ≡ same → piece < length told →
    slice_index_or (slice_set told piece true) other false ≡ (if other == piece then true else slice_index_or told other false)
told_by true piece other told is within =
    let here : other ≡ piece = grind (arith, nat_tests) in
    get_or-set_at told piece other true false here within ∙ sym (ap (λ (b : Bool). if b then true else slice_index_or told other false) is)
told_by false piece other told is within =
    let apart : other ≢ piece = grind (arith, nat_tests) in
    get_or-set_other told piece other true false apart ∙ sym (ap (λ (b : Bool). if b then true else slice_index_or told other false) is)

-- what a check leaves, for a piece that waits for one or doesn't
settled_if : (waits : Bool) (lent : List GName) (old new : DeskState) (worker piece : ℕ) (reply : Reply) (told : List Bool) (lacked : Bool) →
    SettlesIf waits old new worker piece reply →
    (acts : List Act) × (ChecksAtMost piece acts
    × Gains (desk_record lent old worker told lacked) acts (desk_record lent new worker told lacked))
settled_if true lent old new worker piece reply told lacked enters =
    let e = settling old.setting old.history worker piece reply in
    let fits : answers (marks.Settle piece) reply ≡ true = allowed_answers old.setting old.history e enters.allowed in
    let hashed = content old.setting old.history piece in
    let act : Act = Called (actions.Settle piece hashed) reply in
    (act ∷ [], (inr (hashed, (reply, (fits, refl))), called lent old new worker e.action reply told lacked refl enters))
settled_if false lent old new worker piece reply told lacked unchanged =
    let same = subst (λ (desk : DeskState). Gains (desk_record lent old worker told lacked) [] (desk_record lent desk worker told lacked))
    (sym unchanged.0) (Gains-none (desk_record lent old worker told lacked)) in
    ([], (inl refl, same))

-- a piece was settled now, where it waited for that
pub settled : (lent : List GName) (old new : DeskState) (worker piece : ℕ) (reply : Reply) (told : List Bool) (lacked : Bool) →
    SettlesNow old new worker piece reply →
    (acts : List Act) × (ChecksAtMost piece acts
    × Gains (desk_record lent old worker told lacked) acts (desk_record lent new worker told lacked))
settled lent old new worker piece reply told lacked settles =
    settled_if (waits old.setting old.history piece) lent old new worker piece reply told lacked settles

-- a finished piece that was not told is told
pub told_one : (lent : List GName) (desk : DeskState) (worker piece : ℕ) (told : List Bool) (lacked : Bool) → piece < length told →
    (desk_record lent desk worker told lacked).had piece ≡ true → slice_index_or told piece false ≡ false →
    Gains (desk_record lent desk worker told lacked) (News piece ∷ []) (desk_record lent desk worker (slice_set told piece true) lacked)
told_one lent desk worker piece told lacked within is_had new =
    record {
      up_to = record {
        lent = refl;
        worker = refl;
        setting = refl;
        calls = sym (append-nil (calls_in desk.history worker));
        others = λ other. refl;
        had = λ other. λ is. is;
        in_order = Extends-refl (finished desk.history);
        told = (new, λ other. told_by (other == piece) piece other told refl within);
        finished = (is_had, tt);
      };
      lacked = refl;
    }
