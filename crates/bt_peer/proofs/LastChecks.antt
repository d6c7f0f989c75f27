-- What the last checks of a run leave, and how its sessions ended.
use Rattle.std.proofs.Common.{◌≡◌, ◌≢◌, ◌<◌, ◌≤◌, ℕ, zero, suc, Bool, true, false, List, [], ◌∷◌, Option, Some, None, Result, Ok, Err, length, map}
use Rattle.std.proofs.Common.{get_or, replicate, lit≤, refl, sym, ap, subst, ◌==◌, ◌∙◌, arith, inl}
use Rattle.std.specs.Prelude.{nat_lt, is_err, OnOk, OnErr, ◌&&◌, slice_index_or}
use Rattle.std.proofs.lemmas.Bool.Decides.{nat_tests}
use Rattle.std.proofs.lemmas.List.{get_or-map}
use Rattle.bt_meta.specs.Layout.{Layout, piece_count}
use Rattle.bt_history.specs.declared.event.Event.{Event as Entry}
use Rattle.bt_history.specs.History.{History}
use Rattle.bt_history.specs.Pieces.{had}
use Rattle.bt_history.specs.Finished.{finished}
use Rattle.bt_history.specs.Setting.{Setting}
use Rattle.bt_picker.specs.Checks.{FinishedBelow, FinishesOne, GivesUp, settling, waits}
use Rattle.bt_picker.specs.Positions.{DeskState, Gains as Enters}
use Rattle.bt_peer.specs.declared.fault.End.{End}
use Rattle.bt_peer.specs.declared.fault.SessionFault.{SessionFault}
use Rattle.bt_peer.specs.declared.seat.Seat.{Seat}
use Rattle.rand_core.specs.Stream.{Stream as Numbers}
use Rattle.bt_peer.specs.Conduct.{Calls, Conducts, DrawsNumbers, all_checked, answers_of, generator_of}
use Rattle.bt_peer.specs.Desks.{calls_in}
use Rattle.bt_peer.specs.Reader.{most_reads}
use Rattle.bt_peer.specs.Places.{PlaceRecord, Gains}
use Rattle.bt_peer.specs.Sessions.{SessionState, Running}
use Rattle.bt_peer.specs.Serial.{StreamRecord, Ended, EachEnded, ChecksAfter, Finishes, around, before_all, own_record, source_of}
use Rattle.bt_peer.specs.SessionTerms.{TermsState}
use Rattle.bt_peer.specs.Course.{Course, IsCourse, SessionBy, ConductBy, DevicesBy, LeavesOthers, LeavesRest, IsFresh, IsNew, AreNew}
use Rattle.bt_peer.specs.Course.{MayTakeTurns, TookTurns, course_of}
use Rattle.bt_peer.proofs.Conduct.{Conducts-none, Conducts-draws}
use Rattle.bt_peer.proofs.EachStream.{ends_count}
use Rattle.bt_history.specs.Before.{is_loss}
use Rattle.bt_peer.proofs.Desks.{calls_in-other, and-more, finished_on, had-more}
use Rattle.bt_peer.proofs.Course.{Keeps-join, others_keep}
use Rattle.bt_peer.proofs.Stretches.{Extends-join, Extends-refl, Gains-none}

-- an entry of a worker leaves the others alone
entered_leaves : (old new : DeskState) (e : Entry) → is_loss e.action ≡ false → Enters old new e → LeavesOthers e.worker old new
entered_leaves old new e keeps enters =
    let h = old.history in
    let after : DeskState = record { setting = old.setting; history = e ∷ h } in
    let is : new ≡ after =
    ap (λ (setting : Setting). let desk : DeskState = record { setting = setting; history = new.history } in desk) enters.setting
    ∙ ap (λ (history : History). let desk : DeskState = record { setting = old.setting; history = history } in desk) enters.entered in
    let left : LeavesOthers e.worker old after = record {
      setting = refl;
      calls = λ other. λ apart.
          let differs : (e.worker == other) ≡ false = grind (arith, nat_tests) in
          calls_in-other h e other differs;
      had = λ piece. and-more (nat_lt piece (piece_count old.setting.torrent)) (had h piece) (had (e ∷ h) piece) (had-more h e piece keeps);
      in_order = finished_on h e;
    } in
    subst (LeavesOthers e.worker old) (sym is) left

LeavesOthers-refl : (worker : ℕ) (desk : DeskState) → LeavesOthers worker desk desk
LeavesOthers-refl worker desk = record {
  setting = refl;
  calls = λ other. λ apart. refl;
  had = λ piece. λ is. is;
  in_order = Extends-refl (finished desk.history);
}

LeavesOthers-join : (worker : ℕ) (a b c : DeskState) → LeavesOthers worker a b → LeavesOthers worker b c → LeavesOthers worker a c
LeavesOthers-join worker a b c first then = record {
  setting = then.setting ∙ first.setting;
  calls = λ other. λ apart. then.calls other apart ∙ first.calls other apart;
  had = λ piece. λ is. then.had piece (first.had piece is);
  in_order = Extends-join (finished a.history) (finished b.history) (finished c.history) first.in_order then.in_order;
}

one_leaves : (waiting : Bool) (desk : DeskState) (worker piece : ℕ) (new : DeskState) → FinishesOne waiting desk worker piece new →
    LeavesOthers worker desk new
one_leaves true desk worker piece new settles = entered_leaves desk new (settling desk.setting desk.history worker piece settles.0) refl settles.1
one_leaves false desk worker piece new same = subst (LeavesOthers worker desk) (sym same) (LeavesOthers-refl worker desk)

-- the last checks leave the others alone
pub finished_leaves : (first : DeskState) (worker count : ℕ) (new : DeskState) → FinishedBelow first worker count new → LeavesOthers worker first new
finished_leaves first worker zero new same = subst (LeavesOthers worker first) (sym same) (LeavesOthers-refl worker first)
finished_leaves first worker (suc count) new (mid, below, one) =
    LeavesOthers-join worker first mid new (finished_leaves first worker count mid below)
    (one_leaves (waits first.setting first.history count) mid worker count new one)

by_result : {E : Type 0} (result : Result Unit E) (worker : ℕ) (before desk : DeskState) →
    OnOk result (FinishedBelow before worker (piece_count before.setting.torrent) desk) →
    OnErr result (GivesUp before worker desk) → Finishes worker (calls_in before.history worker) (is_err result) desk
by_result (Ok unit) worker before desk done given_up =
    let left = finished_leaves before worker (piece_count before.setting.torrent) desk done in
    record {
      before = before;
      opened = refl;
      count = piece_count before.setting.torrent;
      finished = done;
      all = λ off. sym (ap (λ (setting : Setting). piece_count setting.torrent) left.setting);
      still = λ on. absurd cc;
    }
by_result (Err e) worker before desk done given_up =
    record {
      before = before;
      opened = refl;
      count = given_up.piece;
      finished = given_up.below;
      all = λ off. absurd cc;
      still = λ on. given_up.still;
    }

-- the last checks, whether memory ran out or not
pub checks_finish : {E : Type 0} (result : Result Unit E) (unfinished : Bool) (worker : ℕ) (before desk : DeskState) → unfinished ≡ is_err result →
    OnOk result (FinishedBelow before worker (piece_count before.setting.torrent) desk) →
    OnErr result (GivesUp before worker desk) → Finishes worker (calls_in before.history worker) unfinished desk
checks_finish result unfinished worker before desk is done given_up =
    subst (λ (b : Bool). Finishes worker (calls_in before.history worker) b desk) (sym is) (by_result result worker before desk done given_up)

-- they leave the sessions alone
pub checks_leave : {E : Type 0} (result : Result Unit E) (worker : ℕ) (before desk : DeskState) →
    OnOk result (FinishedBelow before worker (piece_count before.setting.torrent) desk) →
    OnErr result (GivesUp before worker desk) → LeavesOthers worker before desk
checks_leave (Ok unit) worker before desk done given_up = finished_leaves before worker (piece_count before.setting.torrent) desk done
checks_leave (Err e) worker before desk done given_up = finished_leaves before worker given_up.piece desk given_up.below

-- after turns of others a worker finishes from the calls that it had made before
pub finishes_from : (count worker : ℕ) (first mid last : DeskState) (unfinished : Bool) → count ≤ worker → LeavesRest count first mid →
    Finishes worker (calls_in mid.history worker) unfinished last → Finishes worker (calls_in first.history worker) unfinished last
finishes_from count worker first mid last unfinished above rest finishes =
    subst (λ (calls : Calls). Finishes worker calls unfinished last) (rest.calls worker above) finishes

-- a desk where a worker called nothing, and no piece is had, is to its session what an empty one is
own_fresh : (desk : DeskState) (worker : ℕ) (told : List Bool) → calls_in desk.history worker ≡ [] →
    ((piece : ℕ) → had desk.history piece ≡ false) →
    own_record (record { setting = desk.setting; history = [] }) worker told false ≡ own_record desk worker told false
unfolding had
own_fresh desk worker told uncalled none_had =
    λ i. record {
      lent = [];
      worker = worker;
      setting = desk.setting;
      calls = sym uncalled i;
      others = λ other. [];
      had = λ piece. nat_lt piece (piece_count desk.setting.torrent) && sym (none_had piece) i;
      in_order = [];
      told = λ piece. slice_index_or told piece false;
      lacked = false;
    }

-- what a stream's session began in
begun_in : (terms : TermsState) (seed worker : ℕ) (setting : Setting) (desk : DeskState) (seat : Seat) (stream : StreamRecord) →
    setting.torrent ≡ terms.layout → desk.setting ≡ setting → calls_in desk.history worker ≡ [] →
    ((piece : ℕ) → had desk.history piece ≡ false) → IsNew terms seed worker seat →
    IsCourse terms worker (generator_of seed worker) (before_all setting worker stream) stream (course_of desk seat stream)
begun_in terms seed worker setting desk seat stream layout same_setting uncalled none_had new =
    let first : DeskState = record { setting = setting; history = [] } in
    let is_first : first ≡ record { setting = desk.setting; history = [] } =
    ap (λ (s : Setting). let d : DeskState = record { setting = s; history = [] } in d) (sym same_setting) in
    let untold : replicate (piece_count setting.torrent) false ≡ seat.told =
    ap (λ (t : Layout). replicate (piece_count t) false) layout ∙ sym new.told in
    let before : PlaceRecord = own_record first worker (replicate (piece_count setting.torrent) false) false in
    let same : before ≡ own_record desk worker seat.told false =
    ap (λ (d : DeskState). own_record d worker (replicate (piece_count setting.torrent) false) false) is_first
    ∙ own_fresh desk worker (replicate (piece_count setting.torrent) false) uncalled none_had
    ∙ ap (λ (told : List Bool). own_record desk worker told false) untold in
    let runs : seat.session.outcome ≡ None = ap (λ (session : SessionState). session.outcome) new.session in
    let unasked : seat.session.reads ≡ 0 = ap (λ (session : SessionState). session.reads) new.session in
    let source = source_of stream seat.session.reads in
    let conduct : Conducts true (generator_of seed worker) [] (calls_in desk.history worker) (answers_of seat.rng) =
    subst (Conducts true (generator_of seed worker) [] (calls_in desk.history worker)) (sym new.generator)
    (subst (λ (calls : Calls). Conducts true (generator_of seed worker) [] calls (generator_of seed worker)) (sym uncalled)
    (Conducts-none true (generator_of seed worker) [])) in
    let running : Running terms worker (before_all setting worker stream) seat.session (around desk worker seat.told false stream) =
    inl (record { state = new.session; left = refl; gains = subst (Gains before []) same (Gains-none before); written = refl }) in
    record {
      session = subst (λ (o : Option (Result End SessionFault)). SessionBy o terms worker (before_all setting worker stream) seat.session source
          (around desk worker seat.told false stream) (around desk worker seat.told seat.lacked stream)) (sym runs) running;
      conduct = subst (λ (o : Option (Result End SessionFault)). ConductBy o (generator_of seed worker) [] (calls_in desk.history worker)
          (answers_of seat.rng)) (sym runs) conduct;
      devices = subst (λ (o : Option (Result End SessionFault)). DevicesBy o stream stream) (sym runs) (refl, refl);
      counted = λ none. none ∙ sym unasked;
      most = subst (λ (n : ℕ). n ≤ most_reads) (sym unasked) (lit≤ tt);
    }

-- how a stream's session ended, by its course
numbers_after : (outcome : Result End SessionFault) (generator left : Numbers) (calls : Calls) → ConductBy (Some outcome) generator [] calls left →
    DrawsNumbers generator [] calls
numbers_after (Ok end) generator left calls conduct = Conducts-draws conduct
numbers_after (Err fault) generator left calls numbers = numbers

checks_after : (outcome : Result End SessionFault) (generator left : Numbers) (calls : Calls) → ConductBy (Some outcome) generator [] calls left →
    ChecksAfter outcome calls
checks_after (Ok end) generator left calls conduct = ap all_checked conduct.calls ∙ conduct.checked refl
checks_after (Err fault) generator left calls numbers = tt

ended_so : (terms : TermsState) (seed worker : ℕ) (stream : StreamRecord) (now : Course) (outcome : Result End SessionFault) →
    now.session.outcome ≡ Some outcome →
    IsCourse terms worker (generator_of seed worker) (before_all now.desk.setting worker stream) stream now →
    Ended outcome now.lacked terms seed worker stream now.desk now.stream
ended_so terms seed worker stream now outcome is course =
    let source = source_of now.stream now.session.reads in
    let unlacking = around now.desk worker now.told false now.stream in
    let here = around now.desk worker now.told now.lacked now.stream in
    let ends : SessionBy (Some outcome) terms worker (before_all now.desk.setting worker stream) now.session source unlacking here =
    subst (λ (o : Option (Result End SessionFault)). SessionBy o terms worker (before_all now.desk.setting worker stream) now.session source
    unlacking here) is course.session in
    let conduct : ConductBy (Some outcome) (generator_of seed worker) [] (calls_in now.desk.history worker) now.generator =
    subst (λ (o : Option (Result End SessionFault)). ConductBy o (generator_of seed worker) [] (calls_in now.desk.history worker) now.generator)
    is course.conduct in
    record {
      told = now.told;
      reads = now.session.reads;
      ends = ends;
      numbers = numbers_after outcome (generator_of seed worker) now.generator (calls_in now.desk.history worker) conduct;
      checks = checks_after outcome (generator_of seed worker) now.generator (calls_in now.desk.history worker) conduct;
      devices = subst (λ (o : Option (Result End SessionFault)). DevicesBy o stream now.stream) is course.devices;
      counted = course.counted;
      most = course.most;
    }

pub first_of : {X : Type 0} (xs : List X) (i : ℕ) → i < length xs → X
first_of [] i within = absurd (omega arith)
first_of (x ∷ xs) i within = x

-- the end at a place is the one that the seat there keeps
end_at : (ends : List (Result End SessionFault)) (seats : List Seat) (i : ℕ) (end : Result End SessionFault) (any : Seat) →
    map Some ends ≡ map (λ seat. seat.session.outcome) seats → i < length seats → (get_or seats i any).session.outcome ≡ Some (get_or ends i end)
end_at ends seats i end any told within =
    let outcome : Seat → Option (Result End SessionFault) = λ seat. seat.session.outcome in
    let within' : i < length ends = omega (arith, ends_count ends seats told) in
    sym (get_or-map outcome seats i any (Some end) within)
    ∙ ap (λ (os : List (Option (Result End SessionFault))). get_or os i (Some end)) (sym told)
    ∙ get_or-map Some ends i end (Some end) within'

-- each stream's session ended so, once the last checks were made
pub each_ended : {X : Type 0} (record_of : X → StreamRecord) (terms : TermsState) (seed : ℕ) (first mid last : DeskState) (seats seats' : List Seat)
    (streams streams' : List X) (ends : List (Result End SessionFault)) →
    first.setting.torrent ≡ terms.layout → IsFresh (length streams) first → AreNew terms seed seats → MayTakeTurns first seats streams →
    TookTurns record_of first seats streams mid seats' streams' → (worker : ℕ) → length streams ≤ worker → LeavesOthers worker mid last →
    map Some ends ≡ map (λ seat. seat.session.outcome) seats' → EachEnded record_of terms seed streams last streams' ends
    (map (λ seat. seat.lacked) seats')
each_ended record_of terms seed first mid last seats seats' streams streams' ends layout fresh new may took worker above left told =
    λ i. λ stream. λ end. λ lack. λ within.
    let within_seats : i < length seats = omega (arith, may.seated) in
    let within_seats' : i < length seats' = omega (arith, took.may.seated, took.count) in
    let any = first_of seats i within_seats in
    let apart : i ≢ worker = omega arith in
    let seat = get_or seats' i any in
    let old = record_of (get_or streams i stream) in
    let now = record_of (get_or streams' i stream) in
    let kept = Keeps-join i (course_of first (get_or seats i any) old) (course_of mid seat now) (course_of last seat now)
    (took.keeps i any stream within) (others_keep worker i mid last seat.session seat.told now seat.lacked (answers_of seat.rng) left apart) in
    let setting : first.setting ≡ last.setting = sym (left.setting ∙ took.rest.setting) in
    let layout' : last.setting.torrent ≡ terms.layout = sym (ap (λ (s : Setting). s.torrent) setting) ∙ layout in
    let start = begun_in terms seed i last.setting first (get_or seats i any) old layout' setting (fresh.uncalled i (λ same. omega (arith, within, same)))
    fresh.none_had (new i any within_seats) in
    let lacked : Seat → Bool = λ s. s.lacked in
    subst (λ (lacked : Bool). Ended (get_or ends i end) lacked terms seed i old last now) (sym (get_or-map lacked seats' i any lack within_seats'))
    (ended_so terms seed i old (course_of last seat now) (get_or ends i end) (end_at ends seats' i end any told within_seats')
    (kept.still terms (generator_of seed i) (before_all last.setting i old) old start))
