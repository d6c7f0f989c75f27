-- News: the finished pieces that weren't told, and that those told stay so.
use Rattle.std.proofs.Common.{◌≡◌, ◌<◌, ◌+◌, ℕ, Bool, true, false, List, length, Option, Some, None, refl, sym, ap, subst, ◌∙◌, inl, inr, arith}
use Rattle.std.proofs.Common.{below_more, length-append, length-set}
use Rattle.std.specs.Prelude.{◌==◌, ◌∷◌, if◌then◌else◌, nat_lt, slice_index_or, slice_set}
use Rattle.std.proofs.lemmas.Bool.{and_from, and_parts}
use Rattle.std.proofs.lemmas.Bool.Decides.{nat_tests}
use Rattle.std.proofs.Math.ListN.{get_or-append}
use Rattle.bt_history.proofs.Finished.{finished_had, finished_place}
use Rattle.bt_history.specs.Finished.{finished}
use Rattle.bt_history.specs.declared.call.Reply.{Reply}
use Rattle.bt_history.specs.declared.event.Event.{Event as Entry}
use Rattle.bt_history.specs.History.{History}
use Rattle.bt_history.specs.Pieces.{had}
use Rattle.bt_meta.specs.Layout.{piece_count}
use Rattle.bt_picker.specs.Checks.{SettlesIf, settling}
use Rattle.bt_picker.specs.Positions.{DeskState, Gains as Enters}
use Rattle.bt_peer.specs.News.{AreTold, FindsUntold, IsLesser, has_told}
use Rattle.bt_peer.specs.Places.{Extends}
use Rattle.bt_peer.specs.Serial.{had_at}
use Rattle.bt_history.specs.Before.{never_loses}
use Rattle.bt_peer.proofs.Desks.{finished_on, told_by}

-- before any was told
pub told_none_yet : (told : List Bool) (pieces : List ℕ) → AreTold told 0 pieces
told_none_yet told pieces = record { within = omega arith; each = λ k lt. absurd (omega (arith, lt)) }

-- what was told stays so while more comes to be finished
pub told_later : (told : List Bool) (count : ℕ) (old new : List ℕ) → Extends old new → AreTold told count old → AreTold told count new
told_later told count old new more are =
    let longer : length new ≡ length old + length more.0 = ap length more.1 ∙ length-append old more.0 in
    record {
      within = omega (arith, are.within, longer);
      each = λ k lt within.
          let same : slice_index_or new k 0 ≡ slice_index_or old k 0 =
          ap (λ (ps : List ℕ). slice_index_or ps k 0) more.1 ∙ get_or-append old more.0 0 k (omega (arith, lt, are.within)) in
          subst (λ (p : ℕ). has_told told p ≡ true) (sym same) (are.each k lt (subst (λ (p : ℕ). p < length told) same within));
    }

-- a piece that was found is finished
pub untold_had : (told : List Bool) (h : History) (piece : ℕ) → never_loses h ≡ true → FindsUntold told (finished h) (length (finished h)) (Some piece) →
    had h piece ≡ true
untold_had told h piece keeps finds =
    subst (λ (p : ℕ). had h p ≡ true) finds.2.2 (finished_had h finds.2.0 keeps finds.2.1)

-- where none was found each finished piece was told
pub none_untold : (told : List Bool) (h : History) → FindsUntold told (finished h) (length (finished h)) None → (piece : ℕ) →
    piece < length told → had h piece ≡ true → has_told told piece ≡ true
none_untold told h finds piece within is =
    let place = finished_place h piece is in
    subst (λ (p : ℕ). has_told told p ≡ true) place.2 (finds place.0 place.1 (subst (λ (p : ℕ). p < length told) (sym place.2) within))

-- each finished piece below the one that was found was told
pub lesser_told : (told : List Bool) (h : History) (least : ℕ) → FindsUntold told (finished h) (length (finished h)) (Some least) →
    (piece : ℕ) → piece < least → had h piece ≡ true → has_told told piece ≡ true
lesser_told told h least finds piece lower is =
    let place = finished_place h piece is in
    subst (λ (p : ℕ). has_told told p ≡ true) place.2 (finds.3 place.0 place.1 (subst (λ (p : ℕ). p < least) (sym place.2) lower))

-- a call at the desk leaves those told as they are
pub told_entered : (told : List Bool) (count : ℕ) (old new : DeskState) (e : Entry) → Enters old new e → AreTold told count (finished old.history) →
    AreTold told count (finished new.history)
told_entered told count old new e enters are =
    subst (λ (h : History). AreTold told count (finished h)) (sym enters.entered)
    (told_later told count (finished old.history) (finished (e ∷ old.history)) (finished_on old.history e) are)

-- and so does a check, where one is due
pub told_settled : (waits : Bool) (told : List Bool) (count : ℕ) (old new : DeskState) (worker piece : ℕ) (reply : Reply) →
    SettlesIf waits old new worker piece reply → AreTold told count (finished old.history) → AreTold told count (finished new.history)
told_settled true told count old new worker piece reply enters are =
    told_entered told count old new (settling old.setting old.history worker piece reply) enters are
told_settled false told count old new worker piece reply same are =
    subst (λ (desk : DeskState). AreTold told count (finished desk.history)) (sym same.0) are

-- the desk has the piece that was found
pub found_had : (desk : DeskState) (told : List Bool) (piece : ℕ) → never_loses desk.history ≡ true → length told ≡ piece_count desk.setting.torrent →
    FindsUntold told (finished desk.history) (length (finished desk.history)) (Some piece) → had_at desk piece ≡ true
found_had desk told piece keeps count finds =
    let within : nat_lt piece (piece_count desk.setting.torrent) ≡ true = grind (arith, nat_tests, finds.0, count) in
    and_from (nat_lt piece (piece_count desk.setting.torrent)) (had desk.history piece) within (untold_had told desk.history piece keeps finds)

-- where none was found each piece that the desk has was told
pub all_told : (desk : DeskState) (told : List Bool) → length told ≡ piece_count desk.setting.torrent →
    FindsUntold told (finished desk.history) (length (finished desk.history)) None → (piece : ℕ) → had_at desk piece ≡ true →
    has_told told piece ≡ true
all_told desk told count finds piece is =
    let parts = and_parts (nat_lt piece (piece_count desk.setting.torrent)) (had desk.history piece) is in
    let within : piece < length told = grind (arith, nat_tests, parts.0, count) in
    none_untold told desk.history finds piece within parts.1
