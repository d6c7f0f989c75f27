-- Interest by the groups: a wanted piece that isn't had is begun, with all its lacking blocks asked or not, or may begin.
use Rattle.std.proofs.Common.{◌≡◌, ℕ, ◌-◌, ◌≤◌, ◌<◌, ◌==◌, Bool, true, false, not, ◌&&◌, ◌||◌, Option, None, Some, List, length, refl, ap, sym, ◌∙◌}
use Rattle.std.proofs.Common.{subst, arith, ⊎_elim}
use Rattle.std.specs.Prelude.{IfSome, is_some}
use Rattle.std.proofs.lemmas.Bool.{and_from, and_left, and_parts, and_right, cases_eq, cases_lt, eq-eqb, false≢true, le-ltb, ne_eqb, not-true}
use Rattle.std.proofs.lemmas.Bool.{or_left}
use Rattle.bt_meta.specs.declared.block.Block.{Block}
use Rattle.bt_meta.specs.Layout.{piece_count}
use Rattle.bt_history.specs.Setting.{Setting, each_block_of, some_block_of}
use Rattle.bt_history.specs.History.{History}
use Rattle.bt_history.specs.Peers.{flag, overdue, shows}
use Rattle.bt_history.specs.Pieces.{had, held_or_asked, interesting, lacks, level, offers, wanted}
use Rattle.bt_history.specs.declared.event.Action.TheVariants.{Have, Haves}
use Rattle.bt_history.specs.Legal.{IsLegal, interesting_after}
use Rattle.bt_history.proofs.Below.{any_fails, any_found, any_same, any_witness}
use Rattle.bt_tables.specs.Orders.{ListsGroup}
use Rattle.bt_picker.specs.Search.{FindsLeast, FindsListed, IsLevel, LacksNone, is_candidate_at, rank_of}
use Rattle.bt_tables.specs.declared.piece.Stage.{Stage}
use Rattle.bt_tables.specs.declared.piece.Stage.TheVariants.{AskedOut, Open}
use Rattle.bt_tables.specs.Standings.{group_number, place_of, stage_of_row}
use Rattle.bt_picker.specs.Tables.{groups_of, piece_of}
use Rattle.bt_picker.proofs.Levelled.{Covers}
use Rattle.bt_picker.proofs.Overdue.{spent_with_nothing}
use Rattle.bt_picker.proofs.Rarest.{at_level}
use Rattle.bt_picker.proofs.Stages.{begun_stage, candidate_at, candidate_parts, listed_place, place_listed, stage_left}
use Rattle.bt_picker.proofs.Telling.{wanted_chosen}
use Rattle.bt_picker.proofs.Scans.{lacks_found, lacks_none}

-- a shown piece of a stage behind the resting ones interests
pub listed_interests : (s : Setting) (h : History) (q n : ℕ) (stage : Stage) (p : ℕ) (pieces : List ℕ) → IsLegal s h → IsLevel n
    → 0 < place_of stage → ListsGroup (groups_of s h) (group_number n stage) pieces → FindsListed (shows h q) pieces (length pieces) (Some p)
    → interesting s h q ≡ true
listed_interests s h q n stage p pieces legal is some lists found =
    let i = found.1.0 in
    let place = listed_place s h n stage pieces legal is some lists i found.1.1 in
    let lp = subst (λ (m : ℕ). m < piece_count s.torrent) found.1.2 place.0 in
    let stands = subst (λ (m : ℕ). place_of (stage_of_row (piece_of s h m)) ≡ place_of stage) found.1.2 place.2 in
    let known = stage_left s h p (omega (arith, stands, some)) in
    lacks_found s h (shows h q) p (wanted_chosen s h p lp ∙ known.1) found.0 known.0 lp

-- so does a candidate
pub candidate_interests : (s : Setting) (h : History) (q n p : ℕ) → p < piece_count s.torrent → is_candidate_at s h q n p ≡ true →
    interesting s h q ≡ true
candidate_interests s h q n p lp is =
    let parts = candidate_parts s h q p (at_level s h q n p is).0 in
    lacks_found s h (shows h q) p parts.0 parts.1 parts.2 lp

-- and no other piece of the level does, where the peer is late with nothing
pub nothing_interests : (s : Setting) (h : History) (q n : ℕ) (asked_out begun : List ℕ) → ((b : Block) → overdue h q b ≡ false)
    → ListsGroup (groups_of s h) (group_number n AskedOut) asked_out → ListsGroup (groups_of s h) (group_number n Open) begun
    → FindsListed (shows h q) asked_out (length asked_out) None → FindsListed (shows h q) begun (length begun) None
    → FindsLeast (is_candidate_at s h q n) (rank_of s h true) 0 (piece_count s.torrent) None → LacksNone s h q n
nothing_interests s h q n asked_out begun prompt lists_out lists_open none_out none_open no_candidate p lp same =
    by_cases (wanted s h p) (shows h q p) (had h p) refl refl refl
  where
    unlisted : (stage : Stage) (pieces : List ℕ) → ListsGroup (groups_of s h) (group_number n stage) pieces
        → FindsListed (shows h q) pieces (length pieces) None → shows h q p ≡ true → stage_of_row (piece_of s h p) ≡ stage → ⊥
    unlisted stage pieces lists none shown is =
        let listed = place_listed s h n stage p pieces lists lp same (ap place_of is) in
        false≢true (sym (none listed.0 listed.1) ∙ (ap (shows h q) listed.2 ∙ shown))

    by_stage : wanted s h p ≡ true → shows h q p ≡ true → had h p ≡ false
        → (t u : Bool) → some_block_of s.torrent p (held_or_asked s h) ≡ t → each_block_of s.torrent p (held_or_asked s h) ≡ u → ⊥
    by_stage wants shown lacks false u touched_is all_is =
        false≢true (sym (no_candidate p (omega arith) lp) ∙ candidate_at s h q n p (and_from (wanted s h p) _ wants
        (and_from (offers s h q p) _ (and_from (shows h q p) _ shown (ap not (spent_with_nothing s h q p prompt)))
        (and_from (not (had h p)) _ (ap not lacks) (ap not touched_is)))) same)
    by_stage wants shown lacks true true touched_is all_is =
        unlisted AskedOut asked_out lists_out none_out shown (begun_stage s h p true lacks (sym (wanted_chosen s h p lp) ∙ wants) touched_is all_is)
    by_stage wants shown lacks true false touched_is all_is =
        unlisted Open begun lists_open none_open shown (begun_stage s h p false lacks (sym (wanted_chosen s h p lp) ∙ wants) touched_is all_is)

    by_cases : (w v d : Bool) → wanted s h p ≡ w → shows h q p ≡ v → had h p ≡ d → (w && (v && not d)) ≡ false
    by_cases false v d w_is v_is d_is = refl
    by_cases true false d w_is v_is d_is = refl
    by_cases true true true w_is v_is d_is = refl
    by_cases true true false w_is v_is d_is =
        absurd (by_stage w_is v_is d_is (some_block_of s.torrent p (held_or_asked s h)) (each_block_of s.torrent p (held_or_asked s h)) refl refl)

-- a candidate is found, or none is
pub found_interests : (s : Setting) (h : History) (q n : ℕ) (found : Option ℕ)
    → FindsLeast (is_candidate_at s h q n) (rank_of s h true) 0 (piece_count s.torrent) found → IfSome found (λ p. p < piece_count s.torrent)
    → is_some found ≡ true → interesting s h q ≡ true
found_interests s h q n None least within some = absurd (false≢true some)
found_interests s h q n (Some p) least within some = candidate_interests s h q n p within least.0

pub missing_interests : (s : Setting) (h : History) (q n : ℕ) (asked_out begun : List ℕ) (found : Option ℕ) → ((b : Block) → overdue h q b ≡ false)
    → ListsGroup (groups_of s h) (group_number n AskedOut) asked_out → ListsGroup (groups_of s h) (group_number n Open) begun
    → FindsListed (shows h q) asked_out (length asked_out) None → FindsListed (shows h q) begun (length begun) None
    → FindsLeast (is_candidate_at s h q n) (rank_of s h true) 0 (piece_count s.torrent) found → is_some found ≡ false → LacksNone s h q n
missing_interests s h q n asked_out begun (Some p) prompt lists_out lists_open none_out none_open least none = absurd (false≢true (sym none))
missing_interests s h q n asked_out begun None prompt lists_out lists_open none_out none_open least none =
    nothing_interests s h q n asked_out begun prompt lists_out lists_open none_out none_open least

-- where no level interests nothing does
pub no_level_interests : (s : Setting) (h : History) (q slot : ℕ) → Covers s h slot
    → ((p : ℕ) → p < piece_count s.torrent → 7 - slot < level h p → (wanted s h p && (shows h q p && not (had h p))) ≡ false)
    → interesting s h q ≡ false
no_level_interests s h q slot covers above = lacks_none s h (shows h q) (λ p lp. ⊎_elim
    (λ (some : 0 < level h p). above p lp (covers p lp some))
    (λ (none : level h p ≤ 0). and_left (wanted s h p) _ (wanted_chosen s h p lp ∙ le-ltb 0 (level h p) none))
    (cases_lt 0 (level h p)))

-- ---- interest with one more piece

none_lacks : (w v d : Bool) → (w && not d) ≡ false → (w && (v && not d)) ≡ false
none_lacks false v d is = refl
none_lacks true v true is = and_right v false refl
none_lacks true v false is = absurd (cc is)

pub have_interests : (s : Setting) (h : History) (q p : ℕ) → p < piece_count s.torrent → (wanted s h p && not (had h p)) ≡ true →
    interesting_after s h q (Have p) ≡ true
have_interests s h q p lp is =
    let parts = and_parts (wanted s h p) (not (had h p)) is in
    lacks_found s h (λ r. (p == r) || shows h q r) p parts.0 (or_left (p == p) (shows h q p) (eq-eqb p p refl)) (not-true (had h p) parts.1) lp

pub haves_interest : (s : Setting) (h : History) (q : ℕ) (flags : List Bool) → lacks s h (flag flags) ≡ true →
    interesting_after s h q (Haves flags) ≡ true
haves_interest s h q flags is =
    let found = any_witness (piece_count s.torrent) (λ r. wanted s h r && (flag flags r && not (had h r))) is in
    let p = found.0 in
    any_found (piece_count s.torrent) (λ r. wanted s h r && ((flag flags r || shows h q r) && not (had h r))) p found.1
    (by_flag (wanted s h p) (flag flags p) (shows h q p) (not (had h p)) found.2)
  where
    by_flag : (w f v x : Bool) → (w && (f && x)) ≡ true → (w && ((f || v) && x)) ≡ true
    by_flag true true v x is = is
    by_flag true false v x is = absurd (false≢true is)
    by_flag false f v x is = absurd (false≢true is)

pub haves_change_nothing : (s : Setting) (h : History) (q : ℕ) (flags : List Bool) → lacks s h (flag flags) ≡ false →
    interesting s h q ≡ interesting_after s h q (Haves flags)
haves_change_nothing s h q flags none =
    any_same (piece_count s.torrent) (λ r. wanted s h r && (shows h q r && not (had h r)))
    (λ r. wanted s h r && ((flag flags r || shows h q r) && not (had h r)))
    (λ r lr. by_flag (wanted s h r) (flag flags r) (shows h q r) (not (had h r))
    (any_fails (piece_count s.torrent) (λ p. wanted s h p && (flag flags p && not (had h p))) r none lr))
  where
    by_flag : (w f v x : Bool) → (w && (f && x)) ≡ false → (w && (v && x)) ≡ (w && ((f || v) && x))
    by_flag true true true x fails = refl
    by_flag true true false x fails = sym fails
    by_flag true false v x fails = refl
    by_flag false f v x fails = refl

pub have_changes_nothing : (s : Setting) (h : History) (q p : ℕ) → (wanted s h p && not (had h p)) ≡ false →
    interesting s h q ≡ interesting_after s h q (Have p)
have_changes_nothing s h q p is =
    any_same (piece_count s.torrent) (λ r. wanted s h r && (shows h q r && not (had h r)))
    (λ r. wanted s h r && (((p == r) || shows h q r) && not (had h r)))
    (λ r lr. ⊎_elim
    (λ (same : p ≡ r).
    let none : (wanted s h r && not (had h r)) ≡ false = subst (λ (m : ℕ). (wanted s h m && not (had h m)) ≡ false) same is in
    none_lacks (wanted s h r) (shows h q r) (had h r) none ∙ sym (none_lacks (wanted s h r) ((p == r) || shows h q r) (had h r) none))
    (λ (apart : p ≡ r → ⊥). ap (λ (x : Bool). wanted s h r && ((x || shows h q r) && not (had h r))) (sym (ne_eqb p r apart)))
    (cases_eq p r))
