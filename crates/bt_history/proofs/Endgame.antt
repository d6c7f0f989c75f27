-- What endgame waits for, and of whom it asks.
use Rattle.std.proofs.Common.{◌≡◌, ℕ, ◌==◌, ◌<◌, ◌≤◌, Bool, true, false, not, ◌&&◌, ◌||◌, [], ◌∷◌, Option, None, Some, refl, ap, sym, ◌∙◌}
use Rattle.std.proofs.Common.{arith, ⊎_elim}
use Rattle.std.specs.Prelude.{if◌then◌else◌, nat_le, nat_lt}
use Rattle.std.proofs.lemmas.Bool.{and_parts, and_from, eqb-true, false≢true, leb-false, lt-ltb, ltb-true, not-false, or_left, or_right, true≢false}
use Rattle.bt_meta.specs.declared.block.Block.{Block}
use Rattle.bt_meta.specs.Layout.{piece_count, block_count, block}
use Rattle.bt_history.specs.declared.call.Reply.TheVariants.{Request}
use Rattle.bt_history.specs.declared.event.Action.{Action}
use Rattle.bt_history.specs.declared.event.Action.TheVariants.{Join, Bits, Have, Choke, Unchoke, Arrived, Leave, Haves, Lack}
use Rattle.bt_history.specs.declared.event.Event.{Event}
use Rattle.bt_history.specs.Setting.{Setting, deepest_line, some_block}
use Rattle.bt_history.specs.History.{History, counts, own_call, requested_by}
use Rattle.bt_history.specs.Peers.{asked, asked_count, depth_of, due, expected, flag, is_open, joined, joined_after, late, late_after, overdue, releases}
use Rattle.bt_history.specs.Peers.{resets, shows, shows_after}
use Rattle.bt_history.specs.Pieces.{asked_of_some, availability, awaited, endgame, had, held, held_or_asked, interesting, wanted}
use Rattle.bt_history.specs.Next.{continues, doubles, next_answer, rises, rushes, tops_in_order, starts, usable}
use Rattle.bt_history.specs.Before.{endgame_of_all, next_unrushed}
use Rattle.bt_history.specs.Legal.{IsLegal, IsAllowed, causes, place_at}
use Rattle.bt_history.proofs.Below.{all_same, any_fails, count_found}
use Rattle.bt_history.proofs.Allowed.{none_holds, request_facts}
use Rattle.bt_history.proofs.Askers.{count_less}
use Rattle.bt_history.proofs.Depths.{counting, depth_bounded}
use Rattle.bt_history.proofs.HeldLaws.{asked_below, had_full}
use Rattle.bt_history.proofs.NextCases.{next_cases, next_is, without_test}

-- ---- of whom endgame asks

-- a depth that no line reaches is no bound
pub unrushed_answer : (s : Setting) (h : History) (q : ℕ) → IsLegal s h → deepest_line s ≤ s.rush → next_answer s h q ≡ next_unrushed s h q
unfolding next_cases next_unrushed
unrushed_answer s h q legal none =
    next_is s h q
    ∙ without_test (rushes s h q) (some_block s.torrent (due h q)) (is_open h q) (nat_le (depth_of s h q) (asked_count s h q))
    (some_block s.torrent (tops_in_order s h q)) (some_block s.torrent (continues s h q)) (some_block s.torrent (usable s h q))
    (endgame s h && some_block s.torrent (doubles s h q)) (interesting s h q)
    (due h q) (rises s h q) (continues s h q) (starts s h q) (doubles s h q) (λ room.
    let less = leb-false (depth_of s h q) (asked_count s h q) room in
    let most = depth_bounded s h q legal in
    lt-ltb (asked_count s h q) s.rush (omega (arith, less, most, none)))

-- a block that a peer is expected to bring is asked only of one that is asked for few
pub second_has_few : (s : Setting) (h : History) (e : Event) (other : ℕ) (b : Block) → IsLegal s h → IsAllowed s h e → e.reply ≡ Request b
    → expected h other b ≡ true → asked_count s h e.worker < s.rush
second_has_few s h e other b legal allowed is two = ⊎_elim
    (λ (alone : asked_of_some s h b ≡ false).
    absurd (true≢false (sym two ∙ any_fails s.workers (λ w. expected h w b) other alone
    (asked_below s h other b legal (and_parts (asked h other b) (not (overdue h other b)) two).0))))
    (λ (few : rushes s h e.worker ≡ true). ltb-true (asked_count s h e.worker) s.rush few)
    (request_facts s h e b allowed (ap requested_by is)).rushing

-- ---- what joined peers show stays

-- while a bitfield wouldn't come too late a peer shows nothing
late_shows : (h : History) (q p : ℕ) → late h q ≡ false → shows h q p ≡ false
unfolding late shows
late_shows [] q p early = refl
late_shows (e ∷ h) q p early = by_call (own_call q e) early (late_shows h q p) where
  by_call : (call : Option Action) → late_after call (late h q) ≡ false → (late h q ≡ false → shows h q p ≡ false)
      → shows_after call p (shows h q p) ≡ false
  by_call None early before = before early
  by_call (Some Join) early before = refl
  by_call (Some Leave) early before = refl
  by_call (Some (Bits flags)) early before = absurd (cc early)
  by_call (Some (Have piece)) early before = absurd (cc early)
  by_call (Some (Haves flags)) early before = absurd (cc early)
  by_call (Some (Lack piece)) early before = absurd (cc early)
  by_call (Some Choke) early before = absurd (cc early)
  by_call (Some Unchoke) early before = absurd (cc early)
  by_call (Some (Arrived piece begin bytes)) early before = absurd (cc early)
  by_call (Some call) early before = before early

joined_on : (call : Option Action) (before : Bool) → resets call ≡ false → before ≡ true → joined_after call before ≡ true
joined_on None before none is = is
joined_on (Some Join) before none is = refl
joined_on (Some Leave) before none is = absurd (cc none)
joined_on (Some call) before none is = is

own_worker : (q : ℕ) (e : Event) (a : Action) → own_call q e ≡ Some a → e.worker ≡ q
own_worker q e a is = by_test (counts e.reply && (e.worker == q)) refl is where
  by_test : (x : Bool) → (counts e.reply && (e.worker == q)) ≡ x → (if x then Some e.action else None) ≡ Some a → e.worker ≡ q
  by_test true both same = eqb-true e.worker q (and_parts (counts e.reply) (e.worker == q) both).1
  by_test false neither same = absurd (cc same)

-- a peer that isn't reset shows what it showed: its bitfield comes before all that adds to it
shows_on : (s : Setting) (h : History) (e : Event) (q p : ℕ) → IsAllowed s h e → resets (own_call q e) ≡ false
    → releases (own_call q e) (place_at p 0) ≡ false → shows h q p ≡ true → shows (e ∷ h) q p ≡ true
unfolding shows
shows_on s h e q p allowed none kept is = by_call (own_call q e) refl none kept where
  by_call : (call : Option Action) → own_call q e ≡ call → resets call ≡ false → releases call (place_at p 0) ≡ false
      → shows_after call p (shows h q p) ≡ true
  by_call None own none kept = is
  by_call (Some Join) own none kept = absurd (cc none)
  by_call (Some Leave) own none kept = absurd (cc none)
  by_call (Some (Bits flags)) own none kept =
      let early = (none_holds (causes s h e.worker (Bits flags)) (counting s h q e (Bits flags) allowed own)).1.0 in
      absurd (false≢true (sym (late_shows h q p (ap (late h) (sym (own_worker q e (Bits flags) own)) ∙ early)) ∙ is))
  by_call (Some (Have piece)) own none kept = or_right (piece == p) (shows h q p) is
  by_call (Some (Haves flags)) own none kept = or_right (flag flags p) (shows h q p) is
  by_call (Some (Lack piece)) own none kept = and_from (not (piece == p)) (shows h q p) (ap not kept) is
  by_call (Some call) own none kept = is

-- only a joined peer shows a piece
pub shower_joined : (s : Setting) (h : History) (q p : ℕ) → IsLegal s h → shows h q p ≡ true → joined h q ≡ true
unfolding joined shows
shower_joined s [] q p legal is = absurd (cc is)
shower_joined s (e ∷ h) q p legal is = by_call (own_call q e) refl is (shower_joined s h q p legal.0) where
  -- a peer whose call counted was in
  was_in : (call : Action) → own_call q e ≡ Some call → not (joined h e.worker) ≡ false → joined h q ≡ true
  was_in call own none = ap (joined h) (sym (own_worker q e call own)) ∙ not-false (joined h e.worker) none

  by_call : (call : Option Action) → own_call q e ≡ call → shows_after call p (shows h q p) ≡ true → (shows h q p ≡ true → joined h q ≡ true)
      → joined_after call (joined h q) ≡ true
  by_call None own showing before = before showing
  by_call (Some Join) own showing before = refl
  by_call (Some Leave) own showing before = absurd (cc showing)
  by_call (Some (Bits flags)) own showing before = was_in (Bits flags) own (none_holds (causes s h e.worker (Bits flags)) (counting s h q e (Bits flags) legal.1 own)).0
  by_call (Some (Have piece)) own showing before = was_in (Have piece) own (none_holds (causes s h e.worker (Have piece)) (counting s h q e (Have piece) legal.1 own)).0
  by_call (Some (Lack piece)) own showing before = was_in (Lack piece) own (none_holds (causes s h e.worker (Lack piece)) (counting s h q e (Lack piece) legal.1 own)).0
  by_call (Some (Haves flags)) own showing before = was_in (Haves flags) own (none_holds (causes s h e.worker (Haves flags)) (counting s h q e (Haves flags) legal.1 own)).0
  by_call (Some call) own showing before = before showing

module _ (s : Setting) (h : History) (e : Event) (allowed : IsAllowed s h e) (still : (q : ℕ) → resets (own_call q e) ≡ false)
    (kept : (q : ℕ) (b : Block) → releases (own_call q e) b ≡ false) where
  -- so a piece is shown by no fewer
  availability_on : (p : ℕ) → availability s h p ≤ availability s (e ∷ h) p
  unfolding joined
  availability_on p = count_less s.workers (λ q. joined h q && shows h q p) (λ q. joined (e ∷ h) q && shows (e ∷ h) q p) (λ q lq both.
      let parts = and_parts (joined h q) (shows h q p) both in
      and_from (joined (e ∷ h) q) (shows (e ∷ h) q p) (joined_on (own_call q e) (joined h q) (still q) parts.0)
      (shows_on s h e q p allowed (still q) (kept q (place_at p 0)) parts.1))

  -- and endgame waits for it as before
  pub awaited_on : (p : ℕ) → wanted s (e ∷ h) p ≡ wanted s h p → awaited s h p ≡ true → awaited s (e ∷ h) p ≡ true
  awaited_on p same is =
      let parts = and_parts (wanted s h p) (not s.shown || nat_lt 0 (availability s h p)) is in
      and_from (wanted s (e ∷ h) p) (not s.shown || nat_lt 0 (availability s (e ∷ h) p)) (same ∙ parts.0) (by_rule (not s.shown) parts.1)
    where
      by_rule : (x : Bool) → (x || nat_lt 0 (availability s h p)) ≡ true → (x || nat_lt 0 (availability s (e ∷ h) p)) ≡ true
      by_rule true some = refl
      by_rule false some =
          let more = availability_on p in
          lt-ltb 0 (availability s (e ∷ h) p) (omega (arith, ltb-true 0 (availability s h p) some, more))

-- a peer that shows a piece is one of those that do
pub shown_available : (s : Setting) (h : History) (q p : ℕ) → IsLegal s h → q < s.workers → shows h q p ≡ true → 0 < availability s h p
shown_available s h q p legal lq is =
    count_found s.workers (λ w. joined h w && shows h w p) q lq (and_from (joined h q) (shows h q p) (shower_joined s h q p legal is) is)

-- endgame waits for each wanted piece that a peer shows
pub shown_awaited : (s : Setting) (h : History) (q p : ℕ) → IsLegal s h → q < s.workers → shows h q p ≡ true → wanted s h p ≡ true
    → awaited s h p ≡ true
shown_awaited s h q p legal lq is wants =
    and_from (wanted s h p) (not s.shown || nat_lt 0 (availability s h p)) wants
    (or_right (not s.shown) (nat_lt 0 (availability s h p)) (lt-ltb 0 (availability s h p) (shown_available s h q p legal lq is)))

-- ---- where all is shown

-- where a joined peer shows each wanted piece that isn't had, endgame waits for all that is wanted
pub endgame_all : (s : Setting) (h : History) → IsLegal s h
    → (s.shown ≡ true → (p : ℕ) → wanted s h p ≡ true → had h p ≡ false → 0 < availability s h p) → endgame s h ≡ endgame_of_all s h
endgame_all s h legal shown = λ i. all_same (piece_count s.torrent) _ _ (λ p lp. all_same (block_count s.torrent p) _ _ (same_test p)) i
    && some_block s.torrent (λ b. wanted s h b.piece && not (held h b))
  where
    same_test : (p k : ℕ) → k < block_count s.torrent p
        → (not (awaited s h p) || held_or_asked s h (block s.torrent p k)) ≡ (not (wanted s h p) || held_or_asked s h (block s.torrent p k))
    same_test p k lk = by_wanted (wanted s h p) refl where
      by_had : (x : Bool) → had h p ≡ x → wanted s h p ≡ true
          → (not (not s.shown || nat_lt 0 (availability s h p)) || held_or_asked s h (block s.torrent p k)) ≡ held_or_asked s h (block s.torrent p k)
      by_had true has wants =
          let holds = had_full s h p k legal has lk in
          or_right (not (not s.shown || nat_lt 0 (availability s h p))) _ (or_left (held h (block s.torrent p k)) _ holds)
          ∙ sym (or_left (held h (block s.torrent p k)) _ holds)
      by_had false lacks wants = by_rule s.shown refl where
        by_rule : (x : Bool) → s.shown ≡ x → (not (not x || nat_lt 0 (availability s h p)) || held_or_asked s h (block s.torrent p k))
            ≡ held_or_asked s h (block s.torrent p k)
        by_rule false rule = refl
        by_rule true rule = ap (λ (x : Bool). not x || held_or_asked s h (block s.torrent p k))
            (lt-ltb 0 (availability s h p) (shown rule p wants lacks))

      by_wanted : (x : Bool) → wanted s h p ≡ x → (not (x && (not s.shown || nat_lt 0 (availability s h p))) || held_or_asked s h (block s.torrent p k))
          ≡ (not x || held_or_asked s h (block s.torrent p k))
      by_wanted false isnt = refl
      by_wanted true is = by_had (had h p) refl is
