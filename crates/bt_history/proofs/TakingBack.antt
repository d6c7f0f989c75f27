-- Entries that take something back: a release, a piece that a peer lacks, a request that is late, or blocks that are freed with no check. What
-- each changes, and what it leaves.
use Rattle.std.proofs.Common.{◌≡◌, ℕ, ◌==◌, Bool, true, false, not, ◌&&◌, ◌||◌, List, [], ◌∷◌, ◌++◌, Option, None, Some, append-nil, ap, refl, ◌∙◌}
use Rattle.std.proofs.Math.Bool.{or-false}
use Rattle.std.specs.Prelude.{if◌then◌else◌}
use Rattle.std.specs.List.{filter, list_any}
use Rattle.bt_meta.specs.declared.block.Block.{Block}
use Rattle.bt_history.specs.declared.call.Reply.TheVariants.{Failed, Noted, Quiet}
use Rattle.bt_history.specs.declared.event.Action.{Action}
use Rattle.bt_history.specs.declared.event.Action.TheVariants.{Discard, Lack, Late, Lose, Release}
use Rattle.bt_history.specs.Entries.{delaying, giving_up, lacking}
use Rattle.bt_history.specs.History.{History, same_begin}
use Rattle.bt_history.specs.Legal.{place_at}
use Rattle.bt_history.specs.Peers.{asked, delays, due, dues, is_open, is_open_after, joined, joined_after, late, late_after, outstanding, overdue}
use Rattle.bt_history.specs.Peers.{reach, reach_after, releases, resets, shows, shows_after, told_after, told_depth}
use Rattle.bt_history.specs.Peers.{alone, alone_after}
use Rattle.bt_history.specs.Before.{is_loss}
use Rattle.bt_history.specs.Losses.{LeavesPeers}
use Rattle.bt_history.specs.Pieces.{level, level_after, order_after, order_from}

pub filter_all : (bs : List Block) → filter (λ b. true) bs ≡ bs
filter_all [] = refl
filter_all (b ∷ bs) = ap (λ (rest : List Block). b ∷ rest) (filter_all bs)

pub filter_none : (bs : List Block) → filter (λ b. false) bs ≡ []
filter_none [] = refl
filter_none (b ∷ bs) = filter_none bs

-- the call takes back a request or a piece, or tells a request late
abbrev pub takes_back : Action → Bool
takes_back (Lack p) = true
takes_back (Release p begin) = true
takes_back (Late p begin) = true
takes_back call = false

-- the call, if it is of the peer itself
abbrev pub if_own : Bool → Action → Option Action
if_own x call = if x then Some call else None

-- what stays of peer q, its own call or not: its depth and its reach, whether it is in, lets itself be asked and works alone, and its cancels
pub record Stays (h : History) (q : ℕ) (x : Bool) (call : Action) : Type 0 where
  pub depth : told_after (if_own x call) (told_depth h q) ≡ told_depth h q
  pub reach : reach_after (if_own x call) (reach h q) ≡ reach h q
  pub joined : joined_after (if_own x call) (joined h q) ≡ joined h q
  pub opened : is_open_after (if_own x call) (is_open h q) ≡ is_open h q
  pub alone : alone_after (if_own x call) (alone h q) ≡ alone h q
  pub due : (b : Block) → (not (resets (if_own x call)) && (not (x && false) && (due h q b || false))) ≡ due h q b
  pub cancels : (if resets (if_own x call) then [] else filter (λ b. not (x && false)) (dues h q)
      ++ (if x then [] else filter (λ b. false) (outstanding h q))) ≡ dues h q

pub stays : (h : History) (q : ℕ) (x : Bool) (call : Action) → takes_back call ≡ true → Stays h q x call
stays h q false call is = record {
  depth = refl;
  reach = refl;
  joined = refl;
  opened = refl;
  alone = refl;
  due = λ b. or-false _;
  cancels = (λ i. filter_all (dues h q) i ++ filter_none (outstanding h q) i) ∙ append-nil _;
}
stays h q true (Lack p) is = record {
  depth = refl;
  reach = refl;
  joined = refl;
  opened = refl;
  alone = refl;
  due = λ b. or-false _;
  cancels = append-nil _ ∙ filter_all (dues h q);
}
stays h q true (Release p begin) is = record {
  depth = refl;
  reach = refl;
  joined = refl;
  opened = refl;
  alone = refl;
  due = λ b. or-false _;
  cancels = append-nil _ ∙ filter_all (dues h q);
}
stays h q true (Late p begin) is = record {
  depth = refl;
  reach = refl;
  joined = refl;
  opened = refl;
  alone = refl;
  due = λ b. or-false _;
  cancels = append-nil _ ∙ filter_all (dues h q);
}
stays h q true call is = absurd (cc is)

-- what a peer shows stays, and whether a bitfield comes too late, where a call speaks of one block
abbrev pub names_a_block : Action → Bool
names_a_block (Release p begin) = true
names_a_block (Late p begin) = true
names_a_block call = false

pub shows_on : (x : Bool) (call : Action) (r : ℕ) (before : Bool) → names_a_block call ≡ true → shows_after (if_own x call) r before ≡ before
shows_on false call r before is = refl
shows_on true (Release p begin) r before is = refl
shows_on true (Late p begin) r before is = refl
shows_on true call r before is = absurd (cc is)

pub late_on : (x : Bool) (call : Action) (before : Bool) → names_a_block call ≡ true → late_after (if_own x call) before ≡ before
late_on false call before is = refl
late_on true (Release p begin) before is = refl
late_on true (Late p begin) before is = refl
late_on true call before is = absurd (cc is)

-- ---- a release

module _ (h : History) (w p begin q : ℕ) where
  -- the block at this place is asked of w no more, and all else is asked as it was
  pub asked_released : (b : Block) → asked (giving_up w p begin Quiet ∷ h) q b ≡ (not ((w == q) && same_begin (place_at p begin) b) && asked h q b)
  unfolding asked
  asked_released b = by_worker (w == q) where
    by_worker : (x : Bool) → (not (resets (if_own x (Release p begin))) && ((not (releases (if_own x (Release p begin)) b) && asked h q b)
        || list_any (λ a. same_begin a b) (if◌then◌else◌ {A = List Block} x [] [])))
        ≡ (not (x && same_begin (place_at p begin) b) && asked h q b)
    by_worker true = or-false _
    by_worker false = or-false _

  -- its line lacks the block, and is in the same order
  pub line_released : outstanding (giving_up w p begin Quiet ∷ h) q
      ≡ filter (λ b. not ((w == q) && same_begin (place_at p begin) b)) (outstanding h q)
  unfolding outstanding
  line_released = by_worker (w == q) where
    by_worker : (x : Bool) → (if resets (if_own x (Release p begin)) then [] else filter (λ b. not (releases (if_own x (Release p begin)) b))
        (outstanding h q) ++ (if◌then◌else◌ {A = List Block} x [] []))
        ≡ filter (λ b. not (x && same_begin (place_at p begin) b)) (outstanding h q)
    by_worker true = append-nil _
    by_worker false = append-nil _

  -- a released block is late at nobody
  pub overdue_released : (b : Block) → overdue (giving_up w p begin Quiet ∷ h) q b
      ≡ (not ((w == q) && same_begin (place_at p begin) b) && overdue h q b)
  unfolding overdue
  overdue_released b = by_worker (w == q) where
    by_worker : (x : Bool) → (not (resets (if_own x (Release p begin))) && ((true && not (releases (if_own x (Release p begin)) b))
        && ((delays (if_own x (Release p begin)) b && asked h q b) || overdue h q b)))
        ≡ (not (x && same_begin (place_at p begin) b) && overdue h q b)
    by_worker true = refl
    by_worker false = refl

-- ---- a piece that a peer lacks

module _ (h : History) (w p q : ℕ) (interests : Bool) where
  -- it shows that piece no more, and nothing else changes of what is shown
  pub shows_lacked : (r : ℕ) → shows (lacking w p (Noted interests) ∷ h) q r ≡ (not ((w == q) && (p == r)) && shows h q r)
  unfolding shows
  shows_lacked r = by_worker (w == q) where
    by_worker : (x : Bool) → shows_after (if_own x (Lack p)) r (shows h q r) ≡ (not (x && (p == r)) && shows h q r)
    by_worker true = refl
    by_worker false = refl

  -- the peer has told something
  pub late_lacked : late (lacking w p (Noted interests) ∷ h) q ≡ ((w == q) || late h q)
  unfolding late
  late_lacked = by_worker (w == q) where
    by_worker : (x : Bool) → late_after (if_own x (Lack p)) (late h q) ≡ (x || late h q)
    by_worker true = refl
    by_worker false = refl

  -- its blocks of that piece are asked of it no more, and all else is asked as it was
  pub asked_lacked : (b : Block) → asked (lacking w p (Noted interests) ∷ h) q b ≡ (not ((w == q) && (p == b.piece)) && asked h q b)
  unfolding asked
  asked_lacked b = by_worker (w == q) where
    by_worker : (x : Bool) → (not (resets (if_own x (Lack p))) && ((not (releases (if_own x (Lack p)) b) && asked h q b)
        || list_any (λ a. same_begin a b) (if◌then◌else◌ {A = List Block} x [] [])))
        ≡ (not (x && (p == b.piece)) && asked h q b)
    by_worker true = or-false _
    by_worker false = or-false _

  -- its line lacks the blocks of that piece, and is in the same order
  pub line_lacked : outstanding (lacking w p (Noted interests) ∷ h) q ≡ filter (λ b. not ((w == q) && (p == b.piece))) (outstanding h q)
  unfolding outstanding
  line_lacked = by_worker (w == q) where
    by_worker : (x : Bool) → (if resets (if_own x (Lack p)) then [] else filter (λ b. not (releases (if_own x (Lack p)) b)) (outstanding h q)
        ++ (if◌then◌else◌ {A = List Block} x [] []))
        ≡ filter (λ b. not (x && (p == b.piece))) (outstanding h q)
    by_worker true = append-nil _
    by_worker false = append-nil _

-- ---- a request that is late

module _ (h : History) (w p begin q : ℕ) where
  -- the peer is late with the block, if that was asked of it, and with all else as it was
  pub overdue_delayed : (b : Block) → overdue (delaying w p begin Quiet ∷ h) q b
      ≡ (((w == q) && (same_begin (place_at p begin) b && asked h q b)) || overdue h q b)
  unfolding overdue
  overdue_delayed b = by_worker (w == q) where
    by_worker : (x : Bool) → (not (resets (if_own x (Late p begin))) && ((true && not (releases (if_own x (Late p begin)) b))
        && ((delays (if_own x (Late p begin)) b && asked h q b) || overdue h q b)))
        ≡ ((x && (same_begin (place_at p begin) b && asked h q b)) || overdue h q b)
    by_worker true = refl
    by_worker false = refl

  -- all that was asked is asked
  pub asked_delayed : (b : Block) → asked (delaying w p begin Quiet ∷ h) q b ≡ asked h q b
  unfolding asked
  asked_delayed b = by_worker (w == q) where
    by_worker : (x : Bool) → (not (resets (if_own x (Late p begin))) && (((true && not (releases (if_own x (Late p begin)) b)) && asked h q b)
        || list_any (λ a. same_begin a b) (if◌then◌else◌ {A = List Block} x [] []))) ≡ asked h q b
    by_worker true = or-false _
    by_worker false = or-false _

  -- in the same order
  pub line_delayed : outstanding (delaying w p begin Quiet ∷ h) q ≡ outstanding h q
  unfolding outstanding
  line_delayed = by_worker (w == q) where
    by_worker : (x : Bool) → (if resets (if_own x (Late p begin)) then [] else filter (λ b. true && not (releases (if_own x (Late p begin)) b))
        (outstanding h q) ++ (if◌then◌else◌ {A = List Block} x [] [])) ≡ outstanding h q
    by_worker true = append-nil _ ∙ filter_all (outstanding h q)
    by_worker false = append-nil _ ∙ filter_all (outstanding h q)

-- ---- blocks that are freed with no check

-- what such a call, or none, leaves of peer q
record PassesBy (o : Option Action) (h : History) (q p : ℕ) : Type 0 where
  pub member : joined_after o (joined h q) ≡ joined h q
  pub shown : shows_after o p (shows h q p) ≡ shows h q p
  pub told : late_after o (late h q) ≡ late h q
  pub opened : is_open_after o (is_open h q) ≡ is_open h q
  pub depth : told_after o (told_depth h q) ≡ told_depth h q
  pub highest : reach_after o (reach h q) ≡ reach h q
  pub apart : alone_after o (alone h q) ≡ alone h q
  pub resets_none : resets o ≡ false
  pub releases_none : (b : Block) → releases o b ≡ false
  pub delays_none : (b : Block) → delays o b ≡ false

passes_by : (x : Bool) (call : Action) (h : History) (q p : ℕ) → is_loss call ≡ true → PassesBy (if_own x call) h q p
passes_by false call h q p is = record {
  member = refl;
  shown = refl;
  told = refl;
  opened = refl;
  depth = refl;
  highest = refl;
  apart = refl;
  resets_none = refl;
  releases_none = λ b. refl;
  delays_none = λ b. refl;
}
passes_by true (Lose r) h q p is = record {
  member = refl;
  shown = refl;
  told = refl;
  opened = refl;
  depth = refl;
  highest = refl;
  apart = refl;
  resets_none = refl;
  releases_none = λ b. refl;
  delays_none = λ b. refl;
}
passes_by true (Discard r begin) h q p is = record {
  member = refl;
  shown = refl;
  told = refl;
  opened = refl;
  depth = refl;
  highest = refl;
  apart = refl;
  resets_none = refl;
  releases_none = λ b. refl;
  delays_none = λ b. refl;
}
passes_by true call h q p is = absurd (cc is)

level_on : (call : Action) (p before : ℕ) → is_loss call ≡ true → level_after (Some call) p before ≡ before
level_on (Lose r) p before is = refl
level_on (Discard r begin) p before is = refl
level_on call p before is = absurd (cc is)

order_on : (call : Action) (before : ℕ) → is_loss call ≡ true → order_after (Some call) before ≡ before
order_on (Lose r) before is = refl
order_on (Discard r begin) before is = refl
order_on call before is = absurd (cc is)

-- all that is known of peers stays
pub leaves_peers : (h : History) (w : ℕ) (call : Action) (q : ℕ) (b : Block) → is_loss call ≡ true
    → LeavesPeers (record { worker = w; action = call; reply = Failed }) h q b
unfolding alone asked due dues is_open joined late level order_from outstanding overdue reach shows told_depth
leaves_peers h w call q b is =
    let x = w == q in
    let on = passes_by x call h q b.piece is in
    record {
      members = on.member;
      pieces_shown = on.shown;
      told = on.told;
      opened = on.opened;
      depth = on.depth;
      highest = on.highest;
      apart = on.apart;
      requests = (λ i. not (on.resets_none i) && ((not (on.releases_none b i) && asked h q b) || list_any (λ a. same_begin a b) (empty x i)))
          ∙ or-false (asked h q b);
      line = (λ i. if on.resets_none i then [] else filter (λ a. not (on.releases_none a i)) (outstanding h q) ++ empty x i)
          ∙ append-nil _ ∙ filter_all (outstanding h q);
      late_requests = λ i. not (on.resets_none i) && (not (on.releases_none b i) && ((on.delays_none b i && asked h q b) || overdue h q b));
      cancels = (λ i. not (on.resets_none i) && (not (nothing x i) && (due h q b || false))) ∙ or-false (due h q b);
      cancel_line = cancelled_none x _ on.resets_none;
      levels = level_on call b.piece (level h b.piece) is;
      order = order_on call (order_from h) is;
    }
  where
    empty : (x : Bool) → (if◌then◌else◌ {A = List Block} x [] []) ≡ []
    empty true = refl
    empty false = refl

    nothing : (x : Bool) → (x && false) ≡ false
    nothing true = refl
    nothing false = refl

    cancelled_none : (x : Bool) (o : Option Action) → resets o ≡ false
        → (if resets o then [] else filter (λ a. not (x && false)) (dues h q) ++ (if x then [] else filter (λ a. false) (outstanding h q))) ≡ dues h q
    cancelled_none true o none = (λ i. if none i then [] else filter (λ a. true) (dues h q) ++ []) ∙ append-nil _ ∙ filter_all (dues h q)
    cancelled_none false o none = (λ i. if none i then [] else filter_all (dues h q) i ++ filter_none (outstanding h q) i) ∙ append-nil _
