-- The pick is allowed, and after one history each call has one.
use Rattle.std.proofs.Common.{◌≡◌, ℕ, ◌+◌, ◌*◌, ◌%◌, ◌<◌, ◌≤◌, ◌==◌, Bool, true, false, not, ◌&&◌, ◌||◌, List, [], ◌∷◌, Option, None, Some, refl, ap, sym}
use Rattle.std.proofs.Common.{◌∙◌, arith, subst}
use Rattle.std.specs.Prelude.{if◌then◌else◌, nat_lt}
use Rattle.std.proofs.lemmas.Bool.{and_parts, or_left, or_parts, not-true, eqb-true, eq-eqb, ltb-true, ltb-false}
use Rattle.bt_meta.specs.declared.block.Block.{Block}
use Rattle.bt_meta.specs.Layout.{Layout, piece_count, block_count, block, block_size}
use Rattle.bt_history.specs.declared.call.Reason.{Reason}
use Rattle.bt_history.specs.declared.call.Reply.{Reply}
use Rattle.bt_history.specs.declared.call.Reply.TheVariants.{Cancel, Request}
use Rattle.bt_history.specs.declared.event.Action.{Action}
use Rattle.bt_history.specs.declared.event.Action.TheVariants.{Next, Arrived}
use Rattle.bt_history.specs.declared.event.Event.{Event}
use Rattle.bt_history.specs.Setting.{Setting, each_block, some_block_of, each_block_of, is_block}
use Rattle.bt_history.specs.History.{History, same_begin}
use Rattle.bt_history.specs.Peers.{due, dues, has_place}
use Rattle.bt_history.specs.Pieces.{begun, level}
use Rattle.bt_history.specs.Next.{Answer, Exactly, CancelOf, RequestOf}
use Rattle.bt_history.specs.Legal.{refusal, answer, answer_unless, settled_answer, Permits, IsAllowed, IsLegal}
use Rattle.bt_history.specs.Picks.{place_in_round, turn, comes_before, is_first, leads, pick, word_of, IsPicked, ArePicked, call_by, calls_of}
use Rattle.bt_history.proofs.Below.{any_witness, all_at}
use Rattle.bt_history.proofs.Lines.{due_dues}
use Rattle.bt_history.proofs.NextCases.{next_cases, next_is}
use Rattle.bt_history.proofs.Allowed.{arrived_exactly}

-- ---- the pick is allowed

-- where the answer is a cancel, it may be of the block that leads the line of cancels
abbrev CancelsDue : History → ℕ → Answer → Type 0
CancelsDue h q (CancelOf test) = (b : Block) → leads b (dues h q) ≡ true → test b ≡ true
CancelsDue h q other = Unit {0}

leading_is_due : (h : History) (q : ℕ) (b : Block) → leads b (dues h q) ≡ true → due h q b ≡ true
leading_is_due h q b is = due_dues h q b ∙ found (dues h q) is where
  found : (bs : List Block) → leads b bs ≡ true → has_place b bs ≡ true
  found [] is = absurd (cc is)
  found (a ∷ bs) is = or_left (same_begin a b) (has_place b bs) is

next_cancels : (h : History) (q : ℕ) (has_due opened full rises_one goes_on starts_one doubles_one waits : Bool)
    (cancels risings ons firsts seconds : Block → Bool)
    → CancelsDue h q (CancelOf cancels)
    → CancelsDue h q (next_cases has_due opened full rises_one goes_on starts_one doubles_one waits cancels risings ons firsts seconds)
unfolding next_cases
next_cancels h q true _ _ _ _ _ _ _ cancels risings ons firsts seconds first = first
next_cancels h q false false _ _ _ _ _ _ cancels risings ons firsts seconds first = tt
next_cancels h q false true true _ _ _ _ _ cancels risings ons firsts seconds first = tt
next_cancels h q false true false true _ _ _ _ cancels risings ons firsts seconds first = tt
next_cancels h q false true false false true _ _ _ cancels risings ons firsts seconds first = tt
next_cancels h q false true false false false true _ _ cancels risings ons firsts seconds first = tt
next_cancels h q false true false false false false true _ cancels risings ons firsts seconds first = tt
next_cancels h q false true false false false false false true cancels risings ons firsts seconds first = tt
next_cancels h q false true false false false false false false cancels risings ons firsts seconds first = tt

answer_cancels : (s : Setting) (h : History) (q : ℕ) (call : Action) → CancelsDue h q (answer s h q call)
unfolding settled_answer
answer_cancels s h q (Next word) = subst (CancelsDue h q) (sym (next_is s h q))
    (next_cancels h q _ _ _ _ _ _ _ _ _ _ _ _ _ (leading_is_due h q))
answer_cancels s h q (Arrived p begin bytes) =
    let only = arrived_exactly s h p begin in
    subst (CancelsDue h q) (sym only.1) tt
answer_cancels s h q _ = tt

-- a reply that is the pick of an answer is one of the answer
pick_permits : (s : Setting) (h : History) (q word : ℕ) (cause : Option Reason) (a : Answer) (reply : Reply) → CancelsDue h q a
    → Permits s.torrent (answer_unless cause (pick s h q word a)) reply → Permits s.torrent (answer_unless cause a) reply
pick_permits s h q word (Some reason) a reply cancels is = is
pick_permits s h q word None (Exactly r) reply cancels is = is
pick_permits s h q word None (CancelOf test) reply cancels is = (is.0, is.1, is.2, cancels is.0 is.3)
pick_permits s h q word None (RequestOf test) reply cancels is = (is.0, is.1, is.2, (and_parts (test is.0) _ is.3).0)

pub picked_allowed : (s : Setting) (h : History) (e : Event) → e.worker < s.workers → IsPicked s h e → IsAllowed s h e
unfolding IsPicked IsAllowed
picked_allowed s h e lt is = (
  lt,
  pick_permits s h e.worker (word_of e.action) (refusal s h e.worker e.action) (answer s h e.worker e.action) e.reply
      (answer_cancels s h e.worker e.action) is,
)

pub picked_legal : (s : Setting) (h : History) → ArePicked s h → IsLegal s h
picked_legal s [] are = tt
picked_legal s (e ∷ h) are = (picked_legal s h are.0, picked_allowed s h e are.1 are.2)

-- ---- each call has one pick

-- a block of the torrent by its number in its piece
block_numbered : (t : Layout) (b : Block) → is_block t b ≡ true
    → (k : ℕ) × (b.piece < piece_count t) × (k < block_count t b.piece) × (b ≡ block t b.piece k)
block_numbered t b is =
    let parts = and_parts (nat_lt b.piece (piece_count t)) (some_block_of t b.piece (λ c. (c.begin == b.begin) && (c.len == b.len))) is in
    let found = any_witness (block_count t b.piece) (λ k. ((block t b.piece k).begin == b.begin) && ((block t b.piece k).len == b.len)) parts.1 in
    let both = and_parts ((block t b.piece found.0).begin == b.begin) ((block t b.piece found.0).len == b.len) found.2 in
    let begin = eqb-true (block t b.piece found.0).begin b.begin both.0 in
    let len = eqb-true (block t b.piece found.0).len b.len both.1 in (
      found.0,
      ltb-true b.piece (piece_count t) parts.0,
      found.1,
      (λ i. record { piece = b.piece; begin = sym begin i; len = sym len i }),
    )

-- two blocks of the torrent that begin at one place are one
same_place : (t : Layout) (b c : Block) → is_block t b ≡ true → is_block t c ≡ true → b.piece ≡ c.piece → b.begin ≡ c.begin → b ≡ c
same_place t b c is also piece begin =
    let one = block_numbered t b is in
    let two = block_numbered t c also in
    let starts_one : b.begin ≡ block_size * one.0 = ap (λ (x : Block). x.begin) one.3 in
    let starts_two : c.begin ≡ block_size * two.0 = ap (λ (x : Block). x.begin) two.3 in
    let number : one.0 ≡ two.0 = omega arith in
    one.3 ∙ ((λ i. block t (piece i) (number i)) ∙ sym two.3)

same_round : (n first p r : ℕ) → p < n → r < n → place_in_round n first p ≡ place_in_round n first r → p ≡ r
same_round n first p r lp lr same = by_tests (nat_lt p first) (nat_lt r first) same where
  by_tests : (x y : Bool) → (if x then n + p else p) ≡ (if y then n + r else r) → p ≡ r
  by_tests true true same = omega arith
  by_tests true false same = absurd (omega arith)
  by_tests false true same = absurd (omega arith)
  by_tests false false same = same

same_turn : (s : Setting) (h : History) (word p r : ℕ) → p < piece_count s.torrent → r < piece_count s.torrent
    → turn s h word p ≡ turn s h word r → p ≡ r
same_turn s h word p r lp lr same = by_tests (begun s h p) (begun s h r) same where
  n : ℕ
  n = piece_count s.torrent

  place : ℕ → ℕ
  place = place_in_round n (word % n)

  by_tests : (x y : Bool) → (if x then p else n + place p) ≡ (if y then r else n + place r) → p ≡ r
  by_tests true true same = same
  by_tests true false same = absurd (omega arith)
  by_tests false true same = absurd (omega arith)
  by_tests false false same = same_round n (word % n) p r lp lr (omega arith)

second_fails : {x y : Bool} → x ≡ true → (x && y) ≡ false → y ≡ false
second_fails {x = true} {y = y} one none = none
second_fails {x = false} {y = y} one none = absurd (cc one)

-- what is so where block b doesn't come before block c
record NotBefore (s : Setting) (h : History) (word : ℕ) (b c : Block) : Type 0 where
  no_higher : level h b.piece ≤ level h c.piece
  no_earlier : level h b.piece ≡ level h c.piece → turn s h word c.piece ≤ turn s h word b.piece
  not_in_front : level h b.piece ≡ level h c.piece → b.piece ≡ c.piece → c.begin ≤ b.begin

not_before : (s : Setting) (h : History) (word : ℕ) (b c : Block) → comes_before s h word b c ≡ false → NotBefore s h word b c
not_before s h word b c fails =
    let parts = or_parts (nat_lt (level h c.piece) (level h b.piece)) _ fails in
    let later : level h b.piece ≡ level h c.piece
    → (nat_lt (turn s h word b.piece) (turn s h word c.piece) || ((b.piece == c.piece) && nat_lt b.begin c.begin)) ≡ false =
    λ same. second_fails (eq-eqb (level h b.piece) (level h c.piece) same) parts.1 in
    record {
      no_higher = ltb-false (level h c.piece) (level h b.piece) parts.0;
      no_earlier = λ same. ltb-false (turn s h word b.piece) (turn s h word c.piece)
          (or_parts (nat_lt (turn s h word b.piece) (turn s h word c.piece)) _ (later same)).0;
      not_in_front = λ same piece. ltb-false b.begin c.begin (second_fails (eq-eqb b.piece c.piece piece)
          (or_parts (nat_lt (turn s h word b.piece) (turn s h word c.piece)) _ (later same)).1);
    }

-- of two blocks that both come first of those that pass a test, neither comes before the other
first_bars : (s : Setting) (h : History) (word : ℕ) (test : Block → Bool) (b c : Block) → is_first s h word test b ≡ true → is_block s.torrent c ≡ true
    → test c ≡ true → comes_before s h word c b ≡ false
first_bars s h word test b c first is passes =
    let bars : Block → Bool = λ a. not (test a && comes_before s h word a b) in
    let number = block_numbered s.torrent c is in
    let of_piece = all_at (piece_count s.torrent) (λ p. each_block_of s.torrent p bars) c.piece
    (and_parts (test b) (each_block s.torrent bars) first).1 number.1 in
    let at = all_at (block_count s.torrent c.piece) (λ k. bars (block s.torrent c.piece k)) number.0 of_piece number.2 in
    second_fails passes (not-true (test c && comes_before s h word c b) (ap bars number.3 ∙ at))

same_first : (s : Setting) (h : History) (word : ℕ) (test : Block → Bool) (b c : Block) → is_block s.torrent b ≡ true → is_block s.torrent c ≡ true
    → is_first s h word test b ≡ true → is_first s h word test c ≡ true → b ≡ c
same_first s h word test b c is also first too =
    let down = not_before s h word c b (first_bars s h word test b c first also (and_parts (test c) _ too).0) in
    let up = not_before s h word b c (first_bars s h word test c b too is (and_parts (test b) _ first).0) in
    let level : level h b.piece ≡ level h c.piece = omega (arith, down.no_higher, up.no_higher) in
    let turns : turn s h word b.piece ≡ turn s h word c.piece = omega (arith, down.no_earlier (sym level), up.no_earlier level) in
    let piece = same_turn s h word b.piece c.piece (block_numbered s.torrent b is).1 (block_numbered s.torrent c also).1 turns in
    let begin : b.begin ≡ c.begin = omega (arith, down.not_in_front (sym level) (sym piece), up.not_in_front level piece) in
    same_place s.torrent b c is also piece begin

same_leader : (t : Layout) (bs : List Block) (b c : Block) → is_block t b ≡ true → is_block t c ≡ true → leads b bs ≡ true → leads c bs ≡ true → b ≡ c
same_leader t [] b c is also first too = absurd (cc first)
same_leader t (a ∷ bs) b c is also first too =
    let one = and_parts (a.piece == b.piece) (a.begin == b.begin) first in
    let two = and_parts (a.piece == c.piece) (a.begin == c.begin) too in
    same_place t b c is also (sym (eqb-true a.piece b.piece one.0) ∙ eqb-true a.piece c.piece two.0)
    (sym (eqb-true a.begin b.begin one.1) ∙ eqb-true a.begin c.begin two.1)

-- the pick of an answer is one reply
one_permitted : (s : Setting) (h : History) (q word : ℕ) (cause : Option Reason) (a : Answer) (one other : Reply)
    → Permits s.torrent (answer_unless cause (pick s h q word a)) one → Permits s.torrent (answer_unless cause (pick s h q word a)) other → one ≡ other
one_permitted s h q word (Some reason) a one other is also = is ∙ sym also
one_permitted s h q word None (Exactly reply) one other is also = is ∙ sym also
one_permitted s h q word None (CancelOf test) one other is also =
    is.1 ∙ (ap Cancel (same_leader s.torrent (dues h q) is.0 also.0 is.2 also.2 is.3 also.3) ∙ sym also.1)
one_permitted s h q word None (RequestOf test) one other is also =
    is.1 ∙ (ap Request (same_first s h word test is.0 also.0 is.2 also.2 is.3 also.3) ∙ sym also.1)

pub same_reply : (s : Setting) (h : History) (one other : Event) → one.worker ≡ other.worker → one.action ≡ other.action
    → IsPicked s h one → IsPicked s h other → one.reply ≡ other.reply
unfolding IsPicked
same_reply s h one other worker call is also =
    let picks : ℕ → Action → Answer = λ w a. answer_unless (refusal s h w a) (pick s h w (word_of a) (answer s h w a)) in
    one_permitted s h one.worker (word_of one.action) (refusal s h one.worker one.action) (answer s h one.worker one.action) one.reply other.reply is
    (subst (λ (a : Answer). Permits s.torrent a other.reply) (λ i. picks (sym worker i) (sym call i)) also)

pub same_history : (s : Setting) (h g : History) → ArePicked s h → ArePicked s g → calls_of h ≡ calls_of g → h ≡ g
same_history s [] [] are also calls = refl
same_history s [] (f ∷ g) are also calls = absurd (cc calls)
same_history s (e ∷ h) [] are also calls = absurd (cc calls)
same_history s (e ∷ h) (f ∷ g) are also calls =
    let tails : calls_of h ≡ calls_of g = cc calls in
    let call : call_by e ≡ call_by f = cc calls in
    let before = same_history s h g are.0 also.0 tails in
    let worker : e.worker ≡ f.worker = ap (λ (c : ℕ × Action). c.0) call in
    let action : e.action ≡ f.action = ap (λ (c : ℕ × Action). c.1) call in
    let reply = same_reply s h e f worker action are.2 (subst (λ (x : History). IsPicked s x f) (sym before) also.2) in
    λ i. record { worker = worker i; action = action i; reply = reply i } ∷ before i
