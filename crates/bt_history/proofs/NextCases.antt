-- The answer to Next as a function of its eight tests, and what a reply that it permits shows.
use Rattle.std.proofs.Common.{◌≡◌, ◌⊎◌, Bool, true, false, not, ◌&&◌, refl, ap, sym, ◌∙◌, inl, inr}
use Rattle.std.specs.Prelude.{if◌then◌else◌, ℕ, nat_le}
use Rattle.std.proofs.lemmas.Bool.{false≢true}
use Rattle.bt_meta.specs.declared.block.Block.{Block}
use Rattle.bt_meta.specs.Layout.{Layout}
use Rattle.bt_history.specs.declared.call.Reply.{Reply}
use Rattle.bt_history.specs.declared.call.Reply.TheVariants.{Request, Choked, PipeFull, Idle, NothingLeft}
use Rattle.bt_history.specs.Setting.{Setting, some_block, is_block}
use Rattle.bt_history.specs.History.{History}
use Rattle.bt_history.specs.Peers.{is_open, asked_count, due, depth_of}
use Rattle.bt_history.specs.Pieces.{endgame, interesting}
use Rattle.bt_history.specs.Next.{Answer, Exactly, CancelOf, RequestOf, usable, continues, starts, rises, doubles}
use Rattle.bt_history.specs.Next.{rushes, tops_in_order, next_answer}
use Rattle.bt_history.specs.Legal.{Permits}
use Rattle.bt_history.specs.Logs.{answers_next}

-- the answer by its tests: a cancel is due, the peer is open, its pipe is full, a block tops of a level that comes in order,
-- a begun piece goes on, a block is usable, a block may be asked twice, the peer is interesting
unfoldable pub next_cases : (has_due opened full rises_one goes_on starts_one doubles_one waits : Bool)
    (cancels risings ons firsts seconds : Block → Bool) → Answer
next_cases has_due opened full rises_one goes_on starts_one doubles_one waits cancels risings ons firsts seconds =
    if has_due then CancelOf cancels
    else if not opened then Exactly Choked
    else if full then Exactly PipeFull
    else if rises_one then RequestOf risings
    else if goes_on then RequestOf ons
    else if starts_one then RequestOf firsts
    else if doubles_one then RequestOf seconds
    else if waits then Exactly Idle
    else Exactly NothingLeft

pub next_is : (s : Setting) (h : History) (q : ℕ) → next_answer s h q
    ≡ next_cases (some_block s.torrent (due h q)) (is_open h q) (nat_le (depth_of s h q) (asked_count s h q))
    (some_block s.torrent (tops_in_order s h q)) (some_block s.torrent (continues s h q)) (some_block s.torrent (usable s h q))
    (rushes s h q && (endgame s h && some_block s.torrent (doubles s h q))) (interesting s h q)
    (due h q) (rises s h q) (continues s h q) (starts s h q) (doubles s h q)
unfolding next_answer next_cases
next_is s h q = refl

-- a test of few blocks that holds wherever the pipe isn't full makes no difference
pub without_test : (few has_due opened full rises_one goes_on starts_one doubles_one waits : Bool) (cancels risings ons firsts seconds : Block → Bool)
    → (full ≡ false → few ≡ true)
    → next_cases has_due opened full rises_one goes_on starts_one (few && doubles_one) waits cancels risings ons firsts seconds
    ≡ next_cases has_due opened full rises_one goes_on starts_one doubles_one waits cancels risings ons firsts seconds
unfolding next_cases
without_test few true _ _ _ _ _ _ _ cancels risings ons firsts seconds slow = refl
without_test few false false _ _ _ _ _ _ cancels risings ons firsts seconds slow = refl
without_test few false true true _ _ _ _ _ cancels risings ons firsts seconds slow = refl
without_test few false true false rises_one goes_on starts_one doubles_one waits cancels risings ons firsts seconds slow =
    ap (λ (x : Bool). next_cases false true false rises_one goes_on starts_one (x && doubles_one) waits cancels risings ons firsts seconds) (slow refl)

-- the reply is one of those to Next
pub next_answers : (t : Layout) (has_due opened full rises_one goes_on starts_one doubles_one waits : Bool)
    (cancels risings ons firsts seconds : Block → Bool) (reply : Reply)
    → Permits t (next_cases has_due opened full rises_one goes_on starts_one doubles_one waits cancels risings ons firsts seconds) reply
    → answers_next reply ≡ true
unfolding next_cases
next_answers t true _ _ _ _ _ _ _ cancels risings ons firsts seconds reply h = ap answers_next (h.1)
next_answers t false false _ _ _ _ _ _ cancels risings ons firsts seconds reply h = ap answers_next h
next_answers t false true true _ _ _ _ _ cancels risings ons firsts seconds reply h = ap answers_next h
next_answers t false true false true _ _ _ _ cancels risings ons firsts seconds reply h = ap answers_next (h.1)
next_answers t false true false false true _ _ _ cancels risings ons firsts seconds reply h = ap answers_next (h.1)
next_answers t false true false false false true _ _ cancels risings ons firsts seconds reply h = ap answers_next (h.1)
next_answers t false true false false false false true _ cancels risings ons firsts seconds reply h = ap answers_next (h.1)
next_answers t false true false false false false false true cancels risings ons firsts seconds reply h = ap answers_next h
next_answers t false true false false false false false false cancels risings ons firsts seconds reply h = ap answers_next h

-- what a request shows of the tests: one that neither rises nor goes on nor begins also shows that no block is usable
pub record Requests (t : Layout) (has_due full rises_one goes_on starts_one doubles_one : Bool) (risings ons firsts seconds : Block → Bool)
    (b : Block) : Type 0 where
  pub none_due : has_due ≡ false
  pub room : full ≡ false
  pub block : is_block t b ≡ true
  pub kind : (risings b ≡ true) ⊎ ((ons b ≡ true) ⊎ ((firsts b ≡ true) ⊎ ((doubles_one ≡ true) × (seconds b ≡ true))))
  pub usable : (risings b ≡ true) ⊎ ((ons b ≡ true) ⊎ ((firsts b ≡ true) ⊎ (starts_one ≡ false)))
  pub rising : rises_one ≡ true → risings b ≡ true
  pub unordered : rises_one ≡ false → (ons b ≡ true) ⊎ (((goes_on ≡ false) × (firsts b ≡ true)) ⊎ (starts_one ≡ false))

named : (test : Block → Bool) (b c : Block) → Request b ≡ Request c → test c ≡ true → test b ≡ true
named test b c is passes = let same : b ≡ c = cc is in ap test same ∙ passes

pub next_request : (t : Layout) (has_due opened full rises_one goes_on starts_one doubles_one waits : Bool)
    (cancels risings ons firsts seconds : Block → Bool) (x : Block)
    → Permits t (next_cases has_due opened full rises_one goes_on starts_one doubles_one waits cancels risings ons firsts seconds) (Request x)
    → Requests t has_due full rises_one goes_on starts_one doubles_one risings ons firsts seconds x
unfolding next_cases
next_request t true _ _ _ _ _ _ _ cancels risings ons firsts seconds x h = absurd (cc (h.1))
next_request t false false _ _ _ _ _ _ cancels risings ons firsts seconds x h = absurd (cc h)
next_request t false true true _ _ _ _ _ cancels risings ons firsts seconds x h = absurd (cc h)
next_request t false true false true _ _ _ _ cancels risings ons firsts seconds x h =
    let up = named risings x (h.0) (h.1) (h.3) in
    record {
      none_due = refl;
      room = refl;
      block = named (is_block t) x (h.0) (h.1) (h.2);
      kind = inl up;
      usable = inl up;
      rising = λ in_order. up;
      unordered = λ no. absurd (false≢true (sym no));
    }
next_request t false true false false true _ _ _ cancels risings ons firsts seconds x h =
    let on = named ons x (h.0) (h.1) (h.3) in
    record {
      none_due = refl;
      room = refl;
      block = named (is_block t) x (h.0) (h.1) (h.2);
      kind = inr (inl on);
      usable = inr (inl on);
      rising = λ in_order. absurd (false≢true in_order);
      unordered = λ no. inl on;
    }
next_request t false true false false false true _ _ cancels risings ons firsts seconds x h =
    let first = named firsts x (h.0) (h.1) (h.3) in
    record {
      none_due = refl;
      room = refl;
      block = named (is_block t) x (h.0) (h.1) (h.2);
      kind = inr (inr (inl first));
      usable = inr (inr (inl first));
      rising = λ in_order. absurd (false≢true in_order);
      unordered = λ no. inr (inl (refl, first));
    }
next_request t false true false false false false true _ cancels risings ons firsts seconds x h =
    record {
      none_due = refl;
      room = refl;
      block = named (is_block t) x (h.0) (h.1) (h.2);
      kind = inr (inr (inr (refl, named seconds x (h.0) (h.1) (h.3))));
      usable = inr (inr (inr refl));
      rising = λ in_order. absurd (false≢true in_order);
      unordered = λ no. inr (inr refl);
    }
next_request t false true false false false false false true cancels risings ons firsts seconds x h = absurd (cc h)
next_request t false true false false false false false false cancels risings ons firsts seconds x h = absurd (cc h)
