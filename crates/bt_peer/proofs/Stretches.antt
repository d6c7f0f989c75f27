-- Stretches of a session, one after another.
use Rattle.std.proofs.Common.{◌≡◌, ◌≢◌, ℕ, List, [], ◌∷◌, ◌++◌, Bool, true, false, refl, sym, ap, subst, ◌∙◌, append_assoc, inl, inr}
use Rattle.std.specs.Prelude.{◌==◌, if◌then◌else◌}
use Rattle.std.proofs.lemmas.List.{append-nil}
use Rattle.bt_wire.specs.Messages.{spelling}
use Rattle.bt_wire.specs.declared.message.Message.TheVariants as messages
use Rattle.bt_history.specs.declared.event.Action.{Action}
use Rattle.bt_history.specs.declared.call.Reply.{Reply}
use Rattle.bt_peer.specs.declared.fault.SessionFault.{SessionFault}
use Rattle.bt_peer.specs.declared.fault.SessionFault.TheVariants as faults
use Rattle.bt_peer.specs.Acts.{Act, Called, News, calls_of, news_of, is_refusal}
use Rattle.bt_peer.specs.Writer.{says, interest_by, interest_after, written_for}
use Rattle.bt_peer.specs.Places.{PlaceRecord, Gains, GainsUpTo, AllHad, Extends, LacksMemory, Tells}
use Rattle.bt_peer.specs.Outlets.{Outlet, Saying, Performs, PerformsUpTo, StopsCall, Writes, WritesUpTo, IsCut}
use Rattle.bt_peer.specs.Parts.{CallStops}
use Rattle.std.proofs.KnownBytes.{Appends-nil, Appends-trans}

calls_of-append : (es fs : List Act) → calls_of (es ++ fs) ≡ calls_of es ++ calls_of fs
calls_of-append [] fs = refl
calls_of-append (Called call reply ∷ es) fs = ap (λ (xs : List (Action × Reply)). (call, reply) ∷ xs) (calls_of-append es fs)
calls_of-append (News piece ∷ es) fs = calls_of-append es fs

news_of-append : (es fs : List Act) → news_of (es ++ fs) ≡ news_of es ++ news_of fs
news_of-append [] fs = refl
news_of-append (Called call reply ∷ es) fs = news_of-append es fs
news_of-append (News piece ∷ es) fs = ap (λ (xs : List ℕ). piece ∷ xs) (news_of-append es fs)

pub interest_after-append : (i : Bool) (es fs : List Act) → interest_after i (es ++ fs) ≡ interest_after (interest_after i es) fs
interest_after-append i [] fs = refl
interest_after-append i (Called call reply ∷ es) fs = interest_after-append (interest_by i reply) es fs
interest_after-append i (News piece ∷ es) fs = interest_after-append i es fs

pub says-append : (i : Bool) (es fs : List Act) → says i (es ++ fs) ≡ says i es ++ says (interest_after i es) fs
says-append i [] fs = refl
says-append i (Called call reply ∷ es) fs =
    ap (λ (xs : List ℕ). written_for i reply ++ xs) (says-append (interest_by i reply) es fs)
    ∙ sym (append_assoc (written_for i reply) (says (interest_by i reply) es) (says (interest_after (interest_by i reply) es) fs))
says-append i (News piece ∷ es) fs =
    ap (λ (xs : List ℕ). spelling (messages.Have piece) ++ xs) (says-append i es fs)
    ∙ sym (append_assoc (spelling (messages.Have piece)) (says i es) (says (interest_after i es) fs))

-- told pieces are those at each piece
Tells-along : (a b : ℕ → Bool) (pieces : List ℕ) (c : ℕ → Bool) → ((p : ℕ) → b p ≡ a p) → Tells b pieces c → Tells a pieces c
Tells-along a b [] c same tells = λ p. tells p ∙ same p
Tells-along a b (first ∷ pieces) c same tells = (
  sym (same first) ∙ tells.0,
  Tells-along (λ p. if p == first then true else a p) (λ p. if p == first then true else b p) pieces c
      (λ p. ap (λ v. if p == first then true else v) (same p)) tells.1,
)

Tells-join : (a b c : ℕ → Bool) (ps qs : List ℕ) → Tells a ps b → Tells b qs c → Tells a (ps ++ qs) c
Tells-join a b c [] qs f g = Tells-along a b qs c f g
Tells-join a b c (p ∷ ps) qs f g = (f.0, Tells-join (λ q. if q == p then true else a q) b c ps qs f.1 g)

-- what is finished stays so
AllHad-along : (old new : ℕ → Bool) (pieces : List ℕ) → ((piece : ℕ) → old piece ≡ true → new piece ≡ true) → AllHad old pieces → AllHad new pieces
AllHad-along old new [] stays all = tt
AllHad-along old new (piece ∷ pieces) stays all = (stays piece all.0, AllHad-along old new pieces stays all.1)

AllHad-append : (had : ℕ → Bool) (ps qs : List ℕ) → AllHad had ps → AllHad had qs → AllHad had (ps ++ qs)
AllHad-append had [] qs first second = second
AllHad-append had (p ∷ ps) qs first second = (first.0, AllHad-append had ps qs first.1 second)

pub Extends-refl : (xs : List ℕ) → Extends xs xs
Extends-refl xs = ([], sym (append-nil xs))

pub Extends-join : (xs ys zs : List ℕ) → Extends xs ys → Extends ys zs → Extends xs zs
Extends-join xs ys zs one more =
    (one.0 ++ more.0, more.1 ∙ ap (λ (l : List ℕ). l ++ more.0) one.1 ∙ append_assoc xs one.0 more.0)

-- one stretch after another
pub GainsUpTo-join : (a b c : PlaceRecord) (es fs : List Act) → GainsUpTo a es b → GainsUpTo b fs c → GainsUpTo a (es ++ fs) c
GainsUpTo-join a b c es fs g h =
    record {
      lent = h.lent ∙ g.lent;
      worker = h.worker ∙ g.worker;
      setting = h.setting ∙ g.setting;
      calls = h.calls ∙ ap (λ (xs : List (Action × Reply)). xs ++ calls_of fs) g.calls ∙ append_assoc a.calls (calls_of es) (calls_of fs)
          ∙ ap (λ (xs : List (Action × Reply)). a.calls ++ xs) (sym (calls_of-append es fs));
      others = λ other. h.others other ∙ g.others other;
      had = λ piece. λ before. h.had piece (g.had piece before);
      in_order = Extends-join a.in_order b.in_order c.in_order g.in_order h.in_order;
      told = subst (λ (ps : List ℕ). Tells a.told ps c.told) (sym (news_of-append es fs))
          (Tells-join a.told b.told c.told (news_of es) (news_of fs) g.told h.told);
      finished = subst (AllHad c.had) (sym (news_of-append es fs))
          (AllHad-append c.had (news_of es) (news_of fs) (AllHad-along b.had c.had (news_of es) h.had g.finished) h.finished);
    }

pub Gains-none : (a : PlaceRecord) → Gains a [] a
Gains-none a = record {
  up_to = record {
    lent = refl;
    worker = refl;
    setting = refl;
    calls = sym (append-nil a.calls);
    others = λ worker. refl;
    had = λ piece. λ before. before;
    in_order = Extends-refl a.in_order;
    told = λ piece. refl;
    finished = tt;
  };
  lacked = refl;
}

pub up_to : (a b : PlaceRecord) (es : List Act) → Gains a es b → GainsUpTo a es b
up_to a b es g = g.up_to

pub Gains-join : (a b c : PlaceRecord) (es fs : List Act) → Gains a es b → Gains b fs c → Gains a (es ++ fs) c
Gains-join a b c es fs g h = record { up_to = GainsUpTo-join a b c es fs g.up_to h.up_to; lacked = h.lacked ∙ g.lacked }

pub Writes-none : (a : Saying) → Writes a [] a
Writes-none a = record { wrote = Appends-nil a.written; sound = refl; same_sink = refl }

Writes-join : (a b c : Saying) (xs ys : List ℕ) → Writes a xs b → Writes b ys c → Writes a (xs ++ ys) c
Writes-join a b c xs ys p q = record {
  wrote = Appends-trans a.written b.written c.written xs ys p.wrote q.wrote;
  sound = q.sound ∙ p.sound;
  same_sink = q.same_sink ∙ p.same_sink;
}

WritesUpTo-join : (fault : SessionFault) (a b c : Saying) (xs ys : List ℕ) → Writes a xs b → WritesUpTo fault b ys c →
    WritesUpTo fault a (xs ++ ys) c
WritesUpTo-join fault a b c xs ys p q = record {
  wrote = record {
    front = xs ++ q.wrote.front;
    rest = q.wrote.rest;
    parts = ap (λ (zs : List ℕ). xs ++ zs) q.wrote.parts ∙ sym (append_assoc xs q.wrote.front q.wrote.rest);
    wrote = Appends-trans a.written b.written c.written xs q.wrote.front p.wrote q.wrote.wrote;
    all = q.wrote.all;
  };
  failed = q.failed;
  same_sink = q.same_sink ∙ p.same_sink;
}

-- nothing more is written up to a fault that no write has
pub WritesUpTo-none : (fault : SessionFault) (a : Saying) → fault ≢ faults.WriteFault → WritesUpTo fault a [] a
WritesUpTo-none fault a other = record {
  wrote = record { front = []; rest = []; parts = refl; wrote = Appends-nil a.written; all = inr refl };
  failed = λ is. absurd (other is);
  same_sink = refl;
}

pub Performs-none : (a : Outlet) → Performs a [] a
Performs-none a = record { gains = Gains-none a.past; writes = Writes-none a.said; interest = refl }

-- what acts say after others
says-after : (a b : Outlet) (es fs : List Act) → Performs a es b →
    says a.said.interested es ++ says b.said.interested fs ≡ says a.said.interested (es ++ fs)
says-after a b es fs p =
    let i = a.said.interested in
    sym (says-append i es fs ∙ ap (λ (j : Bool). says i es ++ says j fs) (sym p.interest))

pub Performs-join : (a b c : Outlet) (es fs : List Act) → Performs a es b → Performs b fs c → Performs a (es ++ fs) c
Performs-join a b c es fs p q =
    let i = a.said.interested in
    record {
      gains = Gains-join a.past b.past c.past es fs p.gains q.gains;
      writes = subst (λ (xs : List ℕ). Writes a.said xs c.said) (says-after a b es fs p)
          (Writes-join a.said b.said c.said (says i es) (says b.said.interested fs) p.writes q.writes);
      interest = q.interest ∙ ap (λ j. interest_after j fs) p.interest ∙ sym (interest_after-append i es fs);
    }

pub Performs-stops : (fault : SessionFault) (a b c : Outlet) (es fs : List Act) → Performs a es b → PerformsUpTo fault b fs c →
    PerformsUpTo fault a (es ++ fs) c
Performs-stops fault a b c es fs p q =
    record {
      gains = GainsUpTo-join a.past b.past c.past es fs (up_to a.past b.past es p.gains) q.gains;
      writes = subst (λ (xs : List ℕ). WritesUpTo fault a.said xs c.said) (says-after a b es fs p)
          (WritesUpTo-join fault a.said b.said c.said (says a.said.interested es) (says b.said.interested fs) p.writes q.writes);
    }

cut_call : (call : Action) (reply : Reply) (fault : SessionFault) → is_refusal reply ≡ false → IsCut fault →
    StopsCall call fault (Called call reply ∷ [])
cut_call call reply fault accepted cut =
    elim cut [
      | inl is ↦ subst (λ (f : SessionFault). StopsCall call f (Called call reply ∷ [])) (sym is) (inl refl, inr (reply, (accepted, refl)))
      | inr is ↦ subst (λ (f : SessionFault). StopsCall call f (Called call reply ∷ [])) (sym is) (inr refl, inr (reply, (accepted, refl)))
    ]

-- a call whose answer was cut off
pub call_cut : (a b : Outlet) (call : Action) (reply : Reply) (fault : SessionFault) → Gains a.past (Called call reply ∷ []) b.past →
    is_refusal reply ≡ false → IsCut fault → WritesUpTo fault a.said (written_for a.said.interested reply) b.said → CallStops fault call a b
call_cut a b call reply fault gains accepted cut wrote = record {
  acts = Called call reply ∷ [];
  stops = cut_call call reply fault accepted cut;
  performs = record {
    gains = up_to a.past b.past (Called call reply ∷ []) gains;
    writes = subst (λ (xs : List ℕ). WritesUpTo fault a.said xs b.said) (sym (append-nil (written_for a.said.interested reply))) wrote;
  };
}

-- a call that found no memory
pub call_lacks : (past past' : PlaceRecord) (said : Saying) (call : Action) → LacksMemory past past' →
    CallStops faults.NoMemory call (record { past = past; said = said }) (record { past = past'; said = said })
call_lacks past past' said call lacks = record {
  acts = [];
  stops = (inr refl, inl refl);
  performs = record {
    gains = lacks.gains;
    writes = record {
      wrote = record { front = []; rest = []; parts = refl; wrote = Appends-nil said.written; all = inr refl };
      failed = λ is. absurd (cc is);
      same_sink = refl;
    };
  };
}
