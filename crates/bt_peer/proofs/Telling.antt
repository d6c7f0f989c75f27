-- News, one piece after another.
use Rattle.std.proofs.Common.{inl, inr, ◌∙◌, refl, ◌≡◌, ℕ, ◌+◌, ◌≤◌, List, [], ◌∷◌, ◌++◌, length, map, sym, subst, arith, length-append}
use Rattle.std.proofs.lemmas.List.{append-nil, map-append}
use Rattle.bt_wire.specs.Messages.{spelling}
use Rattle.bt_wire.specs.declared.message.Message.TheVariants as messages
use Rattle.bt_peer.specs.declared.fault.SessionFault.{SessionFault}
use Rattle.bt_peer.specs.Acts.{Act, News}
use Rattle.bt_peer.specs.Places.{PlaceRecord, Gains, AllTold}
use Rattle.bt_peer.specs.Outlets.{Outlet, Performs, PerformsUpTo, Writes, WritesUpTo, IsCut}
use Rattle.bt_peer.specs.Parts.{NewsDone, NewsStops}
use Rattle.bt_peer.proofs.Stretches.{up_to, Writes-none, Performs-join, Performs-stops}

-- just so many pieces were told
pub record Telling (a b : Outlet) (n : ℕ) : Type 0 where
  pub news : List ℕ
  pub count : length news ≡ n
  pub does : Performs a (map News news) b

told_one : (piece : ℕ) (b c : Outlet) → Gains b.past (News piece ∷ []) c.past → Writes b.said (spelling (messages.Have piece)) c.said →
    c.said.interested ≡ b.said.interested → Performs b (News piece ∷ []) c
told_one piece b c gains writes same = record {
  gains = gains;
  writes = subst (λ (xs : List ℕ). Writes b.said xs c.said) (sym (append-nil (spelling (messages.Have piece)))) writes;
  interest = same;
}

pub Telling-more : (piece : ℕ) (a b c : Outlet) (n : ℕ) → Telling a b n → Gains b.past (News piece ∷ []) c.past →
    Writes b.said (spelling (messages.Have piece)) c.said → c.said.interested ≡ b.said.interested → Telling a c (n + 1)
Telling-more piece a b c n t gains writes same =
    record {
      news = t.news ++ piece ∷ [];
      count = omega (arith, t.count, length-append t.news (piece ∷ []));
      does = subst (λ (es : List Act). Performs a es c) (sym (map-append News t.news (piece ∷ [])))
          (Performs-join a b c (map News t.news) (News piece ∷ []) t.does (told_one piece b c gains writes same));
    }

-- no more news
pub Telling-done : (a b : Outlet) (past : PlaceRecord) (n most : ℕ) → Telling a b n → n ≤ most → Gains b.past [] past → AllTold past →
    NewsDone most a (record b { past = past })
Telling-done a b past n most t le gains all =
    let c = record b { past = past } in
    let nothing : Performs b [] c = record { gains = gains; writes = Writes-none b.said; interest = refl } in
    record {
      news = t.news;
      few = omega (arith, t.count);
      told = inr all;
      performs = subst (λ (es : List Act). Performs a es c) (append-nil (map News t.news)) (Performs-join a b c (map News t.news) [] t.does nothing);
    }

-- as many as there may be
pub Telling-full : (a b : Outlet) (n most : ℕ) → Telling a b n → n ≡ most → NewsDone most a b
Telling-full a b n most t is =
    record { news = t.news; few = omega (arith, t.count, is); told = inl (t.count ∙ is); performs = t.does }

-- a have that was cut off
pub Telling-cut : (fault : SessionFault) (piece : ℕ) (a b c : Outlet) (n most : ℕ) → Telling a b n → n + 1 ≤ most →
    Gains b.past (News piece ∷ []) c.past → IsCut fault → WritesUpTo fault b.said (spelling (messages.Have piece)) c.said → NewsStops fault most a c
Telling-cut fault piece a b c n most t le gains cut writes =
    let last : List Act = News piece ∷ [] in
    let stops : PerformsUpTo fault b last c = record {
      gains = up_to b.past c.past last gains;
      writes = subst (λ (xs : List ℕ). WritesUpTo fault b.said xs c.said) (sym (append-nil (spelling (messages.Have piece)))) writes;
    } in
    record {
      news = t.news ++ piece ∷ [];
      few = omega (arith, t.count, length-append t.news (piece ∷ []));
      cut = cut;
      performs = subst (λ (es : List Act). PerformsUpTo fault a es c) (sym (map-append News t.news (piece ∷ [])))
          (Performs-stops fault a b c (map News t.news) last t.does stops);
    }
