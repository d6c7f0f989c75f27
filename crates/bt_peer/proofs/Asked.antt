-- News that was asked for in turn after turn.
use Rattle.std.proofs.Common.{ℕ, List, [], ◌∷◌, ◌++◌, refl, sym, ap, ◌∙◌, append_assoc}
use Rattle.std.proofs.lemmas.List.{append-nil}
use Rattle.bt_wire.specs.declared.message.Message.{Message}
use Rattle.bt_peer.specs.Acts.{Act}
use Rattle.bt_peer.specs.Places.{PlaceRecord, Gains}
use Rattle.bt_peer.specs.Steps.{AsksForNews, EachAsksForNews}
use Rattle.bt_peer.proofs.Stretches.{Gains-join, Gains-none}

module _ (pieces : ℕ) where
  -- the first turn
  pub asked_first : (m : Message) (a b c : PlaceRecord) (acts : List Act) → Gains a [] b → Gains b acts c → AsksForNews pieces m b acts c →
      EachAsksForNews pieces (m ∷ []) a acts c
  asked_first m a b c acts before gains news =
      (acts, ([], (b, (c, (before, gains, news, (refl, Gains-none c), sym (append-nil acts))))))

  -- one turn more
  pub asked_last : (ms : List Message) (m : Message) (a b c : PlaceRecord) (es fs : List Act) → EachAsksForNews pieces ms a es b → Gains b fs c →
      AsksForNews pieces m b fs c → EachAsksForNews pieces (ms ++ m ∷ []) a (es ++ fs) c
  asked_last [] m a b c es fs asked gains news =
      (fs, ([], (b, (c, (asked.1, gains, news, (refl, Gains-none c), ap (λ (xs : List Act). xs ++ fs) asked.0 ∙ sym (append-nil fs))))))
  asked_last (n ∷ ms) m a b c es fs (first, (others, (from, (mid, (before, gained, told, asked, is))))) gains news =
      let more = asked_last ms m mid b c others fs asked gains news in
      let same = ap (λ (xs : List Act). xs ++ fs) is ∙ append_assoc first others fs in
      (first, (others ++ fs, (from, (mid, (before, gained, told, more, same)))))

  -- more pieces came to be finished meanwhile
  pub asked_later : (ms : List Message) (a b c : PlaceRecord) (es : List Act) → EachAsksForNews pieces ms a es b → Gains b [] c →
      EachAsksForNews pieces ms a es c
  asked_later [] a b c es asked later = (asked.0, Gains-join a b c [] [] asked.1 later)
  asked_later (n ∷ ms) a b c es (first, (others, (from, (mid, (before, gained, told, asked, is))))) later =
      (first, (others, (from, (mid, (before, gained, told, asked_later ms mid b c others asked later, is)))))
