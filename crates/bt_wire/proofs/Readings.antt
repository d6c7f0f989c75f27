-- Bytes are read as messages in one way, and in any cutting.
use Rattle.std.proofs.Common.{Some, append-nil, ◌≡◌, ℕ, List, [], ◌∷◌, ◌++◌, ◌<◌, ◌^◌, true, false, Bool, ap, sym, refl, subst, ◌∙◌, append_assoc}
use Rattle.bt_wire.specs.declared.message.Message.{Message}
use Rattle.bt_wire.specs.Stream.{HasMessage, Begins, greeted_after, InboundState, opened}
use Rattle.bt_wire.specs.Laws.{OneReading, Step, Fed, Gave, Failed, Leads, fed, given, FedIsGivenThenHeld, AnyCutting}
use Rattle.bt_wire.proofs.Fronts.{same_text}

-- a further message in front
ahead : (greeted : Bool) (limit : ℕ) (bytes rest : List ℕ) (m : Message) (ms : List Message) → Begins greeted limit bytes (m ∷ ms) rest →
    HasMessage greeted limit bytes
ahead greeted limit bytes rest m ms is = (m, (is.0, (is.1.0, (is.1.1.0, is.1.1.1))))

after_hello : (ms : List Message) → greeted_after true ms ≡ true
after_hello [] = refl
after_hello (m ∷ ms) = refl

still_whole : (limit : ℕ) (ms : List Message) (rest : List ℕ) → (HasMessage true limit rest → ⊥) → HasMessage (greeted_after true ms) limit rest → ⊥
still_whole limit ms rest whole has = whole (subst (λ (greeted : Bool). HasMessage greeted limit rest) (after_hello ms) has)

same_messages : (limit : ℕ) → limit < 2 ^ 32 → (greeted : Bool) (bytes again : List ℕ) (ms others : List Message) (rest other_rest : List ℕ) →
    bytes ≡ again →
    Begins greeted limit bytes ms rest → (HasMessage (greeted_after greeted ms) limit rest → ⊥) →
    Begins greeted limit again others other_rest → (HasMessage (greeted_after greeted others) limit other_rest → ⊥) →
    (ms ≡ others) × (rest ≡ other_rest)
same_messages limit small greeted bytes again [] [] rest other_rest same is whole also other_whole = (refl, sym is ∙ same ∙ also)
same_messages limit small greeted bytes again [] (m ∷ ms) rest other_rest same is whole also other_whole =
    absurd (whole (subst (HasMessage greeted limit) (sym same ∙ is) (ahead greeted limit again other_rest m ms also)))
same_messages limit small greeted bytes again (m ∷ ms) [] rest other_rest same is whole also other_whole =
    absurd (other_whole (subst (HasMessage greeted limit) (same ∙ also) (ahead greeted limit bytes rest m ms is)))
same_messages limit small greeted bytes again (m ∷ ms) (other ∷ others) rest other_rest same is whole also other_whole =
    let first = same_text greeted limit m other is.0 also.0 is.1.0 also.1.0 small is.1.1.0 also.1.1.0 (sym is.1.1.1 ∙ same ∙ also.1.1.1) in
    let later = same_messages limit small true is.1.0 also.1.0 ms others rest other_rest first.1 is.1.1.2 (still_whole limit ms rest whole)
    also.1.1.2 (still_whole limit others other_rest other_whole) in
    (ap (λ (x : Message). x ∷ ms) first.0 ∙ ap (λ (xs : List Message). other ∷ xs) later.0, later.1)

pub one_reading : (limit : ℕ) → limit < 2 ^ 32 → OneReading limit
one_reading limit small greeted bytes ms others rest other_rest is also =
    same_messages limit small greeted bytes bytes ms others rest other_rest refl is.begins is.whole also.begins also.whole

-- a stream's bytes may be followed by more
longer : (greeted : Bool) (limit : ℕ) (bytes rest more : List ℕ) (ms : List Message) → Begins greeted limit bytes ms rest →
    Begins greeted limit (bytes ++ more) ms (rest ++ more)
longer greeted limit bytes rest more [] is = ap (λ (xs : List ℕ). xs ++ more) is
longer greeted limit bytes rest more (m ∷ ms) is = (
  is.0,
  (
    is.1.0 ++ more,
    (
      is.1.1.0,
      ap (λ (xs : List ℕ). xs ++ more) is.1.1.1 ∙ append_assoc is.0 is.1.0 more,
      longer true limit is.1.0 rest more ms is.1.1.2,
    ),
  ),
)

-- What is held when the steps begin and the bytes fed in them are the messages given in them, then what is held when they end.
run : (steps : List Step) (old new : InboundState) → Leads old steps new →
    Begins old.greeted old.limit (old.bytes ++ fed steps) (given steps) new.bytes
run [] old new is = append-nil old.bytes ∙ ap (λ (state : InboundState). state.bytes) is
run (Fed piece ∷ steps) old new is =
    subst (λ (bytes : List ℕ). Begins old.greeted old.limit bytes (given steps) new.bytes) (append_assoc old.bytes piece (fed steps))
    (run steps (record old { bytes = old.bytes ++ piece }) new is)
run (Gave m ∷ steps) old new is =
    let after = is.0 in
    let gives = is.1.0 in
    let rest = after.bytes ++ fed steps in
    let later : Begins true old.limit rest (given steps) new.bytes =
    subst (λ (state : InboundState). Begins state.greeted state.limit rest (given steps) new.bytes) gives.after (run steps after new is.1.1) in
    (gives.text, (rest, (gives.spells, ap (λ (xs : List ℕ). xs ++ fed steps) gives.bytes ∙ append_assoc gives.text after.bytes (fed steps), later)))
run (Failed fault ∷ steps) old new is = run steps (record old { fault = Some fault }) new is

pub fed_is_given_then_held : (limit : ℕ) → FedIsGivenThenHeld limit
fed_is_given_then_held limit steps state is = run steps (opened limit) state is

-- the handshake was given where a message was
run_greeted : (steps : List Step) (old new : InboundState) → Leads old steps new → new.greeted ≡ greeted_after old.greeted (given steps)
run_greeted [] old new is = ap (λ (state : InboundState). state.greeted) (sym is)
run_greeted (Fed piece ∷ steps) old new is = run_greeted steps (record old { bytes = old.bytes ++ piece }) new is
run_greeted (Gave m ∷ steps) old new is =
    run_greeted steps is.0 new is.1.1
    ∙ ap (λ (state : InboundState). greeted_after state.greeted (given steps)) is.1.0.after ∙ after_hello (given steps)
run_greeted (Failed fault ∷ steps) old new is = run_greeted steps (record old { fault = Some fault }) new is

pub any_cutting : (limit : ℕ) → limit < 2 ^ 32 → AnyCutting limit
any_cutting limit small steps others state other leads also same whole other_whole =
    same_messages limit small false (fed steps) (fed others) (given steps) (given others) state.bytes other.bytes same
    (fed_is_given_then_held limit steps state leads)
    (λ has. whole (subst (λ (greeted : Bool). HasMessage greeted limit state.bytes) (sym (run_greeted steps (opened limit) state leads)) has))
    (fed_is_given_then_held limit others other also)
    (λ has. other_whole (subst (λ (greeted : Bool). HasMessage greeted limit other.bytes) (sym (run_greeted others (opened limit) other also)) has))
