-- Turns of a session, one after another.
use Rattle.std.proofs.Common.{◌≡◌, ◌+◌, ℕ, List, [], ◌∷◌, ◌++◌, length-append, Bool, true, false, Option, None, refl, sym, ap, subst, ◌∙◌}
use Rattle.std.proofs.Common.{append_assoc, inl, inr, arith}
use Rattle.std.specs.Prelude.{if◌then◌else◌}
use Rattle.std.proofs.lemmas.List.{append-nil}
use Rattle.std.specs.Io.KnownBytes.{Appends, Consumes}
use Rattle.bt_wire.specs.declared.message.Message.{Message}
use Rattle.bt_wire.specs.declared.message.Message.TheVariants as messages
use Rattle.bt_wire.specs.Limit.{frame_limit}
use Rattle.bt_wire.specs.Stream.{InboundState, Spells, Begins, HasMessage}
use Rattle.bt_history.specs.declared.event.Action.TheVariants as actions
use Rattle.bt_history.specs.declared.call.Reply.TheVariants as replies
use Rattle.bt_peer.specs.declared.fault.End.{End}
use Rattle.bt_peer.specs.declared.fault.SessionFault.{SessionFault}
use Rattle.bt_peer.specs.Reader.{SourceState}
use Rattle.bt_peer.specs.Acts.{Act, Called}
use Rattle.bt_peer.specs.Writer.{greeting, says, interest_after}
use Rattle.bt_peer.specs.SessionTerms.{TermsState, pieces_of}
use Rattle.bt_peer.specs.Turns.{IsTurn, NoneRefused, TurnsOf, AreTurns}
use Rattle.bt_peer.specs.Steps.{Surroundings, AsksForNews, IsOfTorrent}
use Rattle.bt_peer.specs.Sessions.{SessionState, begun, GoesOn, Ends, FailsWith, IsWhole, NamesTorrent, IsUntouched, TookTurns, Running, IsCutShort}
use Rattle.std.proofs.KnownBytes.{Appends-trans}
use Rattle.bt_peer.proofs.Asked.{asked_first, asked_last}
use Rattle.bt_peer.proofs.Heard.{Consumes-join}
use Rattle.bt_peer.proofs.Stretches.{says-append, interest_after-append, Gains-join}

Begins-more : (greeted : Bool) (limit : ℕ) (bytes : List ℕ) (ms : List Message) (rest more : List ℕ) → Begins greeted limit bytes ms rest →
    Begins greeted limit (bytes ++ more) ms (rest ++ more)
Begins-more greeted limit bytes [] rest more is = ap (λ (xs : List ℕ). xs ++ more) is
Begins-more greeted limit bytes (m ∷ ms) rest more (text, (after, (spells, is, begins))) =
    let same = ap (λ (xs : List ℕ). xs ++ more) is ∙ append_assoc text after more in
    (text, (after ++ more, (spells, same, Begins-more true limit after ms rest more begins)))

Begins-last : (limit : ℕ) (bytes : List ℕ) (ms : List Message) (rest : List ℕ) (m : Message) (text after : List ℕ) → Begins true limit bytes ms rest →
    Spells true limit m text → rest ≡ text ++ after → Begins true limit bytes (ms ++ m ∷ []) after
Begins-last limit bytes [] rest m text after begins spells is = (text, (after, (spells, begins ∙ is, refl)))
Begins-last limit bytes (n ∷ ms) rest m text after (first, (others, (own, same, begins))) spells is =
    (first, (others, (own, same, Begins-last limit others ms rest m text after begins spells is)))

TurnsOf-last : (terms : TermsState) (ms : List Message) (acts : List Act) (m : Message) (es : List Act) → TurnsOf terms ms acts →
    IsTurn terms m es → NoneRefused es →
    TurnsOf terms (ms ++ m ∷ []) (acts ++ es)
TurnsOf-last terms [] acts m es turned turn none =
    (es, ([], (turn, none, refl, ap (λ (xs : List Act). xs ++ es) turned ∙ sym (append-nil es))))
TurnsOf-last terms (n ∷ ms) acts m es (first, (others, (own, accepted, turned, is))) turn none =
    let same = ap (λ (xs : List Act). xs ++ es) is ∙ append_assoc first others es in
    (first, (others ++ es, (own, accepted, TurnsOf-last terms ms others m es turned turn none, same)))

abbrev last : List Act
last = Called actions.Leave replies.Quiet ∷ []

TurnsOf-left : (terms : TermsState) (ms : List Message) (acts : List Act) → TurnsOf terms ms acts → AreTurns terms ms (acts ++ last)
TurnsOf-left terms [] acts turned = ap (λ (xs : List Act). xs ++ last) turned
TurnsOf-left terms (m ∷ ms) acts (first, (others, (own, accepted, turned, is))) =
    let same = ap (λ (xs : List Act). xs ++ last) is ∙ append_assoc first others last in
    (first, (others ++ last, (own, accepted, TurnsOf-left terms ms others turned, same)))

-- a handshake that is taken is of the torrent
names_torrent : (infohash : List ℕ) (limit : ℕ) (m : Message) (text : List ℕ) → Spells false limit m text → IsOfTorrent infohash m →
    NamesTorrent infohash m
names_torrent infohash limit (messages.Hello hello) text spells same = same
names_torrent infohash limit _ text spells same = absurd spells

so_far_first : (terms : TermsState) (worker : ℕ) (out : Surroundings) (now : SessionState) (mid : Surroundings) (new : SessionState)
    (out' : Surroundings) →
    IsUntouched terms worker out now mid → GoesOn (begun terms worker) mid new out' → TookTurns terms worker out new out'
so_far_first terms worker out now mid new out' fresh go =
    let turn = go.turn in
    let gives = turn.hears.gives in
    let said = greeting terms.infohash worker ++ says false turn.acts in
    record {
      first = turn.message;
      text = gives.text;
      read = new.stream.bytes;
      messages = [];
      acts = turn.acts;
      spells = gives.spells;
      same_torrent = names_torrent terms.infohash (frame_limit (pieces_of terms)) turn.message gives.text gives.spells turn.same_torrent;
      consumed = subst (λ (left : Option (List ℕ)). Consumes left out'.left (gives.text ++ new.stream.bytes)) fresh.left
          (subst (Consumes mid.left out'.left) gives.bytes turn.hears.consumed);
      begins = refl;
      counted = sym go.messages;
      turned = (turn.acts, ([], (turn.turn, turn.accepted, refl, sym (append-nil turn.acts))));
      gains = Gains-join out.past mid.past out'.past [] turn.acts fresh.gains turn.gains;
      news = asked_first (pieces_of terms) turn.message out.past mid.past out'.past turn.acts fresh.gains turn.gains turn.news;
      wrote = subst (λ (written : Option (List ℕ)). Appends written out'.written said) fresh.written turn.wrote;
      interest = turn.interest;
      terms_are = go.keeps.terms;
      limit = ap (λ (stream : InboundState). stream.limit) gives.after;
      greeted = ap (λ (stream : InboundState). stream.greeted) gives.after;
      joined = go.joined;
      unended = go.unended;
    }

so_far_more : (terms : TermsState) (worker : ℕ) (out : Surroundings) (now : SessionState) (mid : Surroundings) (new : SessionState)
    (out' : Surroundings) →
    TookTurns terms worker out now mid → GoesOn now mid new out' → TookTurns terms worker out new out'
so_far_more terms worker out now mid new out' so_far go =
    let turn = go.turn in
    let gives = turn.hears.gives in
    let limit = frame_limit (pieces_of terms) in
    let before = says false so_far.acts in
    let said = says (interest_after false so_far.acts) turn.acts in
    let hello = greeting terms.infohash worker in
    let spells : Spells true limit turn.message gives.text =
    subst (λ (l : ℕ). Spells true l turn.message gives.text) so_far.limit
    (subst (λ (b : Bool). Spells b now.stream.limit turn.message gives.text) so_far.greeted gives.spells) in
    let plain : Appends mid.written out'.written (says now.interested turn.acts) =
    subst (λ (b : Bool). Appends mid.written out'.written
    ((if b then [] else greeting now.terms.infohash now.worker) ++ says now.interested turn.acts)) so_far.joined turn.wrote in
    let wrote : Appends mid.written out'.written said =
    subst (Appends mid.written out'.written) (ap (λ i. says i turn.acts) so_far.interest) plain in
    let same : (hello ++ before) ++ said ≡ hello ++ says false (so_far.acts ++ turn.acts) =
    append_assoc hello before said ∙ ap (λ (xs : List ℕ). hello ++ xs) (sym (says-append false so_far.acts turn.acts)) in
    let more : new.messages ≡ now.messages + 1 =
    go.messages ∙ ap (λ (b : Bool). if b then now.messages + 1 else now.messages) so_far.joined in
    record {
      first = so_far.first;
      text = so_far.text;
      read = so_far.read ++ turn.hears.read;
      messages = so_far.messages ++ turn.message ∷ [];
      acts = so_far.acts ++ turn.acts;
      spells = so_far.spells;
      same_torrent = so_far.same_torrent;
      consumed = subst (Consumes out.left out'.left) (append_assoc so_far.text so_far.read turn.hears.read)
          (Consumes-join out.left mid.left out'.left (so_far.text ++ so_far.read) turn.hears.read so_far.consumed turn.hears.consumed);
      begins = Begins-last limit (so_far.read ++ turn.hears.read) so_far.messages
          (now.stream.bytes ++ turn.hears.read) turn.message gives.text new.stream.bytes
          (Begins-more true limit so_far.read so_far.messages now.stream.bytes turn.hears.read so_far.begins) spells gives.bytes;
      counted = omega (arith, more, so_far.counted, length-append so_far.messages (turn.message ∷ []));
      turned = TurnsOf-last terms (so_far.first ∷ so_far.messages) so_far.acts turn.message turn.acts so_far.turned
          (subst (λ (t : TermsState). IsTurn t turn.message turn.acts) so_far.terms_are turn.turn) turn.accepted;
      gains = Gains-join out.past mid.past out'.past so_far.acts turn.acts so_far.gains turn.gains;
      news = asked_last (pieces_of terms) (so_far.first ∷ so_far.messages) turn.message out.past mid.past out'.past so_far.acts turn.acts
          so_far.news turn.gains
          (subst (λ (t : TermsState). AsksForNews (pieces_of t) turn.message mid.past turn.acts out'.past) so_far.terms_are turn.news);
      wrote = subst (Appends out.written out'.written) same
          (Appends-trans out.written mid.written out'.written (hello ++ before) said so_far.wrote wrote);
      interest = turn.interest ∙ ap (λ i. interest_after i turn.acts) so_far.interest ∙ sym (interest_after-append false so_far.acts turn.acts);
      terms_are = go.keeps.terms ∙ so_far.terms_are;
      limit = ap (λ (stream : InboundState). stream.limit) gives.after ∙ so_far.limit;
      greeted = ap (λ (stream : InboundState). stream.greeted) gives.after;
      joined = go.joined;
      unended = go.unended;
    }

so_far_ends : (end : End) (terms : TermsState) (worker : ℕ) (out : Surroundings) (now : SessionState) (mid : Surroundings) (has_ended : Bool)
    (new : SessionState) (out' : Surroundings) →
    TookTurns terms worker out now mid → Ends end now mid has_ended new out' → IsWhole end terms worker out out'
so_far_ends end terms worker out now mid has_ended new out' so_far ends =
    let hears = ends.leave.hears in
    let limit = frame_limit (pieces_of terms) in
    let hello = greeting terms.infohash worker in
    let before = says false so_far.acts in
    let empty : now.stream.bytes ++ hears.read ≡ [] = sym (ap (λ (stream : InboundState). stream.bytes) hears.held) ∙ ends.leave.empty in
    let greeted : new.stream.greeted ≡ true = ap (λ (stream : InboundState). stream.greeted) hears.held ∙ so_far.greeted in
    let same_limit : new.stream.limit ≡ limit = ap (λ (stream : InboundState). stream.limit) hears.held ∙ so_far.limit in
    let none : HasMessage true limit [] → ⊥ =
    subst (λ (xs : List ℕ). HasMessage true limit xs → ⊥) ends.leave.empty
    (subst (λ (l : ℕ). HasMessage true l new.stream.bytes → ⊥) same_limit
    (subst (λ (b : Bool). HasMessage b new.stream.limit new.stream.bytes → ⊥) greeted hears.stuck.no_message)) in
    let begins : Begins true limit (so_far.read ++ hears.read) so_far.messages [] =
    subst (Begins true limit (so_far.read ++ hears.read) so_far.messages) empty
    (Begins-more true limit so_far.read so_far.messages now.stream.bytes hears.read so_far.begins) in
    let same : (hello ++ before) ++ [] ≡ hello ++ says false (so_far.acts ++ last) =
    append_assoc hello before [] ∙ ap (λ (xs : List ℕ). hello ++ xs) (sym (says-append false so_far.acts last)) in
    record {
      read = so_far.text ++ (so_far.read ++ hears.read);
      messages = so_far.first ∷ so_far.messages;
      acts = so_far.acts ++ last;
      consumed = subst (Consumes out.left out'.left) (append_assoc so_far.text so_far.read hears.read)
          (Consumes-join out.left mid.left out'.left (so_far.text ++ so_far.read) hears.read so_far.consumed hears.consumed);
      at_end = hears.at_end;
      same_torrent = so_far.same_torrent;
      stream = record {
        begins = (so_far.text, (so_far.read ++ hears.read, (so_far.spells, refl, begins)));
        whole = none;
      };
      counted = omega (arith, so_far.counted, ends.messages);
      turns = TurnsOf-left terms (so_far.first ∷ so_far.messages) so_far.acts so_far.turned;
      gains = Gains-join out.past mid.past out'.past so_far.acts last so_far.gains ends.leave.gains;
      news = record { turns = so_far.acts; mid = mid.past; tells = so_far.news; leaves = ends.leave.gains; parts = refl };
      wrote = subst (Appends out.written out'.written) same
          (Appends-trans out.written mid.written out'.written (hello ++ before) [] so_far.wrote ends.leave.wrote);
    }

-- one turn more
pub running_on : (terms : TermsState) (worker : ℕ) (out : Surroundings) (now : SessionState) (mid : Surroundings) (new : SessionState)
    (out' : Surroundings) →
    Running terms worker out now mid → GoesOn now mid new out' → Running terms worker out new out'
running_on terms worker out now mid new out' running go =
    elim running [
      | inl fresh ↦
          inr (so_far_first terms worker out now mid new out' fresh (subst (λ (state : SessionState). GoesOn state mid new out') fresh.state go))
      | inr so_far ↦ inr (so_far_more terms worker out now mid new out' so_far go)
    ]

-- a session that runs hasn't ended
pub unended : (terms : TermsState) (worker : ℕ) (out : Surroundings) (now : SessionState) (mid : Surroundings) → Running terms worker out now mid →
    now.outcome ≡ None
unended terms worker out now mid running =
    elim running [ inl fresh ↦ ap (λ (state : SessionState). state.outcome) fresh.state | inr so_far ↦ so_far.unended ]

-- the last turn
pub running_ends : (end : End) (terms : TermsState) (worker : ℕ) (out : Surroundings) (now : SessionState) (mid : Surroundings) (has_ended : Bool)
    (new : SessionState) (out' : Surroundings) →
    Running terms worker out now mid → (now.outcome ≡ None → Ends end now mid has_ended new out') → IsWhole end terms worker out out'
running_ends end terms worker out now mid has_ended new out' running ends =
    let ended = ends (unended terms worker out now mid running) in
    elim running [
      | inl fresh ↦
          let joined : false ≡ true = sym (ap (λ (state : SessionState). state.joined) fresh.state) ∙ ended.joined in
          absurd cc
      | inr so_far ↦ so_far_ends end terms worker out now mid has_ended new out' so_far ended
    ]

-- the turn that broke off
pub running_fails : (fault : SessionFault) (terms : TermsState) (worker : ℕ) (out : Surroundings) (now : SessionState) (mid : Surroundings)
    (source : SourceState) (new : SessionState) (out' : Surroundings) →
    Running terms worker out now mid → (now.outcome ≡ None → FailsWith fault now mid source new out') →
    IsCutShort fault terms worker out source out'
running_fails fault terms worker out now mid source new out' running fails =
    record { now = now; mid = mid; new = new; turns = running; fails = fails (unended terms worker out now mid running) }
