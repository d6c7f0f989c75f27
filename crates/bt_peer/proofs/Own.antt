-- A session's turn at a desk, as far as the session sees it: without what was lent, and without other workers' calls.
use Rattle.std.proofs.Common.{◌≡◌, ℕ, Bool, false, List, [], ◌∷◌, refl, sym, ap, subst, ◌∙◌, arith}
use Rattle.std.specs.Prelude.{◌==◌, if◌then◌else◌}
use Rattle.std.proofs.lemmas.Bool.Decides.{nat_tests}
use Rattle.std.specs.Borrow.{GName}
use Rattle.bt_wire.specs.declared.message.Message.{Message}
use Rattle.bt_wire.specs.declared.message.Message.TheVariants as messages
use Rattle.bt_history.specs.declared.call.Reply.{Reply}
use Rattle.bt_history.specs.declared.event.Action.{Action}
use Rattle.bt_picker.specs.Positions.{DeskState}
use Rattle.bt_peer.specs.declared.fault.End.{End}
use Rattle.bt_peer.specs.declared.fault.SessionFault.{SessionFault}
use Rattle.bt_peer.specs.Desks.{calls_in, desk_record}
use Rattle.bt_peer.specs.Acts.{Act}
use Rattle.bt_peer.specs.Reader.{SourceState}
use Rattle.bt_peer.specs.Places.{PlaceRecord, Gains, GainsUpTo}
use Rattle.bt_peer.specs.Sessions.{SessionState, GoesOn, Ends, FailsWith}
use Rattle.bt_peer.specs.Course.{LeavesOthers}
use Rattle.bt_peer.specs.SessionTerms.{TermsState}
use Rattle.bt_peer.specs.Steps.{Reading, Surroundings, TakesTurn, TellsNews, AsksForNews}

abbrev pub own : PlaceRecord → PlaceRecord
own place = record place { lent = []; others = λ other. []; in_order = [] }

abbrev pub own_around : Surroundings → Surroundings
own_around out = record out { past = own out.past }

own_up_to : (a b : PlaceRecord) (acts : List Act) → GainsUpTo a acts b → GainsUpTo (own a) acts (own b)
own_up_to a b acts gains = record {
  lent = refl;
  worker = gains.worker;
  setting = gains.setting;
  calls = gains.calls;
  others = λ worker. refl;
  had = gains.had;
  in_order = ([], refl);
  told = gains.told;
  finished = gains.finished;
}

own_gains : (a b : PlaceRecord) (acts : List Act) → Gains a acts b → Gains (own a) acts (own b)
own_gains a b acts gains = record { up_to = own_up_to a b acts gains.up_to; lacked = gains.lacked }

own_news : (pieces : ℕ) (old : PlaceRecord) (acts : List Act) (new : PlaceRecord) → TellsNews pieces old acts new →
    TellsNews pieces (own old) acts (own new)
own_news pieces old acts new tells = record {
  opening = tells.opening;
  news = tells.news;
  asking = tells.asking;
  parts = tells.parts;
  mid = own tells.mid;
  before = own_gains old tells.mid _ tells.before;
  after = own_gains tells.mid new tells.asking tells.after;
  told = tells.told;
}

own_asks : (pieces : ℕ) (m : Message) (old : PlaceRecord) (acts : List Act) (new : PlaceRecord) →
    AsksForNews pieces m old acts new → AsksForNews pieces m (own old) acts (own new)
own_asks pieces (messages.Hello hello) old acts new asks = tt
own_asks pieces _ old acts new asks = own_news pieces old acts new asks

own_turn : (terms : TermsState) (greeting : List ℕ) (old : Reading) (out : Surroundings) (new : Reading) (out' : Surroundings) →
    TakesTurn terms greeting old out new out' → TakesTurn terms greeting old (own_around out) new (own_around out')
own_turn terms greeting old out new out' turn = record {
  message = turn.message;
  acts = turn.acts;
  hears = turn.hears;
  same_torrent = turn.same_torrent;
  turn = turn.turn;
  accepted = turn.accepted;
  gains = own_gains out.past out'.past turn.acts turn.gains;
  news = own_asks _ turn.message out.past turn.acts out'.past turn.news;
  wrote = turn.wrote;
  interest = turn.interest;
}

pub own_goes_on : (old : SessionState) (out : Surroundings) (new : SessionState) (out' : Surroundings) →
    GoesOn old out new out' → GoesOn old (own_around out) new (own_around out')
own_goes_on old out new out' go = record {
  fresh = go.fresh;
  keeps = go.keeps;
  turn = own_turn _ _ _ out _ out' go.turn;
  joined = go.joined;
  messages = go.messages;
  unended = go.unended;
}

pub own_ends : (end : End) (old : SessionState) (out : Surroundings) (has_ended : Bool) (new : SessionState) (out' : Surroundings) →
    Ends end old out has_ended new out' → Ends end old (own_around out) has_ended new (own_around out')
own_ends end old out has_ended new out' ends = record {
  joined = ends.joined;
  leave = record {
    hears = ends.leave.hears;
    empty = ends.leave.empty;
    gains = own_gains out.past out'.past _ ends.leave.gains;
    wrote = ends.leave.wrote;
  };
  messages = ends.messages;
  outcome = ends.outcome;
}

pub own_fails : (fault : SessionFault) (old : SessionState) (out : Surroundings) (source : SourceState) (new : SessionState) (out' : Surroundings) →
    FailsWith fault old out source new out' → FailsWith fault old (own_around out) source new (own_around out')
own_fails fault old out source new out' fails = record {
  acts = fails.acts;
  leave = fails.leave;
  gains = own_up_to out.past out'.past _ fails.gains;
  departs = fails.departs;
  wrote = fails.wrote;
  cause = fails.cause;
  outcome = fails.outcome;
}

-- what a worker gained at a desk leaves the others alone
pub others_left : (lent lent' : List GName) (old new : DeskState) (worker worker' : ℕ) (told told' : List Bool) (lacked lacked' : Bool)
    (acts : List Act) →
    GainsUpTo (desk_record lent old worker told lacked) acts (desk_record lent' new worker' told' lacked') → LeavesOthers worker old new
others_left lent lent' old new worker worker' told told' lacked lacked' acts gains = record {
  setting = gains.setting;
  calls = λ other. λ apart.
      let same = gains.worker in
      let differs : (other == worker) ≡ false = grind (arith, nat_tests) in
      let differs' : (other == worker') ≡ false = ap (λ (w : ℕ). other == w) same ∙ differs in
      let nothing : List (Action × Reply) = [] in
      sym (ap (λ (b : Bool). if b then nothing else calls_in new.history other) differs')
      ∙ gains.others other
      ∙ ap (λ (b : Bool). if b then nothing else calls_in old.history other) differs;
  had = gains.had;
  in_order = gains.in_order;
}

-- two names that stand first
pub first_name : (a b c d : GName) → a ∷ (b ∷ []) ≡ c ∷ (d ∷ []) → a ≡ c
first_name a b c d same = cc

pub others_left_at : (worker : ℕ) (old new new' : DeskState) → new' ≡ new → LeavesOthers worker old new → LeavesOthers worker old new'
others_left_at worker old new new' same left = subst (LeavesOthers worker old) (sym same) left
