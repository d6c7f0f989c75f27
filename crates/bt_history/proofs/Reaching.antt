-- What holds of the reach of a peer.
use Rattle.std.proofs.Common.{◌≡◌, ℕ, ◌≤◌, Bool, true, false, not, ◌&&◌, [], ◌∷◌, None, Some, refl, ap, ◌∙◌, ⊎_elim, subst}
use Rattle.std.specs.Prelude.{if◌then◌else◌, ◌==◌, nat_le, nat_lt}
use Rattle.std.proofs.lemmas.Bool.{and_parts, le-leb, leb-true, not-true}
use Rattle.std.proofs.Math.Bool.{and-true}
use Rattle.bt_meta.specs.declared.block.Block.{Block}
use Rattle.bt_history.specs.declared.call.Reply.TheVariants.{Request}
use Rattle.bt_history.specs.declared.event.Action.{Action}
use Rattle.bt_history.specs.declared.event.Action.TheVariants.{Reach}
use Rattle.bt_history.specs.declared.event.Event.{Event}
use Rattle.bt_history.specs.declared.rules.TheConstants.{MOST_LEVEL}
use Rattle.bt_history.specs.Setting.{Setting, some_block}
use Rattle.bt_history.specs.History.{History, counts, own_call}
use Rattle.bt_history.specs.Peers.{asked, overdue, reach, reach_after, shows}
use Rattle.bt_history.specs.Pieces.{asker_count, endgame, gives, held, level, unasked, wanted}
use Rattle.bt_history.specs.Next.{Answer, usable, tops, continues, starts, rises, doubles, rushes}
use Rattle.bt_history.specs.Before.{doubles_unreached, is_reach, never_reaches, usable_unreached}
use Rattle.bt_history.specs.Legal.{IsAllowed, Permits}
use Rattle.bt_history.proofs.Allowed.{request_next, top_usable}
use Rattle.bt_history.proofs.NextCases.{next_is, next_request}
use Rattle.bt_history.specs.Pieces.{is_free_for}

-- ---- where none is told

reach_same : (call : Action) (x : Bool) → is_reach call ≡ false → reach_after (if x then Some call else None) MOST_LEVEL ≡ MOST_LEVEL
reach_same call false isnt = refl
reach_same (Reach n) true isnt = absurd (cc isnt)
reach_same call true isnt = refl

-- each peer's reach is full
pub reach_full : (h : History) (q : ℕ) → never_reaches h ≡ true → reach h q ≡ MOST_LEVEL
unfolding reach never_reaches
reach_full [] q never = refl
reach_full (e ∷ h) q never =
    let parts = and_parts (not (is_reach e.action)) (never_reaches h) never in
    ap (reach_after (own_call q e)) (reach_full h q parts.1)
    ∙ reach_same e.action (counts e.reply && (e.worker == q)) (not-true (is_reach e.action) parts.0)

-- and a peer may be asked for what it shows
pub gives_full : (h : History) (q p : ℕ) → never_reaches h ≡ true → level h p ≤ MOST_LEVEL → gives h q p ≡ shows h q p
gives_full h q p never most =
    ap (λ (n : ℕ). shows h q p && nat_le (level h p) n) (reach_full h q never)
    ∙ ap (λ (x : Bool). shows h q p && x) (le-leb (level h p) MOST_LEVEL most) ∙ and-true (shows h q p)

module _ (s : Setting) (h : History) (q : ℕ) (b : Block) (never : never_reaches h ≡ true) (most : level h b.piece ≤ MOST_LEVEL) where
  pub usable_full : usable s h q b ≡ usable_unreached s h q b
  usable_full = ap (λ (x : Bool). unasked s h b && (wanted s h b.piece && (x && (not (overdue h q b) && is_free_for s h q b.piece)))) (gives_full h q b.piece never most)

  pub doubles_full : doubles s h q b ≡ doubles_unreached s h q b
  doubles_full = ap (λ (x : Bool). wanted s h b.piece && (x
      && (not (held h b) && (nat_lt (asker_count s h b) s.askers && not (asked h q b))))) (gives_full h q b.piece never most)

-- ---- where one is

module _ (s : Setting) (h : History) (q : ℕ) (b : Block) where
  given_near : gives h q b.piece ≡ true → level h b.piece ≤ reach h q
  given_near is = leb-true (level h b.piece) (reach h q) (and_parts (shows h q b.piece) (nat_le (level h b.piece) (reach h q)) is).1

  top_near : tops s h q b ≡ true → level h b.piece ≤ reach h q
  top_near top = given_near
      (and_parts (gives h q b.piece) _ (and_parts (wanted s h b.piece) _ (and_parts (unasked s h b) _ (top_usable s h q b top)).1).1).0

-- no block is asked for beyond the reach
pub request_reached : (s : Setting) (h : History) (e : Event) (b : Block) → IsAllowed s h e → e.reply ≡ Request b
    → level h b.piece ≤ reach h e.worker
request_reached s h e b allowed is = ⊎_elim
    (λ (up : rises s h q b ≡ true). top_near s h q b (and_parts (tops s h q b) _ up).0)
    (λ others. ⊎_elim
    (λ (on : continues s h q b ≡ true). top_near s h q b (and_parts (tops s h q b) _ on).0)
    (λ rest. ⊎_elim
    (λ (first : starts s h q b ≡ true). top_near s h q b (and_parts (tops s h q b) _ first).0)
    (λ (both : ((rushes s h q && (endgame s h && some_block s.torrent (doubles s h q))) ≡ true) × (doubles s h q b ≡ true)).
    given_near s h q b (and_parts (gives h q b.piece) _ (and_parts (wanted s h b.piece) _ both.1).1).0)
    rest)
    others)
    (next_request s.torrent _ _ _ _ _ _ _ _ _ _ _ _ _ b
    (subst (λ (a : Answer). Permits s.torrent a (Request b)) (next_is s h q) (request_next s h e b allowed is))).kind
  where
    q : ℕ
    q = e.worker
