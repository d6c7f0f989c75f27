-- What any other peer is answered after a request was told late: what it is answered after a release.
use Rattle.std.proofs.Common.{◌≡◌, ℕ, ◌==◌, Bool, true, false, not, ◌&&◌, ◌||◌, ◌∷◌, Option, refl, ap, sym, ◌∙◌}
use Rattle.std.specs.Prelude.{if◌then◌else◌, nat_le, nat_lt, unwrap_or}
use Rattle.bt_meta.specs.declared.block.Block.{Block}
use Rattle.bt_meta.specs.Layout.{piece_count}
use Rattle.bt_history.specs.declared.call.Reply.TheVariants.{Quiet, Choked, PipeFull, Idle, NothingLeft}
use Rattle.bt_history.specs.declared.event.Action.TheVariants.{Late, Release}
use Rattle.bt_history.specs.Counting.{all_below, any_below, count_below}
use Rattle.bt_history.specs.Entries.{delaying, giving_up}
use Rattle.bt_history.specs.Setting.{Setting, count_blocks, each_block, each_block_of, some_block, some_block_of}
use Rattle.bt_history.specs.History.{History, same_begin}
use Rattle.bt_history.specs.Legal.{place_at}
use Rattle.bt_history.specs.Next.{CancelOf, Exactly, RequestOf, continues, doubles, goes_first, is_candidate, is_rarest, is_strict, next_answer}
use Rattle.bt_history.specs.Next.{none_rarer, resumes, rises, starts, tops, tops_in_order, usable}
use Rattle.bt_history.specs.Peers.{asked, asked_count, depth_of, due, expected, is_open, joined}
use Rattle.bt_history.specs.Peers.{overdue, reach, shows, told_depth}
use Rattle.bt_history.specs.Pieces.{asker_count, availability, awaited, begun, endgame, had, had_count, held, held_or_asked, interesting}
use Rattle.bt_history.specs.Pieces.{is_open_piece, kept, level, offers, order_from, unbegun, wanted}
use Rattle.bt_history.proofs.TakingBack.{Stays, asked_delayed, asked_released, overdue_delayed, overdue_released, shows_on, stays}
use Rattle.bt_history.specs.Peers.{alone}
use Rattle.bt_history.specs.Pieces.{is_free_for, is_own, is_peer, is_sole, sender}

module _ (h : History) (w p begin q : ℕ) where
  -- what both leave of the peer
  kept_by_late : Stays h q (w == q) (Late p begin)
  kept_by_late = stays h q (w == q) (Late p begin) refl

  kept_by_release : Stays h q (w == q) (Release p begin)
  kept_by_release = stays h q (w == q) (Release p begin) refl

  -- what is late is expected no more than what is released
  pub expected_alike : (b : Block) → expected (delaying w p begin Quiet ∷ h) q b ≡ expected (giving_up w p begin Quiet ∷ h) q b
  expected_alike b =
      (λ i. asked_delayed h w p begin q b i && not (overdue_delayed h w p begin q b i))
      ∙ by_worker (w == q) (same_begin (place_at p begin) b) (asked h q b) (overdue h q b)
      ∙ sym (λ i. asked_released h w p begin q b i && not (overdue_released h w p begin q b i))
    where
      by_worker : (x y asks was : Bool) → (asks && not ((x && (y && asks)) || was)) ≡ ((not (x && y) && asks) && not (not (x && y) && was))
      by_worker true true true was = refl
      by_worker true true false was = refl
      by_worker true false true was = refl
      by_worker true false false was = refl
      by_worker false y true was = refl
      by_worker false y false was = refl

  pub shows_alike : (r : ℕ) → shows (delaying w p begin Quiet ∷ h) q r ≡ shows (giving_up w p begin Quiet ∷ h) q r
  unfolding shows
  shows_alike r = shows_on (w == q) (Late p begin) r _ refl ∙ sym (shows_on (w == q) (Release p begin) r _ refl)

  pub joined_alike : joined (delaying w p begin Quiet ∷ h) q ≡ joined (giving_up w p begin Quiet ∷ h) q
  unfolding joined
  joined_alike = kept_by_late.joined ∙ sym kept_by_release.joined

-- ---- what another peer is answered

module _ (s : Setting) (h : History) (w p begin q : ℕ) (apart : (w == q) ≡ false) where
  abbrev one : History
  one = delaying w p begin Quiet ∷ h

  abbrev two : History
  two = giving_up w p begin Quiet ∷ h

  asked_same : (b : Block) → asked one q b ≡ asked two q b
  asked_same b = asked_delayed h w p begin q b ∙ sym (asked_released h w p begin q b
      ∙ ap (λ (x : Bool). not (x && same_begin (place_at p begin) b) && asked h q b) apart)

  overdue_same : (b : Block) → overdue one q b ≡ overdue two q b
  overdue_same b =
      overdue_delayed h w p begin q b
      ∙ ap (λ (x : Bool). (x && (same_begin (place_at p begin) b && asked h q b)) || overdue h q b) apart
      ∙ sym (overdue_released h w p begin q b
      ∙ ap (λ (x : Bool). not (x && same_begin (place_at p begin) b) && overdue h q b) apart)

  due_same : (b : Block) → due one q b ≡ due two q b
  unfolding due
  due_same b = (kept_by_late h w p begin q).due b ∙ sym ((kept_by_release h w p begin q).due b)

  reach_same : reach one q ≡ reach two q
  unfolding reach
  reach_same = (kept_by_late h w p begin q).reach ∙ sym (kept_by_release h w p begin q).reach

  depth_same : depth_of s one q ≡ depth_of s two q
  unfolding told_depth
  depth_same = ap (λ (o : Option ℕ). unwrap_or o s.depth) ((kept_by_late h w p begin q).depth ∙ sym (kept_by_release h w p begin q).depth)

  count_same : asked_count s one q ≡ asked_count s two q
  count_same = λ i. count_blocks s.torrent (λ b. asked_same b i)

  held_same : (b : Block) → held one b ≡ held two b
  unfolding kept
  held_same b = refl

  had_same : (r : ℕ) → had one r ≡ had two r
  unfolding had
  had_same r = refl

  level_same : (r : ℕ) → level one r ≡ level two r
  unfolding level
  level_same r = refl

  order_same : order_from one ≡ order_from two
  unfolding order_from
  order_same = refl

  touched_same : (b : Block) → held_or_asked s one b ≡ held_or_asked s two b
  touched_same b = λ i. held_same b i || any_below s.workers (λ r. expected_alike h w p begin r b i)

  askers_same : (b : Block) → asker_count s one b ≡ asker_count s two b
  askers_same b = λ i. count_below s.workers (λ r. expected_alike h w p begin r b i)

  wanted_same : (r : ℕ) → wanted s one r ≡ wanted s two r
  wanted_same r = λ i. nat_lt r (piece_count s.torrent) && nat_lt 0 (level_same r i)

  available_same : (r : ℕ) → availability s one r ≡ availability s two r
  available_same r = λ i. count_below s.workers (λ v. joined_alike h w p begin v i && shows_alike h w p begin v r i)

  begun_same : (r : ℕ) → begun s one r ≡ begun s two r
  begun_same r = λ i. not (had_same r i) && some_block_of s.torrent r (λ b. touched_same b i)

  unbegun_same : (r : ℕ) → unbegun s one r ≡ unbegun s two r
  unbegun_same r = λ i. not (had_same r i) && not (some_block_of s.torrent r (λ b. touched_same b i))

  open_piece_same : (r : ℕ) → is_open_piece s one r ≡ is_open_piece s two r
  open_piece_same r = λ i. wanted_same r i && (begun_same r i && some_block_of s.torrent r (λ b. not (touched_same b i)))

  had_count_same : had_count s one ≡ had_count s two
  had_count_same = λ i. count_below (piece_count s.torrent) (λ r. had_same r i)

  strict_same : is_strict s one ≡ is_strict s two
  strict_same = λ i. nat_lt s.most_open (count_below (piece_count s.torrent) (λ r. open_piece_same r i)) || nat_lt (had_count_same i) s.random

  offers_same : (r : ℕ) → offers s one q r ≡ offers s two q r
  offers_same r = λ i. shows_alike h w p begin q r i && not (some_block_of s.torrent r (λ b. overdue_same b i)
      && each_block_of s.torrent r (λ b. touched_same b i || overdue_same b i))

  -- whose a piece is, of whichever peer
  alone_alike : (r : ℕ) → alone one r ≡ alone two r
  unfolding alone
  alone_alike r = (stays h r (w == r) (Late p begin) refl).alone ∙ sym (stays h r (w == r) (Release p begin) refl).alone

  open_alike : (r : ℕ) → is_open one r ≡ is_open two r
  unfolding is_open
  open_alike r = (stays h r (w == r) (Late p begin) refl).opened ∙ sym (stays h r (w == r) (Release p begin) refl).opened

  sender_same : (b : Block) → sender one b ≡ sender two b
  unfolding sender
  sender_same b = refl

  sole_same : (r v : ℕ) → is_sole s one r v ≡ is_sole s two r v
  sole_same r v = λ i. each_block_of s.torrent v (λ b. if held_same b i then is_peer (sender_same b i) r
      else all_below s.workers (λ u. not (expected_alike h w p begin u b i) || (u == r)))

  own_same : (r v : ℕ) → is_own s one r v ≡ is_own s two r v
  own_same r v = λ i. alone_alike r i && (open_alike r i && (begun_same v i && sole_same r v i))

  free_same : (r : ℕ) → is_free_for s one q r ≡ is_free_for s two q r
  free_same r = λ i. if alone_alike q i then sole_same q r i else not (any_below s.workers (λ v. own_same v r i))

  usable_same : (b : Block) → usable s one q b ≡ usable s two q b
  usable_same b = λ i. not (touched_same b i) && (wanted_same b.piece i
      && ((shows_alike h w p begin q b.piece i && nat_le (level_same b.piece i) (reach_same i))
      && (not (overdue_same b i) && free_same b.piece i)))

  tops_same : (b : Block) → tops s one q b ≡ tops s two q b
  tops_same b = λ i. usable_same b i
      && each_block s.torrent (λ c. not (usable_same c i) || nat_le (level_same c.piece i) (level_same b.piece i))

  ordered_same : (b : Block) → tops_in_order s one q b ≡ tops_in_order s two q b
  ordered_same b = λ i. tops_same b i && nat_le (order_same i) (level_same b.piece i)

  rises_same : (b : Block) → rises s one q b ≡ rises s two q b
  rises_same b = λ i. tops_same b i && each_block s.torrent (λ c. not (tops_same c i) || nat_le b.piece c.piece)

  rarer_same : (f g : ℕ → Bool) → ((r : ℕ) → f r ≡ g r) → (r : ℕ) → none_rarer s one f r ≡ none_rarer s two g r
  rarer_same f g same r = λ i. all_below (piece_count s.torrent) (λ v.
      not (same v i && (level_same v i == level_same r i)) || nat_le (available_same r i) (available_same v i))

  resumes_same : (r : ℕ) → resumes s one q r ≡ resumes s two q r
  resumes_same r = λ i. open_piece_same r i && (offers_same r i && free_same r i)

  candidate_same : (r : ℕ) → is_candidate s one q r ≡ is_candidate s two q r
  candidate_same r = λ i. wanted_same r i && (offers_same r i && unbegun_same r i)

  rarest_same : (r : ℕ) → is_rarest s one q r ≡ is_rarest s two q r
  rarest_same = rarer_same (is_candidate s one q) (is_candidate s two q) candidate_same

  first_same : (r : ℕ) → goes_first s one q r ≡ goes_first s two q r
  first_same r = λ i. (s.most_open == 0)
      || (rarer_same (resumes s one q) (resumes s two q) resumes_same r i && (strict_same i || rarest_same r i))

  continues_same : (b : Block) → continues s one q b ≡ continues s two q b
  continues_same b = λ i. tops_same b i && (begun_same b.piece i && first_same b.piece i)

  starts_same : (b : Block) → starts s one q b ≡ starts s two q b
  starts_same b = λ i. tops_same b i && (unbegun_same b.piece i && (nat_lt (had_count_same i) s.random || rarest_same b.piece i))

  doubles_same : (b : Block) → doubles s one q b ≡ doubles s two q b
  doubles_same b = λ i. wanted_same b.piece i
      && ((shows_alike h w p begin q b.piece i && nat_le (level_same b.piece i) (reach_same i))
      && (not (held_same b i) && (nat_lt (askers_same b i) s.askers && not (asked_same b i))))

  awaited_same : (r : ℕ) → awaited s one r ≡ awaited s two r
  awaited_same r = λ i. wanted_same r i && (not s.shown || nat_lt 0 (available_same r i))

  endgame_same : endgame s one ≡ endgame s two
  endgame_same = λ i.
      each_block s.torrent (λ b. not (awaited_same b.piece i) || touched_same b i)
      && some_block s.torrent (λ b. wanted_same b.piece i && not (held_same b i))

  interesting_same : interesting s one q ≡ interesting s two q
  interesting_same = λ i. any_below (piece_count s.torrent) (λ r.
      wanted_same r i && (shows_alike h w p begin q r i && not (had_same r i)))

  pub answer_same : next_answer s one q ≡ next_answer s two q
  unfolding next_answer
  answer_same = λ i.
      if some_block s.torrent (λ b. due_same b i) then CancelOf (λ b. due_same b i)
      else if not (open_alike q i) then Exactly Choked
      else if nat_le (depth_same i) (count_same i) then Exactly PipeFull
      else if some_block s.torrent (λ b. ordered_same b i) then RequestOf (λ b. rises_same b i)
      else if some_block s.torrent (λ b. continues_same b i) then RequestOf (λ b. continues_same b i)
      else if some_block s.torrent (λ b. usable_same b i) then RequestOf (λ b. starts_same b i)
      else if nat_lt (count_same i) s.rush && (endgame_same i && some_block s.torrent (λ b. doubles_same b i)) then RequestOf (λ b. doubles_same b i)
      else if interesting_same i then Exactly Idle
      else Exactly NothingLeft
