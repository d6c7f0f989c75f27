-- The rows of the peers beside the pieces that they show: what is read of both, and what a change of one leaves of the other.
use Rattle.std.proofs.Common.{◌≡◌, ℕ, zero, suc, ◌<◌, Bool, true, false, List, [], ◌∷◌, length, get_or, set, replicate, refl, ap, sym, ◌∙◌, arith, ⊎_elim}
use Rattle.std.proofs.lemmas.Bool.{cases_eq, true≢false}
use Rattle.std.proofs.lemmas.List.{get_or-set_other, get_or-set_same, length-set}
use Rattle.bt_history.specs.Counting.{table}
use Rattle.bt_tables.specs.declared.peer.Dealing.{Dealing}
use Rattle.bt_tables.specs.declared.peer.Dealing.TheVariants.{Choke, Heard}
use Rattle.bt_tables.specs.Showing.{ArePeers, Dealings, dealings, flags_at, showing, showing_rows, noted}
use Rattle.bt_tables.specs.Tables.{PeerState, edit, fresh_peer, peer_row, noted_row}
use Rattle.bt_tables.proofs.Tabled.{edit_none, get_or_table, length_table, table_from}

pub length_showing : (rows : List Dealings) (shows : List (List Bool)) → length shows ≡ length rows
    → length (showing_rows rows shows) ≡ length shows
length_showing [] [] len = refl
length_showing [] (flags ∷ shows) len = absurd (omega arith)
length_showing (row ∷ rows) [] len = refl
length_showing (row ∷ rows) (flags ∷ shows) len = ap suc (length_showing rows shows (omega arith))

pub showing_at : (rows : List Dealings) (shows : List (List Bool)) (w : ℕ) (d : Dealings) (e : PeerState) → length shows ≡ length rows
    → w < length rows → get_or (showing_rows rows shows) w e ≡ showing (flags_at shows w) (get_or rows w d)
showing_at [] shows w d e len lw = absurd (omega arith)
showing_at (row ∷ rows) [] w d e len lw = absurd (omega arith)
showing_at (row ∷ rows) (flags ∷ shows) zero d e len lw = refl
showing_at (row ∷ rows) (flags ∷ shows) (suc w) d e len lw = showing_at rows shows w d e (omega arith) (omega arith)

-- a row as it is read
pub row_of : (rows : List Dealings) (shows : List (List Bool)) (w : ℕ) (row : Dealings) → length shows ≡ length rows → w < length rows
    → row ≡ get_or rows w row → row ≡ dealings (peer_row (showing_rows rows shows) w)
row_of rows shows w row len lw read = read ∙ sym (ap dealings (showing_at rows shows w row (fresh_peer 0 0) len lw))

-- the pieces that the peer shows
pub flags_of_row : (rows : List Dealings) (shows : List (List Bool)) (w : ℕ) → length shows ≡ length rows → w < length rows
    → (peer_row (showing_rows rows shows) w).shows ≡ flags_at shows w
flags_of_row rows shows w len lw =
    ap (λ (row : PeerState). row.shows) (showing_at rows shows w (dealings (fresh_peer 0 0)) (fresh_peer 0 0) len lw)

-- a row and its flags change
pub showing_edit : (rows : List Dealings) (shows : List (List Bool)) (w : ℕ) (row : Dealings) (g : Dealings → Dealings)
    (f : List Bool → List Bool) (change : PeerState → PeerState) → length shows ≡ length rows → w < length rows → row ≡ get_or rows w row
    → ((flags : List Bool) (r : Dealings) → showing (f flags) (g r) ≡ change (showing flags r))
    → showing_rows (set rows w (g row)) (edit shows w f) ≡ edit (showing_rows rows shows) w change
showing_edit [] shows w row g f change len lw read is = absurd (omega arith)
showing_edit (r ∷ rows) [] w row g f change len lw read is = absurd (omega arith)
showing_edit (r ∷ rows) (flags ∷ shows) zero row g f change len lw read is =
    ap (λ (x : Dealings). showing (f flags) (g x) ∷ showing_rows rows shows) read
    ∙ ap (λ (x : PeerState). x ∷ showing_rows rows shows) (is flags r)
showing_edit (r ∷ rows) (flags ∷ shows) (suc w) row g f change len lw read is =
    ap (λ (l : List PeerState). showing flags r ∷ l) (showing_edit rows shows w row g f change (omega arith) (omega arith) read is)

-- a row alone changes
pub showing_set : (rows : List Dealings) (shows : List (List Bool)) (w : ℕ) (row : Dealings) (g : Dealings → Dealings)
    (change : PeerState → PeerState) → length shows ≡ length rows → w < length rows → row ≡ get_or rows w row
    → ((flags : List Bool) (r : Dealings) → showing flags (g r) ≡ change (showing flags r))
    → showing_rows (set rows w (g row)) shows ≡ edit (showing_rows rows shows) w change
showing_set rows shows w row g change len lw read is =
    ap (showing_rows (set rows w (g row))) (sym (edit_none shows w (λ flags. flags) (λ flags. refl)))
    ∙ showing_edit rows shows w row g (λ flags. flags) change len lw read is

-- peers that told nothing
pub showing_fresh : (n room pieces : ℕ) (rows : List Dealings) (shows : List (List Bool)) → rows ≡ table n (λ w. dealings (fresh_peer room 0))
    → shows ≡ table n (λ w. replicate pieces false) → showing_rows rows shows ≡ table n (λ w. fresh_peer room pieces)
showing_fresh n room pieces rows shows is are =
    let long : length rows ≡ n = ap length is ∙ length_table n (λ w. dealings (fresh_peer room 0)) in
    let wide : length shows ≡ n = ap length are ∙ length_table n (λ w. replicate pieces false) in
    let same : length shows ≡ length rows = wide ∙ sym long in
    table_from n (λ w. fresh_peer room pieces) (showing_rows rows shows) (length_showing rows shows same ∙ wide) (λ k d lt.
    showing_at rows shows k (dealings (fresh_peer room 0)) d same (omega (arith, long, lt))
    ∙ (ap (λ (l : List Dealings). showing (flags_at shows k) (get_or l k (dealings (fresh_peer room 0)))) is
    ∙ ap (λ (r : Dealings). showing (flags_at shows k) r) (get_or_table n (λ w. dealings (fresh_peer room 0)) k (dealings (fresh_peer room 0)) lt)
    ∙ ap (λ (l : List (List Bool)). showing (flags_at l k) (dealings (fresh_peer room 0))) are
    ∙ ap (λ (flags : List Bool). showing flags (dealings (fresh_peer room 0))) (get_or_table n (λ w. replicate pieces false) k [] lt)))

-- what a call that names a worker knows
pub worker_within : (rows : List Dealings) (shows : List (List Bool)) (peers : List PeerState) (w : ℕ) → showing_rows rows shows ≡ peers
    → length shows ≡ length rows → w < length peers → w < length rows
worker_within rows shows peers w is len lw = omega (arith, lw, len, ap length is, length_showing rows shows len)

-- what each row tells, and the row that takes the place of one of them, each of the new rows tells
each_kept : {A : Type 0} (f : Dealings → A) (value : A) (rows : List Dealings) (w : ℕ) (row now : Dealings) → w < length rows → row ≡ get_or rows w row
    → ((v : ℕ) (d : Dealings) → v < length rows → f (get_or rows v d) ≡ value) → (f row ≡ value → f now ≡ value)
    → (v : ℕ) (d : Dealings) → v < length (set rows w now) → f (get_or (set rows w now) v d) ≡ value
each_kept f value rows w row now lw read each stays v d lv = ⊎_elim
    (λ (here : v ≡ w).
    ap (λ (k : ℕ). f (get_or (set rows w now) k d)) here
    ∙ (ap f (get_or-set_same rows w now d lw) ∙ stays (ap f read ∙ each w row lw)))
    (λ (apart : v ≡ w → ⊥). ap f (get_or-set_other rows w v now d apart) ∙ each v d (omega (arith, lv, length-set rows w now)))
    (cases_eq v w)

-- peers of which one that was late with nothing isn't late now, either, nor does one work alone that didn't
pub peers_kept : (rows : List Dealings) (shows after : List (List Bool)) (delayed apart : Bool) (w : ℕ) (row now : Dealings)
    → ArePeers rows shows delayed apart → length after ≡ length shows → w < length rows → row ≡ get_or rows w row
    → (row.overdue ≡ [] → now.overdue ≡ []) → (row.alone ≡ false → now.alone ≡ false) → ArePeers (set rows w now) after delayed apart
peers_kept rows shows after delayed apart w row now are len lw read prompt_on together_on = record {
  each = len ∙ (are.each ∙ sym (length-set rows w now));
  prompt = λ never. each_kept (λ r. r.overdue) [] rows w row now lw read (are.prompt never) prompt_on;
  together = λ never. each_kept (λ r. r.alone) false rows w row now lw read (are.together never) together_on;
}

-- peers that one was told to be late of
pub peers_delayed : (rows : List Dealings) (shows : List (List Bool)) (delayed apart : Bool) (w : ℕ) (row now : Dealings)
    → ArePeers rows shows delayed apart → w < length rows → row ≡ get_or rows w row → (row.alone ≡ false → now.alone ≡ false)
    → ArePeers (set rows w now) shows true apart
peers_delayed rows shows delayed apart w row now are lw read together_on = record {
  each = are.each ∙ sym (length-set rows w now);
  prompt = λ never. absurd (true≢false never);
  together = λ never. each_kept (λ r. r.alone) false rows w row now lw read (are.together never) together_on;
}

-- and peers that one was told to work alone of
pub peers_parted : (rows : List Dealings) (shows : List (List Bool)) (delayed apart : Bool) (w : ℕ) (row now : Dealings)
    → ArePeers rows shows delayed apart → w < length rows → row ≡ get_or rows w row → (row.overdue ≡ [] → now.overdue ≡ [])
    → ArePeers (set rows w now) shows delayed true
peers_parted rows shows delayed apart w row now are lw read prompt_on = record {
  each = are.each ∙ sym (length-set rows w now);
  prompt = λ never. each_kept (λ r. r.overdue) [] rows w row now lw read (are.prompt never) prompt_on;
  together = λ never. absurd (true≢false never);
}

-- the row of a peer, where nobody was told to be late
pub row_prompt : (rows : List Dealings) (shows : List (List Bool)) (delayed apart : Bool) (w : ℕ) → ArePeers rows shows delayed apart
    → delayed ≡ false → w < length rows → (peer_row (showing_rows rows shows) w).overdue ≡ []
row_prompt rows shows delayed apart w are never lw =
    ap (λ (row : PeerState). row.overdue) (showing_at rows shows w (dealings (fresh_peer 0 0)) (fresh_peer 0 0) are.each lw)
    ∙ are.prompt never w (dealings (fresh_peer 0 0)) lw

-- and where nobody was told to work alone
pub row_together : (rows : List Dealings) (shows : List (List Bool)) (delayed apart : Bool) (w : ℕ) → ArePeers rows shows delayed apart
    → apart ≡ false → w < length rows → (peer_row (showing_rows rows shows) w).alone ≡ false
row_together rows shows delayed apart w are never lw =
    ap (λ (row : PeerState). row.alone) (showing_at rows shows w (dealings (fresh_peer 0 0)) (fresh_peer 0 0) are.each lw)
    ∙ are.together never w (dealings (fresh_peer 0 0)) lw

-- what comes to pass with a peer makes it late with nothing
pub noted_prompt : (dealing : Dealing) (row : Dealings) → row.overdue ≡ [] → (noted dealing row).overdue ≡ []
noted_prompt Choke row none = refl
noted_prompt dealing row none = none

-- and leaves whether it works alone
pub noted_together : (dealing : Dealing) (row : Dealings) → (noted dealing row).alone ≡ row.alone
noted_together Heard row = refl
noted_together dealing row = refl

-- so the rows of all peers stay such
pub peers_noted : (rows : List Dealings) (shows : List (List Bool)) (delayed apart : Bool) (w : ℕ) (row now : Dealings) (dealing : Dealing)
    → ArePeers rows shows delayed apart → w < length rows → row ≡ get_or rows w row → now ≡ noted dealing row
    → ArePeers (set rows w now) shows delayed apart
peers_noted rows shows delayed apart w row now dealing are lw read is =
    peers_kept rows shows shows delayed apart w row now are refl lw read
    (λ none. ap (λ (r : Dealings). r.overdue) is ∙ noted_prompt dealing row none)
    (λ none. ap (λ (r : Dealings). r.alone) is ∙ (noted_together dealing row ∙ none))

-- what comes to pass with a peer leaves what it shows
pub noted_shown : (dealing : Dealing) (flags : List Bool) (row : Dealings) → showing flags (noted dealing row) ≡ noted_row dealing (showing flags row)
noted_shown Heard flags row = refl
noted_shown dealing flags row = refl

pub noted_shows : (dealing : Dealing) (row : PeerState) → (noted_row dealing row).shows ≡ row.shows
noted_shows Heard row = refl
noted_shows dealing row = refl
