-- The lines of a peer in a legal history: blocks of the torrent, none twice, and together no more than the depth.
use Rattle.std.proofs.Common.{◌≡◌, ◌⊎◌, ℕ, ◌==◌, ◌+◌, ◌*◌, ◌<◌, ◌≤◌, Bool, true, false, not, ◌&&◌, ◌||◌, List, [], ◌∷◌, ◌++◌, Option, None, Some}
use Rattle.std.proofs.Common.{length, refl, ap, sym, ◌∙◌, subst, arith, ⊎_elim, inl, inr, suc}
use Rattle.std.specs.Prelude.{is_some, is_none, if◌then◌else◌, max, nat_lt, unwrap_or}
use Rattle.std.specs.List.{filter}
use Rattle.std.proofs.lemmas.Bool.{and_parts, and_from, and_left, and_right, or_parts, or_from, or_left, eq-eqb, eqb-true, ne_eqb, cases_eq}
use Rattle.std.proofs.lemmas.Bool.{cases_Bool, ltb-true, lt-ltb, false≢true}
use Rattle.std.proofs.lemmas.List.{length-append}
use Rattle.std.proofs.Math.Nat.{le-max_left, le-max_right}
use Rattle.std.proofs.lemmas.List.Filters.{length-filter_both}
use Rattle.bt_meta.specs.declared.block.Block.{Block}
use Rattle.bt_meta.specs.Layout.{Layout, piece_count, block_count, block, block_size}
use Rattle.bt_history.specs.declared.call.Reply.{Reply}
use Rattle.bt_history.specs.declared.call.Reply.TheVariants.{Completed, InFlight, Request, Stored}
use Rattle.bt_history.specs.declared.event.Event.{Event}
use Rattle.bt_history.specs.Counting.{count_below}
use Rattle.bt_history.specs.Setting.{Setting, some_block, some_block_of, is_block, count_blocks}
use Rattle.bt_history.specs.History.{History, own_call, same_begin, stored, stores, requested, requested_by, cancelled}
use Rattle.bt_history.specs.Peers.{asked, asked_count, outstanding, has_place, AreApart, due, due_count, dues, resets, releases, lasts}
use Rattle.bt_history.specs.Peers.{told_depth, told_after, depth_of, depth_so_far}
use Rattle.bt_history.specs.Legal.{IsLegal}
use Rattle.bt_history.proofs.Below.{any_found, any_witness, count_at, count_same, count_none, sum_at, sum_same, sum_none, one_if}
use Rattle.bt_history.proofs.SameBegin.{same_begin_self, same_begin_sym}
use Rattle.bt_history.proofs.Lines.{any_append, asked_outstanding, due_dues, place_resized}
use Rattle.bt_history.proofs.Allowed.{request_facts}

-- ---- blocks of the torrent

pub block_is_block : (t : Layout) (p k : ℕ) → p < piece_count t → k < block_count t p → is_block t (block t p k) ≡ true
block_is_block t p k lt lk =
    let b = block t p k in
    and_from _ _ (lt-ltb p (piece_count t) lt) (any_found (block_count t p) (λ j. ((block t p j).begin == b.begin) && ((block t p j).len == b.len)) k
    lk
    (and_from (b.begin == b.begin) (b.len == b.len) (eq-eqb b.begin b.begin refl) (eq-eqb b.len b.len refl)))

-- which block of its piece a block of the torrent is
pub record IsBlockAt (t : Layout) (b : Block) : Type 0 where
  pub piece : b.piece < piece_count t
  pub index : ℕ
  pub within : index < block_count t b.piece
  pub is : b ≡ block t b.piece index

pub block_index : (t : Layout) (b : Block) → is_block t b ≡ true → IsBlockAt t b
block_index t b is =
    let parts = and_parts (nat_lt b.piece (piece_count t)) _ is in
    let found = any_witness (block_count t b.piece) (λ k. ((block t b.piece k).begin == b.begin) && ((block t b.piece k).len == b.len)) parts.1 in
    let c = block t b.piece found.0 in
    let same = and_parts (c.begin == b.begin) (c.len == b.len) found.2 in
    let begin : c.begin ≡ b.begin = eqb-true c.begin b.begin same.0 in
    let len : c.len ≡ b.len = eqb-true c.len b.len same.1 in
    record {
      piece = ltb-true b.piece (piece_count t) parts.0;
      index = found.0;
      within = found.1;
      is = (λ i. record { piece = b.piece; begin = sym begin i; len = sym len i });
    }

-- a block of the torrent that passes shows that some does
pub some_found : (t : Layout) (test : Block → Bool) (b : Block) → is_block t b ≡ true → test b ≡ true → some_block t test ≡ true
some_found t test b is passes =
    let at = block_index t b is in
    any_found (piece_count t) (λ p. some_block_of t p test) b.piece at.piece
    (any_found (block_count t b.piece) (λ k. test (block t b.piece k)) at.index at.within (ap test (sym at.is) ∙ passes))

-- each block of the list is one of the torrent
unfoldable pub AreBlocks : Layout → List Block → Type 0
AreBlocks t [] = Unit {0}
AreBlocks t (b ∷ bs) = (is_block t b ≡ true) × AreBlocks t bs

pub blocks_filter : (t : Layout) (test : Block → Bool) (bs : List Block) → AreBlocks t bs → AreBlocks t (filter test bs)
unfolding AreBlocks
blocks_filter t test [] are = tt
blocks_filter t test (b ∷ bs) are = either (test b) (blocks_filter t test bs are.1) where
  either : (x : Bool) → AreBlocks t (filter test bs) → AreBlocks t (if x then b ∷ filter test bs else filter test bs)
  either true rest = (are.0, rest)
  either false rest = rest

blocks_append : (t : Layout) (bs cs : List Block) → AreBlocks t bs → AreBlocks t cs → AreBlocks t (bs ++ cs)
unfolding AreBlocks
blocks_append t [] cs are too = too
blocks_append t (b ∷ bs) cs are too = (are.0, blocks_append t bs cs are.1 too)

-- a list without some of its blocks has no place that the list lacks
place_filter : (test : Block → Bool) (b : Block) (bs : List Block) → has_place b bs ≡ false → has_place b (filter test bs) ≡ false
place_filter test b [] none = refl
place_filter test b (c ∷ bs) none =
    let parts = or_parts (same_begin c b) (has_place b bs) none in
    either (test c) parts.0 (place_filter test b bs parts.1) where
      either : (x : Bool) → same_begin c b ≡ false → has_place b (filter test bs) ≡ false →
          has_place b (if x then c ∷ filter test bs else filter test bs) ≡ false
      either true first rest = or_from (same_begin c b) (has_place b (filter test bs)) first rest
      either false first rest = rest

pub apart_filter : (test : Block → Bool) (bs : List Block) → AreApart bs → AreApart (filter test bs)
unfolding AreApart
apart_filter test [] are = tt
apart_filter test (b ∷ bs) are = either (test b) (apart_filter test bs are.1) where
  either : (x : Bool) → AreApart (filter test bs) → AreApart (if x then b ∷ filter test bs else filter test bs)
  either true rest = (place_filter test b bs are.0, rest)
  either false rest = rest

other_place : (a b : Block) → same_begin a b ≡ false → same_begin b a ≡ false
other_place a b is = ⊎_elim (λ (same : same_begin b a ≡ true). absurd (false≢true (sym is ∙ same_begin_sym b a same)))
    (λ (apart : same_begin b a ≡ false). apart) (cases_Bool (same_begin b a))

-- one more block at the end, whose place the list lacks
pub apart_push : (bs : List Block) (b : Block) → AreApart bs → has_place b bs ≡ false → AreApart (bs ++ b ∷ [])
unfolding AreApart
apart_push [] b are none = (refl, tt)
apart_push (c ∷ bs) b are none =
    let parts = or_parts (same_begin c b) (has_place b bs) none in (
      any_append (λ (a : Block). same_begin a c) bs (b ∷ [])
          ∙ or_from (has_place c bs) (same_begin b c || false) are.0 (or_from (same_begin b c) false (other_place c b parts.0) refl),
      apart_push bs b are.1 parts.1,
    )

apart_either : (x : Bool) (bs : List Block) → AreApart bs → AreApart (if x then [] else bs)
unfolding AreApart
apart_either true bs are = tt
apart_either false bs are = are

blocks_either : (t : Layout) (x : Bool) (bs : List Block) → AreBlocks t bs → AreBlocks t (if x then [] else bs)
unfolding AreBlocks
blocks_either t true bs are = tt
blocks_either t false bs are = are

-- a reply asks for one block, or for nothing
pub request_or_none : (r : Reply) → ((b : Block) × (requested_by r ≡ b ∷ [])) ⊎ (requested_by r ≡ [])
request_or_none (Request b) = inl (b, refl)
request_or_none (InFlight b) = inl (b, refl)
request_or_none r = inr refl

-- a reply that asks stores nothing
pub asking_stores_none : (r : Reply) (b : Block) → requested_by r ≡ b ∷ [] → stores r ≡ false
asking_stores_none Stored b is = absurd (cc is)
asking_stores_none Completed b is = absurd (cc is)
asking_stores_none r b is = refl

-- what an entry asked of q: a block that its reply names, of q's own worker, or nothing
pub record Asks (q : ℕ) (e : Event) (b : Block) : Type 0 where
  pub worker : e.worker ≡ q
  pub reply : requested_by e.reply ≡ b ∷ []
  pub only : requested q e ≡ b ∷ []

pub asks_or_none : (q : ℕ) (e : Event) → ((b : Block) × Asks q e b) ⊎ (requested q e ≡ [])
asks_or_none q e = ⊎_elim
    (λ (same : e.worker ≡ q). ⊎_elim
    (λ (named : (b : Block) × (requested_by e.reply ≡ b ∷ [])). inl (
      named.0,
      record {
        worker = same;
        reply = named.1;
        only = ap (λ (x : Bool). if x then requested_by e.reply else []) (eq-eqb e.worker q same) ∙ named.1;
      },
    ))
    (λ (none : requested_by e.reply ≡ []). inr (ap (λ (bs : List Block). if e.worker == q then bs else []) none ∙ empty (e.worker == q)))
    (request_or_none e.reply))
    (λ (other : e.worker ≡ q → ⊥). inr (ap (λ (x : Bool). if x then requested_by e.reply else []) (ne_eqb e.worker q other)))
    (cases_eq e.worker q)
  where
    empty : (x : Bool) → if◌then◌else◌ {A = List Block} x [] [] ≡ []
    empty true = refl
    empty false = refl

-- the blocks asked of a peer are blocks of the torrent
pub outstanding_blocks : (s : Setting) (h : History) (q : ℕ) → IsLegal s h → AreBlocks s.torrent (outstanding h q)
unfolding outstanding AreBlocks
outstanding_blocks s [] q legal = tt
outstanding_blocks s (e ∷ h) q legal =
    blocks_either s.torrent (resets (own_call q e)) _
    (blocks_append s.torrent (filter (lasts q e) (outstanding h q)) (requested q e)
    (blocks_filter s.torrent (lasts q e) (outstanding h q) (outstanding_blocks s h q legal.0))
    (⊎_elim
    (λ (asking : (b : Block) × Asks q e b). subst (AreBlocks s.torrent) (sym asking.1.only)
    ((request_facts s h e asking.0 legal.1 asking.1.reply).block, tt))
    (λ (none : requested q e ≡ []). subst (AreBlocks s.torrent) (sym none) tt)
    (asks_or_none q e)))

-- no block is twice in a peer's line
pub outstanding_apart : (s : Setting) (h : History) (q : ℕ) → IsLegal s h → AreApart (outstanding h q)
unfolding outstanding AreApart
outstanding_apart s [] q legal = tt
outstanding_apart s (e ∷ h) q legal =
    let lasting : List Block = filter (lasts q e) (outstanding h q) in
    let older : AreApart lasting = apart_filter (lasts q e) (outstanding h q) (outstanding_apart s h q legal.0) in
    apart_either (resets (own_call q e)) (lasting ++ requested q e)
    (⊎_elim
    (λ (asking : (b : Block) × Asks q e b).
    let b = asking.0 in
    let free : asked h q b ≡ false = ap (λ (w : ℕ). asked h w b) (sym asking.1.worker) ∙ (request_facts s h e b legal.1 asking.1.reply).not_asked in
    subst (λ (bs : List Block). AreApart (lasting ++ bs)) (sym asking.1.only)
    (apart_push lasting b older (place_filter (lasts q e) b (outstanding h q) (sym (asked_outstanding h q b) ∙ free))))
    (λ (none : requested q e ≡ []). subst (λ (bs : List Block). AreApart (lasting ++ bs)) (sym none) (apart_nil lasting older))
    (asks_or_none q e))
  where
    apart_nil : (bs : List Block) → AreApart bs → AreApart (bs ++ [])
    apart_nil bs are = subst AreApart (sym (append_nil bs)) are where
      append_nil : (xs : List Block) → xs ++ [] ≡ xs
      append_nil [] = refl
      append_nil (x ∷ xs) = ap (λ (l : List Block). x ∷ l) (append_nil xs)

-- ---- how many blocks are asked, and due

-- the test passes at one block of the torrent more
pub count_blocks_more : (t : Layout) (f g : Block → Bool) (x : Block) → is_block t x ≡ true → f x ≡ true → g x ≡ false
    → ((b : Block) → same_begin x b ≡ false → f b ≡ g b) → count_blocks t f ≡ count_blocks t g + 1
count_blocks_more t f g x is now before others =
    let at = block_index t x is in
    let blocks : (Block → Bool) → ℕ → ℕ = λ test p. count_below (block_count t p) (λ k. test (block t p k)) in
    let in_piece : count_below (block_count t x.piece) (λ k. f (block t x.piece k)) + one_if (g (block t x.piece at.index))
    ≡ count_below (block_count t x.piece) (λ k. g (block t x.piece k)) + one_if (f (block t x.piece at.index)) =
    count_at (block_count t x.piece) (λ k. f (block t x.piece k)) (λ k. g (block t x.piece k)) at.index at.within
    (λ k lk apart. others (block t x.piece k) (and_right (x.piece == x.piece) _
    (ne_eqb x.begin (block_size * k) (λ same. apart (omega (arith, same, ap (λ (b : Block). b.begin) at.is)))))) in
    let here : one_if (f (block t x.piece at.index)) ≡ 1 = ap one_if (ap f (sym at.is) ∙ now) in
    let gone : one_if (g (block t x.piece at.index)) ≡ 0 = ap one_if (ap g (sym at.is) ∙ before) in
    let in_all : count_blocks t f + blocks g x.piece ≡ count_blocks t g + blocks f x.piece =
    sum_at (piece_count t) (blocks f) (blocks g) x.piece at.piece
    (λ p lp apart. count_same (block_count t p) (λ k. f (block t p k)) (λ k. g (block t p k))
    (λ k lk. others (block t p k) (and_left (x.piece == p) _ (ne_eqb x.piece p (λ same. apart (sym same)))))) in
    omega (arith, in_piece, here, gone, in_all)

-- a list of blocks of the torrent, none twice, has as many blocks as have their place in it
pub count_listed : (t : Layout) (bs : List Block) → AreBlocks t bs → AreApart bs → count_blocks t (λ b. has_place b bs) ≡ length bs
unfolding AreBlocks AreApart
count_listed t [] are apart = sum_none (piece_count t) _ (λ p lp. count_none (block_count t p) (λ k. false) (λ k lk. refl))
count_listed t (x ∷ bs) are apart =
    count_blocks_more t (λ b. has_place b (x ∷ bs)) (λ b. has_place b bs) x are.0
    (or_left (same_begin x x) (has_place x bs) (same_begin_self x)) apart.0
    (λ b other. ap (λ (y : Bool). y || has_place b bs) other)
    ∙ (ap (λ (n : ℕ). n + 1) (count_listed t bs are.1 apart.1) ∙ suc_is (length bs))
  where
    suc_is : (n : ℕ) → n + 1 ≡ suc n
    suc_is n = omega arith

pub count_blocks_same : (t : Layout) (f g : Block → Bool) → ((b : Block) → f b ≡ g b) → count_blocks t f ≡ count_blocks t g
count_blocks_same t f g same =
    sum_same (piece_count t) _ _ (λ p lp. count_same (block_count t p) (λ k. f (block t p k)) (λ k. g (block t p k)) (λ k lk. same (block t p k)))

-- so many blocks are asked of a peer as its line has
pub asked_count_is : (s : Setting) (h : History) (q : ℕ) → IsLegal s h → asked_count s h q ≡ length (outstanding h q)
asked_count_is s h q legal =
    count_blocks_same s.torrent (asked h q) (λ b. has_place b (outstanding h q)) (asked_outstanding h q)
    ∙ count_listed s.torrent (outstanding h q) (outstanding_blocks s h q legal) (outstanding_apart s h q legal)

-- ---- due cancels

pub dues_blocks : (s : Setting) (h : History) (q : ℕ) → IsLegal s h → AreBlocks s.torrent (dues h q)
unfolding dues AreBlocks
dues_blocks s [] q legal = tt
dues_blocks s (e ∷ h) q legal =
    blocks_either s.torrent (resets (own_call q e)) _
    (blocks_append s.torrent (filter (λ b. not (cancelled q e b)) (dues h q)) _
    (blocks_filter s.torrent (λ b. not (cancelled q e b)) (dues h q) (dues_blocks s h q legal.0))
    (blocks_either s.torrent (e.worker == q) _
    (blocks_filter s.torrent (λ b. is_some (stored e b)) (outstanding h q) (outstanding_blocks s h q legal.0))))

-- where no block is due, the line of cancels is empty
pub dues_empty : (s : Setting) (h : History) (q : ℕ) → IsLegal s h → some_block s.torrent (due h q) ≡ false → dues h q ≡ []
unfolding AreBlocks
dues_empty s h q legal none = by_line (dues h q) refl where
  by_line : (bs : List Block) → dues h q ≡ bs → bs ≡ []
  by_line [] is = refl
  by_line (b ∷ bs) is =
      let block : is_block s.torrent b ≡ true = first_is_block (subst (AreBlocks s.torrent) is (dues_blocks s h q legal)) in
      let is_due : due h q b ≡ true = due_dues h q b ∙ ap (has_place b) is ∙ or_left (same_begin b b) (has_place b bs) (same_begin_self b) in
      absurd (false≢true (sym none ∙ some_found s.torrent (due h q) b block is_due)) where
        first_is_block : AreBlocks s.torrent (b ∷ bs) → is_block s.torrent b ≡ true
        first_is_block are = are.0

-- fewer pass two tests than one
fewer_both : (f g : Block → Bool) (bs : List Block) → length (filter (λ b. f b && g b) bs) ≤ length (filter f bs)
fewer_both f g [] = omega arith
fewer_both f g (b ∷ bs) = either (f b) (g b) (fewer_both f g bs) where
  either : (x y : Bool) → length (filter (λ c. f c && g c) bs) ≤ length (filter f bs)
      → length (if x && y then b ∷ filter (λ c. f c && g c) bs else filter (λ c. f c && g c) bs) ≤ length (if x then b ∷ filter f bs else filter f bs)
  either true true rest = omega (arith, rest)
  either true false rest = omega (arith, rest)
  either false y rest = rest

-- the depth that holds is no greater than the greatest one
pub depth_holds : (s : Setting) (h : History) (q : ℕ) → depth_of s h q ≤ depth_so_far s h q
unfolding told_depth depth_so_far
depth_holds s [] q = omega arith
depth_holds s (e ∷ h) q = by_reset (resets (own_call q e)) where
  by_reset : (x : Bool) → unwrap_or (told_after (own_call q e) (told_depth h q)) s.depth ≤ (if x then unwrap_or
      (told_after (own_call q e) (told_depth h q)) s.depth else max (unwrap_or (told_after (own_call q e) (told_depth h q)) s.depth)
      (depth_so_far s h q))
  by_reset true = omega arith
  by_reset false = le-max_left _ _

-- the lines of a peer have room: together they are no longer than the greatest depth
pub lines_room : (s : Setting) (h : History) (q : ℕ) → IsLegal s h → length (outstanding h q) + length (dues h q) ≤ depth_so_far s h q
unfolding outstanding dues depth_so_far
lines_room s [] q legal = omega arith
lines_room s (e ∷ h) q legal = by_reset (resets (own_call q e)) (asks_or_none q e) (lines_room s h q legal.0) where
  old : List Block
  old = filter (lasts q e) (outstanding h q)

  new : List Block
  new = filter (λ b. is_some (stored e b)) (outstanding h q)

  still : List Block
  still = filter (λ b. not (cancelled q e b)) (dues h q)

  split : length old + length new ≤ length (outstanding h q)
  split =
      let both = length-filter_both (λ b. is_none (stored e b)) (λ b. is_some (stored e b)) (λ b. opposite (stored e b)) (outstanding h q) in
      let less = fewer_both (λ b. is_none (stored e b)) (λ b. not (releases (own_call q e) b)) (outstanding h q) in
      omega (arith, both, less)
    where
      opposite : (o : Option (List ℕ)) → is_some o ≡ not (is_none o)
      opposite None = refl
      opposite (Some x) = refl

  fewer : (test : Block → Bool) (bs : List Block) → length (filter test bs) ≤ length bs
  fewer test bs = let both = length-filter_both test (λ b. not (test b)) (λ b. refl) bs in omega arith

  of_others : (x : Bool) → length (if x then [] else new) ≤ length new
  of_others true = omega arith
  of_others false = omega arith

  zero_least : (n : ℕ) → 0 + 0 ≤ n
  zero_least n = omega arith

  by_reset : (x : Bool) → ((b : Block) × Asks q e b) ⊎ (requested q e ≡ []) → length (outstanding h q) + length (dues h q) ≤ depth_so_far s h q
      → length (if x then [] else old ++ requested q e) + length (if x then [] else still ++ (if e.worker == q then [] else new))
      ≤ (if x then depth_of s (e ∷ h) q else max (depth_of s (e ∷ h) q) (depth_so_far s h q))
  by_reset true asking room = zero_least (depth_of s (e ∷ h) q)
  by_reset false asking room = ⊎_elim
      (λ (named : (b : Block) × Asks q e b).
      let facts = request_facts s h e named.0 legal.1 named.1.reply in
      let none : dues h q ≡ [] = dues_empty s h q legal.0 (ap (λ (w : ℕ). some_block s.torrent (due h w)) (sym named.1.worker) ∙ facts.none_due) in
      let count : length (outstanding h q) < depth_of s h q = subst (λ (n : ℕ). n < depth_of s h q)
      (asked_count_is s h q legal.0) (subst (λ (w : ℕ). asked_count s h w < depth_of s h w) named.1.worker facts.room) in
      let deep = depth_holds s h q in
      let most = le-max_right (depth_of s (e ∷ h) q) (depth_so_far s h q) in
      let own : (e.worker == q) ≡ true = eq-eqb e.worker q named.1.worker in
      let no_new : length (if◌then◌else◌ {A = List Block} (e.worker == q) [] new) ≡ 0 =
      ap (λ (x : Bool). length (if◌then◌else◌ {A = List Block} x [] new)) own in
      let no_still : length still ≤ 0 = subst (λ (bs : List Block). length still ≤ length bs) none (fewer (λ b. not (cancelled q e b)) (dues h q)) in
      let one : length (requested q e) ≡ 1 = ap length named.1.only in
      let short = fewer (lasts q e) (outstanding h q) in
      omega (
        arith,
        length-append old (requested q e),
        length-append still (if e.worker == q then [] else new),
        count,
        deep,
        most,
        no_new,
        no_still,
        one,
        short,
      ))
      (λ (nothing : requested q e ≡ []).
      let zero : length (requested q e) ≡ 0 = ap length nothing in
      let others = of_others (e.worker == q) in
      let most = le-max_right (depth_of s (e ∷ h) q) (depth_so_far s h q) in
      let short = fewer (λ b. not (cancelled q e b)) (dues h q) in
      omega (
        arith,
        length-append old (requested q e),
        length-append still (if e.worker == q then [] else new),
        zero,
        split,
        others,
        short,
        room,
        most,
      ))
      asking

-- a list of blocks of the torrent has at least as many blocks as have their place in it
count_listed_most : (t : Layout) (bs : List Block) → AreBlocks t bs → count_blocks t (λ b. has_place b bs) ≤ length bs
unfolding AreBlocks
count_listed_most t [] are = let none : count_blocks t (λ b. false) ≡ 0 =
    sum_none (piece_count t) _ (λ p lp. count_none (block_count t p) (λ k. false) (λ k lk. refl)) in omega arith
count_listed_most t (x ∷ bs) are = ⊎_elim
    (λ (again : has_place x bs ≡ true).
    let same = count_blocks_same t (λ b. has_place b (x ∷ bs)) (λ b. has_place b bs) (λ b. one_of b (same_begin x b) refl again) in
    let rest = count_listed_most t bs are.1 in
    omega (arith, same, rest))
    (λ (fresh : has_place x bs ≡ false).
    let more = count_blocks_more t (λ b. has_place b (x ∷ bs)) (λ b. has_place b bs) x are.0
    (or_left (same_begin x x) (has_place x bs) (same_begin_self x)) fresh (λ b other. ap (λ (y : Bool). y || has_place b bs) other) in
    let rest = count_listed_most t bs are.1 in
    omega (arith, more, rest))
    (cases_Bool (has_place x bs))
  where
    one_of : (b : Block) (y : Bool) → same_begin x b ≡ y → has_place x bs ≡ true → (y || has_place b bs) ≡ has_place b bs
    one_of b true same again = sym (place_resized bs x b same ∙ again)
    one_of b false apart again = refl

-- asked blocks and due cancels of a peer, counted together, stay within the depth
pub asked_and_due : (s : Setting) (h : History) (q : ℕ) → IsLegal s h → asked_count s h q + due_count s h q ≤ depth_so_far s h q
asked_and_due s h q legal =
    let due_most : due_count s h q ≤ length (dues h q) =
    subst (λ (n : ℕ). n ≤ length (dues h q)) (sym (count_blocks_same s.torrent (due h q) (λ b. has_place b (dues h q)) (due_dues h q)))
    (count_listed_most s.torrent (dues h q) (dues_blocks s h q legal)) in
    let asked_is = asked_count_is s h q legal in
    let room = lines_room s h q legal in
    omega (arith, due_most, asked_is, room)
