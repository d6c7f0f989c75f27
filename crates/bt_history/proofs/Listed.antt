-- A peer's line of outstanding blocks lists exactly the blocks that are asked of it.
use Rattle.std.proofs.Common.{◌≡◌, ℕ, Bool, true, List, [], ◌∷◌, sym, ◌∙◌}
use Rattle.std.specs.List.{AllByRecursion}
use Rattle.std.proofs.lemmas.Bool.{or_left, or_right}
use Rattle.std.proofs.lemmas.List.Elements.{All-from_recursion}
use Rattle.bt_meta.specs.declared.block.Block.{Block}
use Rattle.bt_meta.specs.Layout.{Layout}
use Rattle.bt_history.specs.Setting.{Setting, is_block}
use Rattle.bt_history.specs.History.{History, same_begin}
use Rattle.bt_history.specs.Peers.{asked, outstanding, has_place, ListsAsked}
use Rattle.bt_history.specs.Legal.{IsLegal}
use Rattle.bt_history.proofs.SameBegin.{same_begin_self}
use Rattle.bt_history.proofs.Lines.{asked_outstanding}
use Rattle.bt_history.proofs.LineLaws.{AreBlocks, outstanding_blocks, outstanding_apart, asked_count_is}

-- where each block whose place is listed passes the test, each listed block of the torrent does
each_passes : (t : Layout) (test : Block → Bool) (bs : List Block) → AreBlocks t bs → ((b : Block) → has_place b bs ≡ true → test b ≡ true)
    → AllByRecursion (λ b. (is_block t b ≡ true) × (test b ≡ true)) bs
unfolding AreBlocks
each_passes t test [] are passes = tt
each_passes t test (b ∷ bs) are passes = (
  (are.0, passes b (or_left (same_begin b b) (has_place b bs) (same_begin_self b))),
  each_passes t test bs are.1 (λ c listed. passes c (or_right (same_begin b c) (has_place c bs) listed)),
)

pub lists_asked : (s : Setting) (h : History) (q : ℕ) → IsLegal s h → ListsAsked s h q
lists_asked s h q legal = record {
  listed = All-from_recursion _ (outstanding h q)
      (each_passes s.torrent (asked h q) (outstanding h q) (outstanding_blocks s h q legal) (λ b listed. asked_outstanding h q b ∙ listed));
  places = asked_outstanding h q;
  apart = outstanding_apart s h q legal;
  count = sym (asked_count_is s h q legal);
}
