-- The journal's entry at the place of a held block brought the block's bytes.
use Rattle.std.proofs.Common.{◌≡◌, ℕ, List, Some, subst, sym}
use Rattle.std.specs.Prelude.{slice_index_or}
use Rattle.bt_meta.specs.declared.block.Block.{Block}
use Rattle.bt_history.specs.declared.call.Entry.{Entry}
use Rattle.bt_history.specs.Entries.{action_of, history_of}
use Rattle.bt_history.specs.History.{History}
use Rattle.bt_history.specs.Pieces.{content_of_block}
use Rattle.bt_picker.specs.Places.{stored_place}
use Rattle.bt_picker.specs.Search.{arrived_bytes}
use Rattle.bt_picker.proofs.Arriving.{held_there}

-- the place that the history tells is one of the journal
pub filed_at : (h : History) (journal : List Entry) (b : Block) (i : ℕ) → h ≡ history_of journal → Some i ≡ stored_place h b
    → stored_place (history_of journal) b ≡ Some i
filed_at h journal b i is at = subst (λ (g : History). stored_place g b ≡ Some i) is (sym at)

-- the entry there brought the block's bytes
pub filed_bytes : (h : History) (journal : List Entry) (b : Block) (i : ℕ) (bytes : List ℕ) → h ≡ history_of journal → Some i ≡ stored_place h b
    → ((e : Entry) → bytes ≡ arrived_bytes (action_of (slice_index_or journal i e).call)) → bytes ≡ content_of_block h b
filed_bytes h journal b i bytes is at read =
    subst (λ (g : History). bytes ≡ content_of_block g b) (sym is) (held_there journal b i bytes (filed_at h journal b i is at) read)
