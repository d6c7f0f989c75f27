-- What a session goes by.
use Rattle.std.specs.Prelude.{ℕ, ◌+◌, ◌*◌, List}
use Rattle.bt_meta.specs.Layout.{Layout, Metainfo, piece_count}

-- the torrent's layout and infohash, and how many blocks may be asked of the peer at a time
pub record TermsState : Type 0 where
  pub layout : Layout
  pub infohash : List ℕ
  pub depth : ℕ

-- those of a metainfo file and a depth
abbrev pub terms_of : Metainfo → ℕ → TermsState
terms_of torrent depth = record { layout = torrent.layout; infohash = torrent.infohash; depth = depth }

-- the pieces of the torrent
abbrev pub pieces_of : TermsState → ℕ
pieces_of terms = piece_count terms.layout

-- The most Next calls of one turn: a peer's line may be emptied of that many cancels and then filled with that many requests, and one
-- more call tells that there is nothing more.
abbrev pub most_next : TermsState → ℕ
most_next terms = 2 * terms.depth + 1
