use Rattle.std.proofs.Common.{rules}
use Rattle.bt_meta.proofs.torrent.Torrent.piece_len.Goals as goal

pub returns-clause-len : goal.returns-clause-len
returns-clause-len c = search rules fits 100
