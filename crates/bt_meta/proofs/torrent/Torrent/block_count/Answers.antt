use Rattle.std.proofs.Common.{rules}
use Rattle.bt_meta.proofs.torrent.Torrent.block_count.Goals as goal

pub returns : goal.returns
returns c = search rules fits 100
