use Rattle.std.proofs.Common.{◌≡◌, Ok, refl, rules}
use Rattle.bt_c.specs.Opening.{described_by}
use Rattle.bt_c.proofs.held.Held.open_parts.Goals as goal

pub returns : goal.returns
returns c =
    let is : described_by c.args.piece_len c.args.total c.args.hashes.now ≡
    Ok (record { torrent = c.in_ok-torrent.torrent; files = c.new.result.items }) =
    rw (c.in_ok-torrent.ensures, c.new.ensures.items) refl in
    search rules
