use Rattle.std.proofs.Common.{◌≡◌, Ok, refl, rules}
use Rattle.bt_c.specs.Opening.{described_in}
use Rattle.bt_c.proofs.held.Held.open.Goals as goal

pub returns : goal.returns
returns c =
    let is : described_in c.args.metainfo.now ≡ Ok (record { torrent = c.in_ok-torrent.torrent; files = c.in_ok-files.files.items }) =
    rw (c.in_ok-torrent.ensures.exact, c.in_ok-files.ensures.exact) refl in
    search rules
