use Rattle.std.proofs.Common.{◌≡◌, refl, subst}
use Rattle.bt_meta.specs.Layout.{Metainfo}
use Rattle.bt_meta.specs.Reading.{Gives}
use Rattle.bt_meta.proofs.Laws.{file_again}
use Rattle.bt_meta.proofs.Refusing.{read_or_memory}
use Rattle.bt_meta.proofs.torrent.Torrent.read.Goals as goal

pub returns-clause-only : goal.returns-clause-only
returns-clause-only c = λ t is.
    let read = file_again c.args.source.now t is in
    read_or_memory (λ (u : Metainfo). u) (λ u. u ≡ t) c.torrent_of_file.result t
    (subst (λ reading. Gives (λ u. u) c.torrent_of_file.result reading) read c.torrent_of_file.ensures.read) refl
