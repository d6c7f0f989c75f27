use Rattle.std.proofs.Common.{subst}
use Rattle.bt_meta.specs.Files.{AreFilesOf}
use Rattle.bt_meta.specs.Reading.{Gives}
use Rattle.bt_meta.proofs.Laws.{files_again}
use Rattle.bt_meta.proofs.Refusing.{read_or_memory}
use Rattle.bt_meta.proofs.torrent.reading.files.ListedFile.read_all.Goals as goal

pub returns-clause-own : goal.returns-clause-own
returns-clause-own c = λ t is.
    let read = files_again c.args.source.now t is in
    read_or_memory (λ files. files.items) (AreFilesOf t) c.files_of_file.result read.0
    (subst (λ reading. Gives (λ files. files.items) c.files_of_file.result reading) read.1 c.files_of_file.ensures) read.2
