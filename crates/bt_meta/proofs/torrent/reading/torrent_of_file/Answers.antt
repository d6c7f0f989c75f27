use Rattle.std.proofs.Common.{◌≡◌, List, ℕ, Ok, Err, Result, sym}
use Rattle.std.specs.Prelude.{IfOk}
use Rattle.sha1.specs.Sha1.{sha1}
use Rattle.bt_bencode.specs.Term.{Term, span_of}
use Rattle.bt_bencode.specs.Grammar.{Spells}
use Rattle.bt_bencode.specs.Placed.{placed, part}
use Rattle.bt_meta.specs.declared.fault.MetaFault.{MetaFault}
use Rattle.bt_meta.specs.declared.key.Key.TheVariants as key
use Rattle.bt_meta.specs.Keys.{key_name}
use Rattle.bt_meta.specs.Layout.{Metainfo}
use Rattle.bt_meta.specs.Metainfo.{IsMeta}
use Rattle.bt_meta.specs.Reading.{Gives, info_in, torrent_by, torrent_of_file}
use Rattle.bt_meta.proofs.Counted.{torrent_counted_is}
use Rattle.bt_meta.proofs.Laws.{file_is, info_is}
use Rattle.bt_meta.proofs.torrent.reading.torrent_of_file.Goals as goal

result_is : (source : List ℕ) (tree info : Term) (r : Result Metainfo MetaFault) → Spells tree source → placed 0 tree ≡ tree →
    info_in tree ≡ Ok info → Gives (λ t. t) r (torrent_by info (sha1 (part source (span_of info)))) → IfOk r (IsMeta source)
result_is source tree info (Ok t) spelled spans in_tree is = file_is source tree info t spelled spans in_tree is
result_is source tree info (Err fault) spelled spans in_tree is = tt

pub digest_at-requires : goal.digest_at-requires
digest_at-requires c =
    let in_file = info_is c.in_ok-file.file c.in_ok-info.info (sym c.in_ok-info.ensures) in
    let stands = c.in_ok-file.ensures.parts (key_name key.Info) c.in_ok-info.info in_file in
    rw c.span.ensures (record { order = stands.order; within = stands.within })

pub returns-clause-found : goal.returns-clause-found
returns-clause-found c =
    let file = c.in_ok-file in
    result_is c.args.source.now file.file c.in_ok-info.info c.described.result file.ensures.found file.ensures.spans
    (sym c.in_ok-info.ensures)
    (rw (c.digest_at.ensures, c.span.ensures, torrent_counted_is) at c.described.ensures)

pub returns-clause-read : goal.returns-clause-read
unfolding torrent_of_file
returns-clause-read c =
    rw (← c.in_ok-file.ensures.exact, ← c.in_ok-info.ensures)
    (rw (c.digest_at.ensures, c.span.ensures, torrent_counted_is) at c.described.ensures)
