use Rattle.std.proofs.Common.{rules, sym, ◌∙◌}
use Rattle.bt_meta.specs.Counting.{content_in}
use Rattle.bt_meta.specs.Reading.{lengths_in}
use Rattle.bt_meta.proofs.Lengths.{several_in}
use Rattle.bt_meta.proofs.torrent.reading.announced_content.Goals as goal

pub returns-in-None-Some : goal.returns-in-None-Some
returns-in-None-Some c =
    let one = sym (rw (c.as_bytes.ensures.value, c.name.ensures) at c.get-one.ensures) ∙ c.in-None-Some.is-0 in
    let several = sym (rw (c.as_bytes-2.ensures.value, c.name-2.ensures) at c.get-several.ensures) ∙ c.in-None-Some.is-1 in
    c.content_of_files.ensures ∙ sym (several_in c.args.info.now c.in-None-Some.files one several)

pub returns-in-Some-Some : goal.returns-in-Some-Some
unfolding content_in lengths_in
returns-in-Some-Some c = search rules fits 100
