use Rattle.bt_check.proofs.compress.first_rounds.Goals as goal

pub returns : goal.returns
returns c j b h lt win held =
    let two = c.first_four-v-2.ensures j b h lt win (c.first_four-v.ensures j b h lt win held) in
    c.first_four.ensures j b h lt win (c.first_four-v-3.ensures j b h lt win two)
