use Rattle.bt_check.proofs.compress.parity_rounds.Goals as goal

pub returns : goal.returns
returns c j b h lt held =
    let two = c.parity_five-v-2.ensures j b h lt (c.parity_five-v.ensures j b h lt held) in
    c.parity_five.ensures j b h lt (c.parity_five-v-3.ensures j b h lt two)
