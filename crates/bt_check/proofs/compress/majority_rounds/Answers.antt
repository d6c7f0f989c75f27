use Rattle.bt_check.proofs.compress.majority_rounds.Goals as goal

pub returns : goal.returns
returns c j b h lt held =
    let two = c.majority_five-v-2.ensures j b h lt (c.majority_five-v.ensures j b h lt held) in
    c.majority_five.ensures j b h lt (c.majority_five-v-3.ensures j b h lt two)
