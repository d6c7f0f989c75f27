use Rattle.bt_check.proofs.compress.choose_rounds.Goals as goal

pub returns : goal.returns
returns c j b h lt held =
    let two = c.choose_step-v-2.ensures j b h lt (c.choose_step-v.ensures j b h lt held) in
    c.choose_step.ensures j b h lt (c.choose_step-v-3.ensures j b h lt two)
