use Rattle.std.proofs.Common.{ap, ◌∙◌}
use Rattle.sha1.specs.Sha1.{add_state, compress}
use Rattle.bt_check.specs.Lanes.{variables}
use Rattle.bt_check.proofs.compress.compress.Goals as goal

pub returns : goal.returns
unfolding compress
returns c j lt =
    c.add_state.ensures j lt
    ∙ ap (add_state (variables j c.args.h)) (c.all_rounds-v.ensures j _ lt (c.block_words-w.ensures j lt))
