use Rattle.sha1.specs.Sha1.{IsRoundsAt}
use Rattle.bt_check.specs.Lanes.{lane, variables}
use Rattle.bt_check.proofs.RoundsLemmas.{rounds_none}
use Rattle.bt_check.proofs.compress.all_rounds.Goals as goal

pub returns : goal.returns
returns c j b lt win =
    let h = variables j c.args.h in
    let first : IsRoundsAt b h (lane j c.args.w.now) (variables j c.first_rounds-v.result) 16 =
    (win, c.first_rounds-v.ensures j b h lt win (rounds_none h b)) in
    let parity = c.parity_rounds-v.ensures j b h lt (c.choose_rounds-v.ensures j b h lt first) in
    (c.last_rounds.ensures j b h lt (c.majority_rounds-v.ensures j b h lt parity)).1
