use Rattle.bt_shared.proofs.Turns.{grows_settles, kept_settles, judged_settles}
use Rattle.bt_shared.proofs.telling.judge.Goals as goal

pub returns-clause-settles : goal.returns-clause-settles
returns-clause-settles c = judged_settles _ _ c.args.worker c.args.piece _ c.requires.worker c.judge-reply.ensures

pub returns-clause-grows : goal.returns-clause-grows
returns-clause-grows c = grows_settles _ _ c.args.worker c.args.piece _ (judged_settles _ _ c.args.worker c.args.piece _ c.requires.worker c.judge-reply.ensures)

pub returns-clause-setting : goal.returns-clause-setting
returns-clause-setting c = kept_settles _ _ c.args.worker c.args.piece _ (judged_settles _ _ c.args.worker c.args.piece _ c.requires.worker c.judge-reply.ensures)
