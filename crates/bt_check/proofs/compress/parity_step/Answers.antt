use Rattle.std.proofs.Common.{◌∙◌, sym, slice_index, arith}
use Rattle.sha1.proofs.Schedule.{rounds_window, round_fn_parity, round_constant_parity}
use Rattle.bt_check.specs.Lanes.{lane, variables}
use Rattle.bt_check.proofs.compress.parity_step.Goals as goal

pub returns : goal.returns
returns c = λ j b h lt held.
    let v = variables j c.args.v in
    rounds_window b h (lane j c.args.w.now) v c.args.t _ _ _ _ _ (omega arith) (omega arith) held.0 held.1
    (c.next_word-word.ensures.value j lt) (c.next_word-word.ensures.window j lt)
    (c.parity.ensures j lt ∙ sym (round_fn_parity c.args.t (slice_index v 1) (slice_index v 2) (slice_index v 3) (omega arith) (omega arith)))
    (sym (round_constant_parity c.args.t (omega arith) (omega arith))) (c.round.ensures j lt)
