use Rattle.std.proofs.Common.{arith, sym, ◌∙◌}
use Rattle.std.specs.Char.{is_ascii_digit}
use Rattle.std.proofs.lemmas.List.Sums.{prefix_len-drop_no, prefix_len-drop_all}
use Rattle.bt_bencode.proofs.Digits.{run_goes_on, run_ends}
use Rattle.bt_bencode.proofs.scalar.digits.Goals as goal
use Rattle.bt_bencode.proofs.scalar.digits.Goals.{then-loop-end-test+else-is_ascii_digit, else-loop-end-test}

pub loop-end-preserved : goal.loop-end-preserved
loop-end-preserved c = record {
  low = omega arith;
  high = omega arith;
  run = run_goes_on c.args.source.now c.args.at c.loop-end.end c.loop-end-test.true
      (sym c.is_ascii_digit.ensures.value ∙ c.if-is_ascii_digit.true) c.loop-end.invariant.run;
}

pub returns-clause-run : goal.returns-clause-run
returns-clause-run c =
    let source = c.args.source.now in
    run_ends source c.args.at c.loop-end.end
    (elim c.loop-end-test.branch [
      | then-loop-end-test+else-is_ascii_digit w ↦ prefix_len-drop_no is_ascii_digit source c.loop-end.end 0 w.loop-end-test.true
          (sym w.is_ascii_digit.ensures.value ∙ w.if-is_ascii_digit.false)
      | else-loop-end-test w ↦ prefix_len-drop_all is_ascii_digit source c.loop-end.end w.loop-end-test.false
    ])
    c.loop-end.invariant.run
