use Rattle.std.proofs.Common.{◌≡◌, ◌+◌, ◌-◌, drop, arith, ◌∙◌}
use Rattle.sbpl_fixed.proofs.Printing.{decimal_longer, decimal_last, one_shorter}
use Rattle.sbpl_fixed.proofs.printed.decimal_before.Goals as goal

pub loop-rest-preserved : goal.loop-rest-preserved
loop-rest-preserved c =
    let l = c.loop-rest in
    let short = one_shorter l.rest (l.begin + 39 - c.args.at) c.loop-rest-test.true l.invariant.digits in
    let one : c.byte_before-begin.result + 39 - c.args.at ≡ l.begin + 39 - c.args.at - 1 = omega arith in
    record {
      digits = rw one short.1;
      low = omega arith;
      high = omega arith;
      small = omega arith;
      text =
          rw c.byte_before-begin.ensures.text
          (decimal_longer l.rest (drop l.begin l.buffer) c.loop-rest-test.true l.invariant.small ∙ l.invariant.text);
    }

pub returns-clause-text : goal.returns-clause-text
returns-clause-text c =
    let l = c.loop-rest in
    rw c.byte_before.ensures.text
    (decimal_last l.rest (drop l.begin l.buffer) c.loop-rest-test.false ∙ l.invariant.text)
