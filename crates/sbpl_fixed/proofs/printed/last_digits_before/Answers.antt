use Rattle.std.proofs.Common.{◌≡◌, ◌+◌, ◌-◌, suc, drop, arith, ◌∙◌}
use Rattle.sbpl_fixed.specs.Printed.{last_digits}
use Rattle.sbpl_fixed.proofs.Printing.{last_digits_longer}
use Rattle.sbpl_fixed.proofs.printed.last_digits_before.Goals as goal

pub loop-preserved : goal.loop-preserved
loop-preserved c =
    let l = c.loop in
    let one : suc (c.args.count - (l.counter + 1)) ≡ c.args.count - l.counter = omega arith in
    record {
      place = omega arith;
      text =
          rw c.byte_before-begin.ensures.text (last_digits_longer (c.args.count - (l.counter + 1)) l.rest
          (drop l.begin l.buffer) ∙ rw one l.invariant.text);
    }

pub returns-clause-text : goal.returns-clause-text
unfolding last_digits
returns-clause-text c =
    let l = c.loop in
    let none : c.args.count - l.counter ≡ 0 = omega arith in
    rw none at l.invariant.text
