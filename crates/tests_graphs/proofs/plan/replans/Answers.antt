use Rattle.std.proofs.Common.{arith, rules}
use Rattle.tests_graphs.proofs.Touching.{touched_both}
use Rattle.tests_graphs.proofs.plan.replans.Goals as goal

pub change-requires-clause-changeable : goal.change-requires-clause-changeable
change-requires-clause-changeable c = record {
  inside = search rules;
  fits = search rules;
  untouched = λ t inside apart none.
      absurd (none (touched_both c.as_slice.result.now t c.as_slice.ensures (omega (arith, c.requires.states))
      (λ zero. apart (omega (arith, c.requires.start)))));
}
