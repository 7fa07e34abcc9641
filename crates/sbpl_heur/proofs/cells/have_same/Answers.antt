use Rattle.std.proofs.Common.{arith}
use Rattle.std.proofs.lemmas.List.{same_lists}
use Rattle.sbpl_heur.proofs.cells.have_same.Goals as goal

pub returns : goal.returns
returns c = record {
  same = λ _. same_lists c.args.hops.now c.args.others.now c.loop-j.invariant.0
      (λ k d below. c.loop-j.invariant.1 k d (omega (arith, below, c.loop-j-test.false)));
}
