use Rattle.std.proofs.Common.{arith}
use Rattle.sbpl_frontier_core.proofs.space.Space.low.Goals as goal

pub low_among-requires : goal.low_among-requires
low_among-requires g c =
    let states = rw (← c.self.view_is) at c.requires.over.states in
    let over = rw (← c.self.view_is) at c.requires.over.over in
    record {
      goal = c.requires.goal;
      known = c.requires.known;
      queue = states;
      inside = rw c.deref.ensures.value (λ k d within. omega (arith, c.self.invariant.1 k d within, states));
      all =
          rw c.deref.ensures.value
          (λ s inside differ. over s inside (omega (arith, c.requires.none_under.at s inside, differ)));
    }
