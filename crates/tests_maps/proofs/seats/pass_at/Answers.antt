use Rattle.std.proofs.Common.{ℕ, ◌≤◌, IfOk, List, Result, Ok, Err, arith}
use Rattle.sbpl_epase.specs.declared.passed.Passed.{Passed}
use Rattle.sbpl_epase.specs.sbpl_frontier_rules.declared.event.Event.{Event}
use Rattle.sbpl_epase.specs.sbpl_frontier_rules.declared.event.Event.TheVariants.{Opened, Posted, Taken}
use Rattle.sbpl_epase.specs.sbpl_frontier_core.Seats.{AreTakenBelow, IsTakenBelow}
use Rattle.tests_maps.proofs.seats.pass_at.Goals as goal

-- seats below a number are below a greater one
wider_at : (seats most : ℕ) → seats ≤ most → (e : Event) → IsTakenBelow seats e → IsTakenBelow most e
wider_at seats most few (Opened s) below = tt
wider_at seats most few (Taken ticket asker s k) below = omega (arith, below)
wider_at seats most few (Posted ticket cost) below = tt

wider : (seats most : ℕ) → seats ≤ most → (events : List Event) → AreTakenBelow seats events → AreTakenBelow most events
wider seats most few events below k d inside = wider_at seats most few _ (below k d inside)

seated : {E : Type 0} (seats most : ℕ) → seats ≤ most → (r : Result Passed E)
    → IfOk r (λ p. AreTakenBelow seats p.journal.events) → IfOk r (λ p. AreTakenBelow most p.journal.events)
seated seats most few (Ok p) below = wider seats most few p.journal.events below
seated seats most few (Err e) below = tt

pub workers_at-workers-requires : goal.workers_at-workers-requires
workers_at-workers-requires g c = record { some = c.requires.can.crew.some }

pub parallel_pass_parts-requires-clause-can : goal.parallel_pass_parts-requires-clause-can
parallel_pass_parts-requires-clause-can g c κs within =
    let can = c.requires.can in
    record {
      guide = can.guide;
      eps_low = can.eps_low;
      eps_high = can.eps_high;
      goal = can.goal;
      crew = record {
        some = c.workers_at-workers.ensures.some;
        few = omega (arith, c.workers_at-workers.ensures.few, can.crew.few);
      };
      ready = can.ready;
      over = can.over;
    }

pub returns : goal.returns
returns g c =
    let left = c.parallel_pass_parts.ensures.left in
    record {
      left = record {
        finished = left.finished;
        seats = seated _ _ c.workers_at-workers.ensures.few c.parallel_pass_parts.result left.seats;
        over = left.over;
        given_up = left.given_up;
        over_left = left.over_left;
      };
    }
