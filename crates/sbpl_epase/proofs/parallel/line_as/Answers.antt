use Rattle.sbpl_epase.proofs.Seats.{even_from_nothing, sums_even}
use Rattle.sbpl_epase.proofs.parallel.line_as.Goals as goal

pub run_workers-seats-requires-clause-even : goal.run_workers-seats-requires-clause-even
run_workers-seats-requires-clause-even g c κs within =
    even_from_nothing c.in_ok-shared.seats.items c.in_ok-shared.ensures.none

pub finish-core-requires-clause-even : goal.finish-core-requires-clause-even
finish-core-requires-clause-even g c = sums_even c.run_workers-seats.result.0.items c.run_workers-seats.ensures.even

pub returns-in-Ok-clause-seats : goal.returns-in-Ok-clause-seats
returns-in-Ok-clause-seats g c = rw (← c.requires.parts) c.finish-core.ensures.told
