use Rattle.std.proofs.Common.{false}
use Rattle.sbpl_plan.specs.sbpl_search.Query.{query}
use Rattle.tests_maps.specs.Pair.{pair}
use Rattle.tests_maps.proofs.held.posted_while_the_lock_is_held.Given as goal

abbrev pub ghosts-posts_from-M-Naming : goal.ghosts-posts_from-M-Naming
ghosts-posts_from-M-Naming g a = record { table = a.claims }

abbrev pub ghosts-posts_from-M-Second : goal.ghosts-posts_from-M-Second
ghosts-posts_from-M-Second g a = record { takes = a.takes.name; parts = 2 }

abbrev pub ghosts-posts_from-N-Pass : goal.ghosts-posts_from-N-Pass
ghosts-posts_from-N-Pass g a =
    record { query = query pair (λ s. 0) 1000 1; counts = a.budget; opening = a.labels; keeps = false }
