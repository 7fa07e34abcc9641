use Rattle.std.proofs.Common.{◌*◌, ◌-◌, ◌%◌}
use Rattle.sbpl_nav2d.specs.Adding.{Adds, ReadsBelow}
use Rattle.sbpl_nav2d.specs.Grids.{network_of}
use Rattle.sbpl_nav2d.proofs.reading.push_ends.Given as goal

-- the ends of the arcs in the directions so far are added: two for a straight one, and four for a diagonal
abbrev pub invariant-loop-k : goal.invariant-loop-k
invariant-loop-k l =
    Adds l.end (network_of l.nav) (ReadsBelow l.nav l.k l.cell) l.fn.into.items l.into.items (3 * l.k - l.k % 2)
