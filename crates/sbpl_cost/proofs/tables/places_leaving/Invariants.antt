use Rattle.std.proofs.Common.{◌≡◌, ◌==◌, take}
use Rattle.sbpl_cost.specs.Lattices.{indices_from}
use Rattle.sbpl_cost.proofs.tables.places_leaving.Given as goal

abbrev pub invariant-loop-i : goal.invariant-loop-i
invariant-loop-i l = l.places.items ≡ indices_from (λ p. p.from == l.t) 0 (take l.i l.prims.items)
