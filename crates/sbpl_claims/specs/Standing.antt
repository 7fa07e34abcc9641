-- What the holder of the lock knows of the tickets that are out.
use Rattle.std.specs.Prelude.{ℕ, List}
use Rattle.sbpl_frontier_rules.specs.declared.leg.Leg.{Leg}

-- the arcs that are out, in the order in which they went out, and the next ticket number
pub record Standing : Type 0 where
  pub out : List Leg
  pub next : ℕ
