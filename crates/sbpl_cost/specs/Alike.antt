-- Worlds that are one lattice.
use Rattle.std.specs.Prelude.{◌≡◌}
use Rattle.sbpl_cost.specs.World.{World, IsWorld}
use Rattle.sbpl_cost.specs.Lattices.{network_of}

-- two worlds with the same environment, primitives, map and radius are one graph, even where their tables of sweeps differ
abbrev pub AlikeWorldsAreOneGraph : Type 0
AlikeWorldsAreOneGraph = (w v : World) → IsWorld w → IsWorld v → v.env ≡ w.env → v.prims ≡ w.prims → v.map ≡ w.map → v.sweeps.radius ≡ w.sweeps.radius → network_of v ≡ network_of w
