-- Plans on a lattice from the start to the goal, by the best heuristic.
use Rattle.sbpl_heur.specs.sbpl_cost.Lattices.{network_of}
use Rattle.sbpl_heur.specs.sbpl_cost.World.{World}
use Rattle.sbpl_heur.specs.Bests.{IsBestGuide, Table}
use Rattle.sbpl_replan.specs.Replanning.{IsReady, SessionState}
use Rattle.sbpl_plan.specs.sbpl_search.Meaning.{Meaning}

-- a plan may begin
abbrev pub IsReadyOn : {Action : Type 0} → Meaning Action → SessionState Action Table World → Type 0
IsReadyOn means s = IsReady means network_of (λ b v goal. IsBestGuide v goal b) s
