-- The site of a workspace, as proofs know it.
use Rattle.sbpl_promises.specs.sbpl_graph.declared.graph.Graph as graph
use Rattle.sbpl_promises.specs.sbpl_terrain.declared.terrain.Terrain as terrain
use Rattle.sbpl_promises.specs.Sites.{Site}
use Rattle.sbpl_worlds.specs.declared.workspace.Workspace as workspace

-- what contracts name 'W.Workspace', of the ghost members of each of the three traits
abbrev pub site_of : {W Best : Type 0} → graph.Ghosts W → terrain.Ghosts W → workspace.Ghosts W Best → Site W
site_of n t w = record { network = n.network; cells = t.cells; says = w.says; reporting = w.reporting }
