pub mod Replanning
pub mod OnLattice
pub use Rattle.sbpl_plan.specs.sbpl_graph as sbpl_graph
pub use Rattle.sbpl_heur.specs.sbpl_cost as sbpl_cost
pub use Rattle.sbpl_back.specs as sbpl_back
pub use Rattle.sbpl_adstar.specs.sbpl_ara as sbpl_ara
pub use Rattle.sbpl_adstar.specs as sbpl_adstar
pub use Rattle.sbpl_heur.specs as sbpl_heur
pub use Rattle.sbpl_plan.specs as sbpl_plan
