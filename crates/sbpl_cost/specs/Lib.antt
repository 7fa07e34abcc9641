pub mod Strips
pub mod Walls
pub mod PrimitiveCost
pub mod Ends
pub mod Reading
pub mod States
pub mod World
pub mod Arc
pub mod Lattices
pub mod Checked
pub mod Tables
pub mod Judging
pub mod Reaches
pub mod Gaps
pub mod Rates
pub mod Alike
pub mod TailOrder
pub mod Reads
pub mod Cells
pub use Rattle.sbpl_terrain.specs.sbpl_graph as sbpl_graph
pub use Rattle.sbpl_sweep.specs.sbpl_cfg as sbpl_cfg
pub use Rattle.sbpl_sweep.specs.sbpl_mprim as sbpl_mprim
pub use Rattle.sbpl_terrain.specs.sbpl_map as sbpl_map
pub use Rattle.sbpl_terrain.specs as sbpl_terrain
pub use Rattle.sbpl_sweep.specs as sbpl_sweep
