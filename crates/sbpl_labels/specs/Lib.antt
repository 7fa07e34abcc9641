pub mod Counts
pub mod Marks
pub mod Rows
pub mod CutOff
pub mod Chain
pub mod Recomputed
pub mod Walks
pub mod Ways
pub mod Cut
pub use Rattle.sbpl_graph.specs as sbpl_graph
