pub mod Cells
pub mod Ends
pub mod Reading
pub mod Noted
pub mod ChangedEnds
pub mod Affected
pub use Rattle.sbpl_graph.specs as sbpl_graph
pub use Rattle.sbpl_map.specs.sbpl_cfg as sbpl_cfg
pub use Rattle.sbpl_map.specs as sbpl_map
pub use Rattle.sbpl_map.specs.sbpl_lists as sbpl_lists
