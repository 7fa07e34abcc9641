pub mod Walks
pub mod Hops
pub mod Boards
pub mod Weights
pub mod Followed
pub mod Spots
pub mod Caps
pub mod Bests
pub use Rattle.sbpl_cost.specs.sbpl_map as sbpl_map
pub use Rattle.sbpl_cost.specs.sbpl_terrain as sbpl_terrain
pub use Rattle.sbpl_cost.specs as sbpl_cost
pub use Rattle.sbpl_serial.specs as sbpl_serial
