pub mod Checking
pub use Rattle.sbpl_worlds.specs.sbpl_fixed as sbpl_fixed
pub use Rattle.sbpl_worlds.specs.sbpl_desk as sbpl_desk
pub use Rattle.sbpl_worlds.specs.sbpl_mprim as sbpl_mprim
pub use Rattle.sbpl_worlds.specs.sbpl_cost as sbpl_cost
pub use Rattle.sbpl_worlds.specs.sbpl_demo as sbpl_demo
pub use Rattle.sbpl_worlds.specs.sbpl_job as sbpl_job
pub use Rattle.sbpl_worlds.specs.sbpl_report as sbpl_report
pub use Rattle.sbpl_worlds.specs.sbpl_promises as sbpl_promises
pub use Rattle.sbpl_worlds.specs.sbpl_lists as sbpl_lists
pub use Rattle.sbpl_worlds.specs.sbpl_cert as sbpl_cert
pub use Rattle.sbpl_telling.specs as sbpl_telling
