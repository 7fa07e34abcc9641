pub mod Endings
pub use Rattle.sbpl_checks.specs.sbpl_desk as sbpl_desk
pub use Rattle.sbpl_checks.specs.sbpl_job as sbpl_job
pub use Rattle.sbpl_checks.specs.sbpl_promises as sbpl_promises
pub use Rattle.sbpl_checks.specs.sbpl_telling as sbpl_telling
pub use Rattle.sbpl_checks.specs.sbpl_report as sbpl_report
pub use Rattle.sbpl_plans.specs as sbpl_plans
