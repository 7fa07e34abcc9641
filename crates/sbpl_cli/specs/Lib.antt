pub mod Answered
pub use Rattle.sbpl_jobs.specs.sbpl_plans as sbpl_plans
pub use Rattle.sbpl_jobs.specs.sbpl_promises as sbpl_promises
