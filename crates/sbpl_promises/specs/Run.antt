-- What the clauses of `run` name.
pub use Rattle.sbpl_report.specs.sbpl_cert.declared.outcome.Outcome.{Outcome}
pub use Rattle.sbpl_report.specs.sbpl_cfg.Environment.{Environment}
pub use Rattle.sbpl_report.specs.sbpl_cfg.declared.fault.EnvFault.{EnvFault}
pub use Rattle.sbpl_promises.specs.Sites.{searched_on}
pub use Rattle.sbpl_promises.specs.Causes.{grid_scope, scope_of}
pub use Rattle.sbpl_promises.specs.Checked.{IsHolding}
pub use Rattle.sbpl_promises.specs.Determined.{ArePrefixes, AreTold, CallsFor, IsDeterminedJob, IsNoFailure, NoneRose}
pub use Rattle.sbpl_promises.specs.Intents.{Intent, checked_status, intent_status, refusal_writes, words_writes, writes_of}
pub use Rattle.sbpl_report.specs.Refusals.{refusal_status}
pub use Rattle.sbpl_promises.specs.Promises.{AreGood, ReadsFrom, AtJob, EndsJob, EndsRun, IsCutShort, IsCheckedIn, IsDone, IsFaultFound, IsFlawFound, IsNoCheck, IsOrFailed, IsOrUnwritten, IsRefused, IsStatus, EndsWithoutMemory, MayBeWritten, SomeRose, Tells, TellsChangeFault, TellsUpdates, TellsEndOff, TellsEnvironment, TellsEnvironmentFault, TellsPrimitiveFault, TellsPrimitives, TellsTooMuch, TellsWorld, TellsGrid, TellsGridEndOff, TellsGridFault, IsOnGrid, changes_of, grid_of, sources_of}
pub use Rattle.sbpl_promises.specs.GridSite.{grid_site}
pub use Rattle.sbpl_promises.specs.LatticeSite.{lattice_site}
pub use Rattle.sbpl_nav2d.specs.World.{GridWorld}
pub use Rattle.sbpl_report.specs.sbpl_job.declared.job.NavCheckJob.{NavCheckJob}
pub use Rattle.sbpl_promises.specs.declared.updates.Updates.{Updates}
pub use Rattle.sbpl_promises.specs.Texts.{Scope}
pub use Rattle.sbpl_promises.specs.declared.section_stop.SectionStop.{SectionStop}
pub use Rattle.sbpl_report.specs.sbpl_cost.PrimitiveCost.{IsFirstTooDear}
pub use Rattle.sbpl_report.specs.sbpl_cost.World.{World}
pub use Rattle.sbpl_report.specs.sbpl_job.Jobs.{IsJob, job_named, job_of, moves_in}
pub use Rattle.sbpl_report.specs.sbpl_job.declared.job.CheckJob.{CheckJob}
pub use Rattle.sbpl_report.specs.sbpl_job.declared.job.DemoJob.{DemoJob}
pub use Rattle.sbpl_report.specs.sbpl_job.declared.job.Job.{Job}
pub use Rattle.sbpl_report.specs.sbpl_job.declared.job.GridSources.{GridSources}
pub use Rattle.sbpl_report.specs.sbpl_job.declared.job.Sources.{Sources}
pub use Rattle.sbpl_report.specs.declared.refusal.PathEnd.{PathEnd}
pub use Rattle.sbpl_report.specs.sbpl_map.declared.fault.ChangeFault.{ChangeFault}
pub use Rattle.sbpl_report.specs.sbpl_mprim.Primitives.{Primitives}
pub use Rattle.sbpl_report.specs.sbpl_mprim.declared.fault.PrimFault.{PrimFault}
pub use Rattle.sbpl_report.specs.sbpl_sweep.Widths.{IsFirstTooWide, NoneTooWide}
