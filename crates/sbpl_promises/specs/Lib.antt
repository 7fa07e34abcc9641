pub mod Sites
pub mod LatticeSite
pub mod GridSite
pub mod Asked
pub mod Writing
pub mod Published
pub mod Checked
pub mod Intents
pub mod Texts
pub mod WorldFiles
pub mod Clear
pub mod Blocked
pub mod Headline
pub mod Causes
pub mod Promises
pub mod Explained
pub mod WriteTexts
pub mod Determined
pub mod Run
pub mod RunPromises
pub use Rattle.sbpl_report.specs.sbpl_graph as sbpl_graph
pub use Rattle.sbpl_report.specs.sbpl_fixed as sbpl_fixed
pub use Rattle.sbpl_desk.specs as sbpl_desk
pub use Rattle.sbpl_report.specs.sbpl_cfg as sbpl_cfg
pub use Rattle.sbpl_report.specs.sbpl_mprim as sbpl_mprim
pub use Rattle.sbpl_report.specs.sbpl_map as sbpl_map
pub use Rattle.sbpl_report.specs.sbpl_terrain as sbpl_terrain
pub use Rattle.sbpl_report.specs.sbpl_sweep as sbpl_sweep
pub use Rattle.sbpl_report.specs.sbpl_cost as sbpl_cost
pub use Rattle.sbpl_demo.specs as sbpl_demo
pub use Rattle.sbpl_replan.specs.sbpl_back as sbpl_back
pub use Rattle.sbpl_nav2d.specs as sbpl_nav2d
pub use Rattle.sbpl_report.specs.sbpl_labels as sbpl_labels
pub use Rattle.sbpl_report.specs.sbpl_search as sbpl_search
pub use Rattle.sbpl_report.specs.sbpl_serial as sbpl_serial
pub use Rattle.sbpl_replan.specs.sbpl_ara as sbpl_ara
pub use Rattle.sbpl_replan.specs.sbpl_adstar as sbpl_adstar
pub use Rattle.sbpl_replan.specs.sbpl_heur as sbpl_heur
pub use Rattle.sbpl_report.specs.sbpl_incumbent as sbpl_incumbent
pub use Rattle.sbpl_epase.specs as sbpl_epase
pub use Rattle.sbpl_report.specs.sbpl_cert as sbpl_cert
pub use Rattle.sbpl_report.specs.sbpl_plan as sbpl_plan
pub use Rattle.sbpl_replan.specs as sbpl_replan
pub use Rattle.sbpl_report.specs.sbpl_job as sbpl_job
pub use Rattle.sbpl_report.specs as sbpl_report
pub use Rattle.sbpl_report.specs.sbpl_lists as sbpl_lists
