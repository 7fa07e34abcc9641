pub mod LineLaws
mod PlanLaws
mod Ranges
