mod ListLaws
mod BitLaws
pub mod Lines
