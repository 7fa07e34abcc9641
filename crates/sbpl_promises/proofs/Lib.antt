pub mod CausesOn
