pub mod Sources
pub mod Conditions
