pub mod Sieving
pub mod Conditions
