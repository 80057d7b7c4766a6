pub mod Counts
pub mod NearCells
pub mod Turns
pub mod Orders
