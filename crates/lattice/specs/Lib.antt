pub mod Cells
pub mod Matrices
pub mod Lattices
pub mod Refusals
pub mod Kinds
pub mod Rows
pub mod Coordinates
