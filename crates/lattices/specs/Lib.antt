pub mod Plane
pub mod Square
pub mod Hex
pub mod Cubic
pub mod Lawful
pub mod CubicTable
pub mod Names
