pub mod Integers
pub mod Products
pub mod Numbers
pub mod Lawful
pub mod Rising
pub mod Uses
pub mod Undoing
pub mod Columns
